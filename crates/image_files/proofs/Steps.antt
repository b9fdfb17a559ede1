-- One command of those that link files: it isn't refused, and fills its hole.
use Rattle.std.proofs.Common.{◌≡◌, ◌≢◌, ℕ, ◌+◌, ◌-◌, ◌%◌, ◌^◌, ◌<◌, inl, inr, List, [], ◌∷◌, Some, None, IsSome}
use Rattle.std.proofs.Common.{MatchOption, slice_index, slice_set, refl, ap, ap₂, sym, subst, ◌∙◌, arith}
use Rattle.std.specs.List.{AllByRecursion}
use Rattle.std.specs.Option.{option_map, option_map_or}
use Rattle.std.specs.Str.{bytes_eq}
use Rattle.std.proofs.lemmas.Bool.{cases_Bool, cond-true, cond-false}
use Rattle.vt_bytes.specs.Numbers.{le, le_bytes, byte_sum}
use Rattle.vt_bytes.specs.Parts.{part, put_at}
use Rattle.vt_layout.specs.Rows.{places_end}
use Rattle.blob_holes.specs.declared.hole.PointerHole.{PointerHole}
use Rattle.blob_holes.specs.declared.hole.SumHole.{SumHole}
use Rattle.blob_holes.proofs.Pointers.{put_number, number_in}
use Rattle.blob_holes.proofs.Sums.{one_summed}
use Rattle.loader_script.specs.declared.entry.Entry.{Entry}
use Rattle.vt_outside.specs.File.{File}
use Rattle.vt_outside.proofs.Texts.{same_text}
use Rattle.loader_script.specs.Run.{Placed, Progress, file_of, placed_of, place_of, placed_with, pointer_sum, with_pointer, with_sum}
use Rattle.loader_script.specs.Run.{cause_of, carried_out}
use Rattle.loader_script.proofs.Conditions.{conditions_suffice}
use Rattle.image_files.specs.Files.{ImageFile}
use Rattle.image_files.specs.Script.{add_pointer, add_checksum}
use Rattle.image_files.specs.Linkable.{AreDistinct, IsPlacedName, HasNoHoles, CanBePlaced, IsLinkableFile, LeadsAmong, AreLinkable}
use Rattle.image_files.specs.Orders.{MayPrecede}
use Rattle.image_files.specs.Linked.{BeginsWith}
use Rattle.image_files.proofs.Among.{IsOneOf, of_one}
use Rattle.image_files.proofs.Filling.{IsFilledBut, filled-other, not_both, pointer_name, sum_name, pointer_within, sum_within, pointer_still}
use Rattle.image_files.proofs.Filling.{pointer_filled, sum_filled}
use Rattle.image_files.proofs.Standing.{Standing, standing_changed, standing_at, names_differ, one_named, head_with, name-head_with}
use Rattle.image_files.proofs.Standing.{place-head_with, placed_of-with, place_of-with}

-- A file stands at its place, as the one of its name, with its holes filled but for those whose commands are still to come.
pub record IsStanding (files : List ImageFile) (pl : List ℕ → ℕ) (rest : List Entry) (placed : List Placed) (file : ImageFile) (place : ℕ) (p : Placed) :
    Type 0 where
  pub one : IsOneOf files file
  pub name : p.name ≡ file.name
  pub place_is : p.place ≡ place
  pub found : placed_of placed p.name ≡ Some p
  pub filled : IsFilledBut rest file.name file.blob pl p.bytes

-- a file that has pointers is placed
has_pointer : (file : ImageFile) (hole : PointerHole) → IsLinkableFile file → IsOneOf file.blob.pointers hole → IsSome file.placing
has_pointer file hole linkable one =
    (elim file.placing as (λ o. MatchOption o (HasNoHoles file.blob) (CanBePlaced file) → IsSome o) [
      | None ↦ λ without. absurd (subst (λ (holes : List PointerHole). IsOneOf holes hole) without.0 one)
      | Some placing ↦ λ can. refl
    ]) linkable.placed

-- and so is one that has sums
has_sum : (file : ImageFile) (hole : SumHole) → IsLinkableFile file → IsOneOf file.blob.sums hole → IsSome file.placing
has_sum file hole linkable one =
    (elim file.placing as (λ o. MatchOption o (HasNoHoles file.blob) (CanBePlaced file) → IsSome o) [
      | None ↦ λ without. absurd (subst (λ (holes : List SumHole). IsOneOf holes hole) without.1 one)
      | Some placing ↦ λ can. refl
    ]) linkable.placed

-- a name of a placed file is a file's that is placed
placed_name : (files : List ImageFile) (name : List ℕ) → IsPlacedName files name
    → (file : ImageFile) × IsOneOf files file × (file.name ≡ name) × IsSome file.placing
placed_name [] name is = absurd is
placed_name (first ∷ files) name is =
    elim is as (λ _. (file : ImageFile) × IsOneOf (first ∷ files) file × (file.name ≡ name) × IsSome file.placing) [
      | inl here ↦ (first, inl refl, here.0, here.1)
      | inr later ↦ let file = placed_name files name later in (file.0, inr file.1, file.2, file.3)
    ]

-- Once a command of a file has made these bytes of it, the others stand as before.
standing-next : (files : List ImageFile) (pl : List ℕ → ℕ) (command : Entry) (rest : List Entry) (placed : List Placed) (own : ImageFile) (bytes : List ℕ)
    → AreDistinct files → IsOneOf files own
    → ((name : List ℕ) (hole : PointerHole) → name ≢ own.name → command ≡ add_pointer name hole → ⊥)
    → ((name : List ℕ) (hole : SumHole) → name ≢ own.name → command ≡ add_checksum name hole → ⊥)
    → IsFilledBut rest own.name own.blob pl bytes → (places : List ℕ) → Standing (IsStanding files pl (command ∷ rest) placed) files places placed
    → Standing (IsStanding files pl rest (placed_with placed own.name bytes)) files places (placed_with placed own.name bytes)
standing-next files pl command rest placed own bytes distinct own_one no_pointer no_sum filled places standing =
    standing_changed (IsStanding files pl (command ∷ rest) placed) (IsStanding files pl rest (placed_with placed own.name bytes))
    (λ p. head_with p own.name bytes) (λ file place p is. record {
      one = is.one;
      name = name-head_with p own.name bytes ∙ is.name;
      place_is = place-head_with p own.name bytes ∙ is.place_is;
      found = ap (placed_of (placed_with placed own.name bytes)) (name-head_with p own.name bytes) ∙ placed_of-with placed own.name bytes p.name
          ∙ ap (option_map (λ (q : Placed). head_with q own.name bytes)) is.found;
      filled = elim (cases_Bool (bytes_eq p.name own.name)) as (λ _. IsFilledBut rest file.name file.blob pl (head_with p own.name bytes).bytes) [
        | inl same ↦
            let is_own : own ≡ file = one_named files own file distinct own_one is.one (sym (same_text p.name own.name same) ∙ is.name) in
            let with : (head_with p own.name bytes).bytes ≡ bytes = ap (λ (q : Placed). q.bytes) (cond-true _ (record p { bytes = bytes }) p same) in
            subst (λ (bs : List ℕ). IsFilledBut rest file.name file.blob pl bs) (sym with)
            (subst (λ (f : ImageFile). IsFilledBut rest f.name f.blob pl bytes) is_own filled)
        | inr other ↦
            let differ : file.name ≢ own.name = λ same. names_differ p.name own.name other (is.name ∙ same) in
            let with : (head_with p own.name bytes).bytes ≡ p.bytes = ap (λ (q : Placed). q.bytes) (cond-false _ (record p { bytes = bytes }) p other) in
            subst (λ (bs : List ℕ). IsFilledBut rest file.name file.blob pl bs) (sym with)
            (filled-other command rest file.name file.blob pl p.bytes (λ hole. no_pointer file.name hole differ) (λ hole. no_sum file.name hole differ)
            is.filled)
      ];
    }) standing

-- what an AddPointer adds up, once its files are found
sum_of : (placed : List Placed) (dest src : List ℕ) (offset size : ℕ) (d s : Placed) → placed_of placed dest ≡ Some d → placed_of placed src ≡ Some s
    → pointer_sum placed dest src offset size ≡ le (part d.bytes offset size) + s.place
sum_of placed dest src offset size d s found source_found = rw (found, source_found) refl

-- what it makes of the placed files
with_pointer-is : (placed : List Placed) (dest src : List ℕ) (offset size : ℕ) (d s : Placed) → placed_of placed dest ≡ Some d
    → placed_of placed src ≡ Some s
    → with_pointer dest src offset size placed ≡ placed_with placed dest (put_at d.bytes offset (le_bytes size (le (part d.bytes offset size) + s.place)))
with_pointer-is placed dest src offset size d s found source_found = rw (found, source_found) refl

-- and an AddChecksum
with_sum-is : (placed : List Placed) (name : List ℕ) (offset start count : ℕ) (d : Placed) → placed_of placed name ≡ Some d
    → with_sum name offset start count placed
    ≡ placed_with placed name (slice_set d.bytes offset ((slice_index d.bytes offset + (256 - byte_sum (part d.bytes start count))) % 256))
with_sum-is placed name offset start count d found = rw found refl

-- how far a run is with all places given
abbrev pub all_given : List File → List Placed → Progress
all_given loaded placed = record { files = loaded; placed = placed; places = [] }

-- A command is carried out, and the files stand with those of the later commands still to come.
pub record IsCarriedOut (files : List ImageFile) (loaded : List File) (pl : List ℕ → ℕ) (command : Entry) (rest : List Entry) (places : List ℕ)
    (placed : List Placed) : Type 0 where
  pub next : List Placed
  pub standing : Standing (IsStanding files pl rest next) files places next
  pub places_stay : (name : List ℕ) → place_of next name ≡ place_of placed name
  pub none : cause_of command (all_given loaded placed) ≡ None
  pub carried : carried_out command (all_given loaded placed) ≡ Some (all_given loaded next)

-- Files that can be linked, those of fw_cfg among which they are, and where each stands, below 3 GiB.
module _ (files : List ImageFile) (loaded : List File) (pl : List ℕ → ℕ) (linkable : AreLinkable files) (begins : BeginsWith loaded files)
    (low : (name : List ℕ) → pl name < places_end) where
  -- a file's bytes in fw_cfg
  there : (file : ImageFile) → IsOneOf files file
      → file_of loaded file.name ≡ Some (record { name = file.name; bytes = file.blob.bytes; writable = file.writable })
  there file one =
      of_one (λ (f : ImageFile). file_of loaded f.name ≡ Some (record { name = f.name; bytes = f.blob.bytes; writable = f.writable })) files file one begins

  -- a pointer is added to its field
  pub pointer_carried : (rest : List Entry) (places : List ℕ) (placed : List Placed) (own : ImageFile) (hole : PointerHole) → IsOneOf files own
      → IsOneOf own.blob.pointers hole → AllByRecursion (MayPrecede (add_pointer own.name hole)) rest
      → ((name : List ℕ) → place_of placed name ≡ pl name)
      → Standing (IsStanding files pl (add_pointer own.name hole ∷ rest) placed) files places placed
      → IsCarriedOut files loaded pl (add_pointer own.name hole) rest places placed
  unfolding carried_out
  pointer_carried rest places placed own hole own_one one first places_are standing =
      let able : IsLinkableFile own = of_one IsLinkableFile files own own_one linkable.each in
      let at = standing_at (IsStanding files pl (add_pointer own.name hole ∷ rest) placed) own standing own_one (has_pointer own hole able one) in
      let is : IsStanding files pl (add_pointer own.name hole ∷ rest) placed own at.0 at.1 = at.2 in
      let found : placed_of placed own.name ≡ Some at.1 = ap (placed_of placed) (sym is.name) ∙ is.found in
      let leads : IsPlacedName files hole.target =
      of_one (λ (h : PointerHole). IsPlacedName files h.target) own.blob.pointers hole one (of_one (LeadsAmong files) files own own_one linkable.leads) in
      let source = placed_name files hole.target leads in
      let source_at = standing_at (IsStanding files pl (add_pointer own.name hole ∷ rest) placed) source.0 standing source.1 source.3 in
      let source_is : IsStanding files pl (add_pointer own.name hole ∷ rest) placed source.0 source_at.0 source_at.1 = source_at.2 in
      let source_found : placed_of placed hole.target ≡ Some source_at.1 =
      ap (placed_of placed) (sym source.2 ∙ sym source_is.name) ∙ source_is.found in
      let source_there = ap (file_of loaded) (sym source.2) ∙ there source.0 source.1 in
      let place : source_at.1.place ≡ pl hole.target =
      sym (ap (λ o. option_map_or (λ (p : Placed). p.place) o 0) source_found) ∙ places_are hole.target in
      let within = pointer_within own.blob.bytes own.blob.pointers hole one able.blob.pointers in
      let fits : number_in own.blob.bytes hole + pl hole.target < 256 ^ hole.size =
      of_one (λ (h : PointerHole). le (part own.blob.bytes h.at h.size) + pl h.target < 256 ^ h.size) own.blob.pointers hole one (able.linkable.fit pl low) in
      let still : number_in at.1.bytes hole ≡ number_in own.blob.bytes hole =
      pointer_still rest own.name own.blob pl at.1.bytes hole able.blob one first is.filled in
      let bytes : List ℕ = put_number at.1.bytes hole (number_in at.1.bytes hole + pl hole.target) in
      let sum : pointer_sum placed own.name hole.target hole.at hole.size ≡ number_in own.blob.bytes hole + pl hole.target =
      sum_of placed own.name hole.target hole.at hole.size at.1 source_at.1 found source_found ∙ ap₂ ◌+◌ still place in
      record {
        next = placed_with placed own.name bytes;
        standing = standing-next files pl (add_pointer own.name hole) rest placed own bytes linkable.distinct own_one
            (λ name other differ same. differ (sym (pointer_name own.name name hole other same)))
            (λ name other differ same. not_both own.name name hole other same)
            (pointer_filled rest own.name own.blob pl at.1.bytes hole able.blob one first is.filled fits) places standing;
        places_stay = place_of-with placed own.name bytes;
        none = conditions_suffice (add_pointer own.name hole) (all_given loaded placed) (record {
          file = record { name = own.name; bytes = own.blob.bytes; writable = own.writable };
          source = record { name = source.0.name; bytes = source.0.blob.bytes; writable = source.0.writable };
          there = there own own_one;
          source_there = source_there;
          d = at.1;
          s = source_at.1;
          placed = found;
          source_placed = source_found;
          sized = within.0;
          within = within.1;
          fits = subst (λ n. n < 256 ^ hole.size) (sym sum) fits;
        });
        carried = ap (λ (ps : List Placed). Some (all_given loaded ps))
            (with_pointer-is placed own.name hole.target hole.at hole.size at.1 source_at.1 found source_found
            ∙ ap (λ place. placed_with placed own.name (put_number at.1.bytes hole (number_in at.1.bytes hole + place))) place);
      }

  -- a sum is subtracted from its byte
  pub sum_carried : (rest : List Entry) (places : List ℕ) (placed : List Placed) (own : ImageFile) (hole : SumHole) → IsOneOf files own
      → IsOneOf own.blob.sums hole → AllByRecursion (MayPrecede (add_checksum own.name hole)) rest
      → Standing (IsStanding files pl (add_checksum own.name hole ∷ rest) placed) files places placed
      → IsCarriedOut files loaded pl (add_checksum own.name hole) rest places placed
  unfolding carried_out
  sum_carried rest places placed own hole own_one one first standing =
      let able : IsLinkableFile own = of_one IsLinkableFile files own own_one linkable.each in
      let at = standing_at (IsStanding files pl (add_checksum own.name hole ∷ rest) placed) own standing own_one (has_sum own hole able one) in
      let is : IsStanding files pl (add_checksum own.name hole ∷ rest) placed own at.0 at.1 = at.2 in
      let found : placed_of placed own.name ≡ Some at.1 = ap (placed_of placed) (sym is.name) ∙ is.found in
      let within = sum_within own.blob.bytes own.blob.sums hole one able.blob.sums in
      let bytes : List ℕ = one_summed at.1.bytes hole in
      record {
        next = placed_with placed own.name bytes;
        standing = standing-next files pl (add_checksum own.name hole) rest placed own bytes linkable.distinct own_one
            (λ name other differ same. not_both name own.name other hole (sym same))
            (λ name other differ same. differ (sym (sum_name own.name name hole other same)))
            (sum_filled rest own.name own.blob pl at.1.bytes hole able.blob one first is.filled) places standing;
        places_stay = place_of-with placed own.name bytes;
        none = conditions_suffice (add_checksum own.name hole) (all_given loaded placed) (record {
          file = record { name = own.name; bytes = own.blob.bytes; writable = own.writable };
          there = there own own_one;
          d = at.1;
          placed = found;
          byte = omega (arith, within.0, within.2);
          range = within.0;
        });
        carried = ap (λ (ps : List Placed). Some (all_given loaded ps)) (with_sum-is placed own.name hole.at hole.start hole.length at.1 found);
      }
