-- The Allocates of a script, which place its files one after the other.
use Rattle.std.proofs.Common.{◌≡◌, ℕ, suc, ◌+◌, ◌<◌, ◌≤◌, ◌⊎◌, false, inl, inr, List, [], ◌∷◌, ◌++◌, length, Option, Some, None, is_some}
use Rattle.std.proofs.Common.{MatchOption, refl, ap, ap₂, sym, subst, ◌∙◌, arith, append_assoc, append-nil}
use Rattle.std.specs.List.{AllByRecursion, flat_map}
use Rattle.std.specs.Option.{option_map_or}
use Rattle.std.specs.Str.{bytes_eq}
use Rattle.std.proofs.lemmas.Bool.{cases_Bool, cond-true, cond-false}
use Rattle.std.proofs.lemmas.Option.{none-some}
use Rattle.vt_bytes.proofs.Each.{each_from}
use Rattle.vt_layout.specs.Rows.{places_end}
use Rattle.vt_outside.specs.Placement.{Range}
use Rattle.loader_script.specs.declared.entry.Entry.{Entry}
use Rattle.loader_script.specs.declared.entry.Entry.TheVariants.{Allocate}
use Rattle.vt_outside.specs.File.{File}
use Rattle.vt_outside.proofs.Texts.{other_turned}
use Rattle.loader_script.specs.Run.{Placed, Progress, placed_of, bytes_of, cause_of, carried_out, run_from}
use Rattle.loader_script.proofs.Conditions.{conditions_suffice}
use Rattle.loader_script.proofs.Runs.{goes-on}
use Rattle.image_files.specs.declared.file.Placing.{Placing}
use Rattle.zone_alloc.specs.declared.zone.Zone.{Zone}
use Rattle.zone_alloc.specs.declared.zone.Zone.TheVariants.{High, Fseg}
use Rattle.zone_alloc.specs.Zones.{zone_range, number_of_zone}
use Rattle.image_files.specs.Files.{ImageFile}
use Rattle.image_files.specs.Script.{allocation}
use Rattle.image_files.specs.Linkable.{AreDistinct, HasNoHoles, CanBePlaced, IsLinkableFile}
use Rattle.image_files.specs.Places.{range_at, MayStand, ArePlaces}
use Rattle.image_files.specs.Linked.{BeginsWith}
use Rattle.image_files.proofs.Standing.{Standing, none, past, here}
use Rattle.image_files.proofs.Steps.{all_given}

-- A file stands at its place as it was made, below 3 GiB.
pub record IsNew (file : ImageFile) (place : ℕ) (p : Placed) : Type 0 where
  pub name : p.name ≡ file.name
  pub place_is : p.place ≡ place
  pub bytes : p.bytes ≡ file.blob.bytes
  pub low : place < places_end

-- the number of a zone is known to an Allocate
known_zone : (zone : Zone) → (number_of_zone zone ≡ 1) ⊎ (number_of_zone zone ≡ 2)
known_zone High = inl refl
known_zone Fseg = inr refl

-- each zone ends below 3 GiB where the top does
zone_low : (top : ℕ) → top ≤ 0xC0000000 → (zone : Zone) → (zone_range top zone).end ≤ places_end
zone_low top at_most High = omega arith
zone_low top at_most Fseg = omega arith

-- so a file that isn't empty is placed there
place_low : (top : ℕ) (handed : List Range) (file : ImageFile) (placing : Placing) (place : ℕ) → top ≤ 0xC0000000 → 0 < length file.blob.bytes
    → MayStand top handed file placing place → place < places_end
place_low top handed file placing place at_most some stands =
    let zone = zone_low top at_most placing.zone in
    let within = stands.within in
    omega arith

-- a name that no placed file has is still free behind another one
fresh-push : (placed : List Placed) (q : Placed) (name : List ℕ) → placed_of placed name ≡ None → bytes_eq q.name name ≡ false
    → placed_of (placed ++ q ∷ []) name ≡ None
fresh-push [] q name fresh other = cond-false _ _ _ other
fresh-push (p ∷ placed) q name fresh other =
    elim (cases_Bool (bytes_eq p.name name)) as (λ _. placed_of ((p ∷ placed) ++ q ∷ []) name ≡ None) [
      | inl same ↦ absurd (none-some p (sym fresh ∙ cond-true _ _ _ same))
      | inr differ ↦ cond-false _ _ _ differ ∙ fresh-push placed q name (sym (cond-false _ _ _ differ) ∙ fresh) other
    ]

-- how far a run is
abbrev pub so_far : List File → List Placed → List ℕ → Progress
so_far loaded placed places = record { files = loaded; placed = placed; places = places }

-- The Allocates of files are carried out: each file stands at its place behind those that were placed before, and the script goes on.
pub record AreAllocated (index : ℕ) (files : List ImageFile) (loaded : List File) (places : List ℕ) (placed : List Placed) (later : List Entry) :
    Type 0 where
  pub more : List Placed
  pub standing : Standing IsNew files places more
  pub runs : run_from index (flat_map allocation files ++ later) (so_far loaded placed places)
      ≡ run_from (index + length (flat_map allocation files)) later (all_given loaded (placed ++ more))

-- a file that isn't placed has no Allocate
allocated_none : (index : ℕ) (file : ImageFile) (files : List ImageFile) (loaded : List File) (places : List ℕ) (placed : List Placed) (later : List Entry)
    → file.placing ≡ None → AreAllocated index files loaded places placed later → AreAllocated index (file ∷ files) loaded places placed later
allocated_none index file files loaded places placed later without rest =
    let no_command : allocation file ≡ [] =
    ap (λ o. option_map_or (λ (placing : Placing). Allocate file.name placing.align (number_of_zone placing.zone) ∷ []) o []) without in
    record {
      more = rest.more;
      standing = past without rest.standing;
      runs = ap (λ es. run_from index ((es ++ flat_map allocation files) ++ later) (so_far loaded placed places)) no_command
          ∙ rest.runs
          ∙ ap (λ es. run_from (index + length (es ++ flat_map allocation files)) later (all_given loaded (placed ++ rest.more))) (sym no_command);
    }

-- the one of a file that is placed is carried out
allocated_some : (index : ℕ) (file : ImageFile) (files : List ImageFile) (loaded : List File) (placing : Placing) (place : ℕ) (others : List ℕ)
    (placed : List Placed) (later : List Entry) → file.placing ≡ Some placing → BeginsWith loaded (file ∷ files) → CanBePlaced file placing
    → placed_of placed file.name ≡ None → place < places_end
    → AreAllocated (suc index) files loaded others (placed ++ record { name = file.name; place = place; bytes = file.blob.bytes } ∷ []) later
    → AreAllocated index (file ∷ files) loaded (place ∷ others) placed later
unfolding carried_out
allocated_some index file files loaded placing place others placed later is begins can fresh low rest =
    let command : Entry = Allocate file.name placing.align (number_of_zone placing.zone) in
    let q : Placed = record { name = file.name; place = place; bytes = file.blob.bytes } in
    let before : Progress = so_far loaded placed (place ∷ others) in
    let one_command : allocation file ≡ Allocate file.name placing.align (number_of_zone placing.zone) ∷ [] =
    ap (λ o. option_map_or (λ (placing : Placing). Allocate file.name placing.align (number_of_zone placing.zone) ∷ []) o []) is in
    let bytes : bytes_of loaded file.name ≡ file.blob.bytes = ap (λ o. option_map_or (λ (f : File). f.bytes) o []) begins.0 in
    let not_refused : cause_of command before ≡ None = conditions_suffice command before (record {
      file = record { name = file.name; bytes = file.blob.bytes; writable = file.writable };
      there = begins.0;
      fresh = fresh;
      some = can.0;
      power = can.1;
      known_zone = known_zone placing.zone;
    }) in
    let carried : carried_out command before ≡ Some (so_far loaded (placed ++ q ∷ []) others) =
    ap (λ bs. Some (so_far loaded (placed ++ record { name = file.name; place = place; bytes = bs } ∷ []) others)) bytes in
    let one_more : suc index + length (flat_map allocation files) ≡ index + suc (length (flat_map allocation files)) = omega arith in
    let number : suc index + length (flat_map allocation files) ≡ index + length (allocation file ++ flat_map allocation files) =
    one_more ∙ ap (λ (es : List Entry). index + length (es ++ flat_map allocation files)) (sym one_command) in
    record {
      more = q ∷ rest.more;
      standing = here (ap is_some is) (record { name = refl; place_is = refl; bytes = refl; low = low }) rest.standing;
      runs = ap (λ es. run_from index ((es ++ flat_map allocation files) ++ later) before) one_command
          ∙ goes-on index command (flat_map allocation files ++ later) before (so_far loaded (placed ++ q ∷ []) others) not_refused carried
          ∙ rest.runs
          ∙ ap₂ (λ n ps. run_from n later (all_given loaded ps)) number (append_assoc placed (q ∷ []) rest.more);
    }

-- a file is placed or not
placing_cases : (o : Option Placing) → (o ≡ None) ⊎ ((placing : Placing) × (o ≡ Some placing))
placing_cases None = inl refl
placing_cases (Some placing) = inr (placing, refl)

-- lawful places of a file, placed so, and of those behind it
abbrev LawfulBy : ℕ → List Range → ImageFile → List ImageFile → List ℕ → Option Placing → Type 0
LawfulBy top handed file files places o =
    MatchOption o (ArePlaces top handed files places)
    (λ placing. (place : ℕ) × (others : List ℕ) × (places ≡ place ∷ others) × MayStand top handed file placing place
    × ArePlaces top (handed ++ range_at file place ∷ []) files others)

-- The Allocates of files are carried out at lawful places.
pub are_allocated : (top : ℕ) (index : ℕ) (files : List ImageFile) (loaded : List File) (handed : List Range) (places : List ℕ) (placed : List Placed)
    (later : List Entry) → top ≤ 0xC0000000 → BeginsWith loaded files → AllByRecursion IsLinkableFile files → AreDistinct files
    → AllByRecursion (λ (file : ImageFile). placed_of placed file.name ≡ None) files → ArePlaces top handed files places
    → AreAllocated index files loaded places placed later
are_allocated top index [] loaded handed places placed later at_most begins able distinct fresh lawful =
    subst (λ ps. AreAllocated index [] loaded ps placed later) (sym lawful) (record {
      more = [];
      standing = none;
      runs = ap₂ (λ n ps. run_from n later (all_given loaded ps)) (omega arith) (sym (append-nil placed));
    })
are_allocated top index (file ∷ files) loaded handed places placed later at_most begins able distinct fresh lawful =
    elim (placing_cases file.placing) as (λ _. AreAllocated index (file ∷ files) loaded places placed later) [
      | inl without ↦
          let rest : ArePlaces top handed files places = subst (λ o. LawfulBy top handed file files places o) without lawful in
          allocated_none index file files loaded places placed later without
          (are_allocated top index files loaded handed places placed later at_most begins.1 able.1 distinct.1 fresh.1 rest)
      | inr some ↦
          let first : LawfulBy top handed file files places (Some some.0) = subst (λ o. LawfulBy top handed file files places o) some.1 lawful in
          let can : CanBePlaced file some.0 =
          subst (λ o. MatchOption o (HasNoHoles file.blob) (CanBePlaced file)) some.1 able.0.placed in
          let q : Placed = record { name = file.name; place = first.0; bytes = file.blob.bytes } in
          let still_fresh : AllByRecursion (λ (g : ImageFile). placed_of (placed ++ q ∷ []) g.name ≡ None) files =
          each_from (λ (g : ImageFile). bytes_eq g.name file.name ≡ false) (λ (g : ImageFile). placed_of placed g.name ≡ None)
          (λ (g : ImageFile). placed_of (placed ++ q ∷ []) g.name ≡ None)
          (λ g other free. fresh-push placed q g.name free (other_turned g.name file.name other)) files distinct.0 fresh.1 in
          subst (λ ps. AreAllocated index (file ∷ files) loaded ps placed later) (sym first.2)
          (allocated_some index file files loaded some.0 first.0 first.1 placed later some.1 begins can fresh.0
          (place_low top handed file some.0 first.0 at_most can.0 first.3)
          (are_allocated top (suc index) files loaded (handed ++ range_at file first.0 ∷ []) first.1 (placed ++ q ∷ []) later at_most begins.1 able.1
          distinct.1 still_fresh first.4))
    ]
