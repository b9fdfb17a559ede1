-- A command isn't refused exactly where its conditions hold.
use Rattle.std.proofs.Common.{◌≡◌, ℕ, ◌+◌, ◌^◌, ◌<◌, ◌≤◌, ◌⊎◌, inl, inr, Bool, true, false, ◌||◌, ◌==◌, List, [], ◌∷◌, ◌++◌, length, Option, Some, None}
use Rattle.std.proofs.Common.{option_map, is_some, unwrap_or, nat_lt, nat_le, refl, ap, sym, subst, ◌∙◌, arith, eqb-true, ltb-true, leb-true, true≢false}
use Rattle.std.proofs.Common.{pos_of_ne-zero}
use Rattle.std.specs.List.{AllByRecursion}
use Rattle.std.specs.Option.{option_map_or}
use Rattle.std.specs.Str.{bytes_eq}
use Rattle.std.proofs.lemmas.Bool.{cases_Bool, cond-true, cond-false, and_parts, or_cases, eqb-false, lt-ltb, le-leb, not-false}
use Rattle.std.proofs.lemmas.Bool.Decides.{nat_tests}
use Rattle.std.proofs.lemmas.Option.{none-some}
use Rattle.vt_layout.specs.Rows.{IsPointerSize}
use Rattle.vt_layout.specs.PointerSize.{is_pointer_size}
use Rattle.loader_script.specs.declared.entry.Entry.{Entry}
use Rattle.loader_script.specs.declared.entry.Entry.TheVariants.{Allocate, AddPointer, AddChecksum, WritePointer, Misnamed, Skipped}
use Rattle.loader_script.specs.declared.refusing.Cause.{Cause}
use Rattle.loader_script.specs.declared.refusing.FileInfo.{FileInfo}
use Rattle.loader_script.specs.Refusal.{info_of, placed_at, causes_of, is_there, is_placed, file_size, is_writable, first_cause}
use Rattle.vt_outside.specs.File.{File}
use Rattle.vt_outside.proofs.Results.{none_from}
use Rattle.vt_outside.proofs.Texts.{same_text}
use Rattle.loader_script.specs.Run.{Placed, Progress, file_of, placed_of, infos_of, places_of, late_causes, cause_of}
use Rattle.loader_script.specs.Conditions.{CanAllocate, CanAddPointer, CanAddChecksum, CanWritePointer, CanCarryOut}
use Rattle.loader_script.proofs.Named.{find-map}

-- where no cause is the first none applies
fails_each : (causes : List (Cause × Bool)) → first_cause causes ≡ None → AllByRecursion (λ (cause : Cause × Bool). cause.1 ≡ false) causes
fails_each [] none = tt
fails_each ((cause, true) ∷ causes) none = absurd (none-some cause (sym none))
fails_each ((cause, false) ∷ causes) none = (refl, fails_each causes none)

-- causes, and then others
pub earlier : (early late : List (Cause × Bool)) (cause : Cause) → first_cause early ≡ Some cause → first_cause (early ++ late) ≡ Some cause
earlier [] late cause first = absurd (none-some cause first)
earlier ((found, true) ∷ early) late cause first = first
earlier ((found, false) ∷ early) late cause first = earlier early late cause first

pub later : (early late : List (Cause × Bool)) → first_cause early ≡ None → first_cause (early ++ late) ≡ first_cause late
later [] late none = refl
later ((found, true) ∷ early) late none = absurd (none-some found (sym none))
later ((found, false) ∷ early) late none = later early late none

no_earlier : (early late : List (Cause × Bool)) → first_cause (early ++ late) ≡ None → first_cause early ≡ None
no_earlier [] late none = refl
no_earlier ((found, true) ∷ early) late none = none
no_earlier ((found, false) ∷ early) late none = no_earlier early late none

no_later : (early late : List (Cause × Bool)) → first_cause (early ++ late) ≡ None → first_cause late ≡ None
no_later early late none = sym (later early late (no_earlier early late none)) ∙ none

-- the causes' view of a file that is there: how many bytes it has, whether it is writable, and where it is placed
pub record IsSeen (p : Progress) (name : List ℕ) (file : File) : Type 0 where
  pub there : is_there (infos_of p.files) name ≡ true
  pub size : file_size (infos_of p.files) name ≡ length file.bytes
  pub writable : is_writable (infos_of p.files) name ≡ file.writable
  pub placed : placed_at (infos_of p.files) (places_of p.placed p.files) name ≡ option_map (λ (q : Placed). q.place) (placed_of p.placed name)

-- what is known of a file
abbrev info : File → FileInfo
info file = record { name = file.name; size = length file.bytes; writable = file.writable }

info_found : (files : List File) (name : List ℕ) → info_of (infos_of files) name ≡ option_map info (file_of files name)
info_found files name = find-map info (λ (i : FileInfo). bytes_eq i.name name) files

place_found : (placed : List Placed) (files : List File) (name : List ℕ) (file : File) → file_of files name ≡ Some file
    → placed_at (infos_of files) (places_of placed files) name ≡ option_map (λ (q : Placed). q.place) (placed_of placed name)
place_found placed [] name file found = absurd (none-some file found)
place_found placed (first ∷ files) name file found =
    elim (cases_Bool (bytes_eq first.name name)) as (λ _. placed_at (infos_of (first ∷ files)) (places_of placed (first ∷ files)) name
    ≡ option_map (λ (q : Placed). q.place) (placed_of placed name)) [
      | inl same ↦ cond-true _ _ _ same ∙ ap (λ n. option_map (λ (q : Placed). q.place) (placed_of placed n)) (same_text first.name name same)
      | inr other ↦ cond-false _ _ _ other ∙ place_found placed files name file (sym (cond-false _ _ _ other) ∙ found)
    ]

pub seen_of : (p : Progress) (name : List ℕ) (file : File) → file_of p.files name ≡ Some file → IsSeen p name file
seen_of p name file found =
    let known : info_of (infos_of p.files) name ≡ Some (info file) = info_found p.files name ∙ ap (option_map info) found in
    record {
      there = ap is_some known;
      size = ap (λ (i : Option FileInfo). option_map_or (λ (f : FileInfo). f.size) i 0) known;
      writable = ap (λ (i : Option FileInfo). option_map_or (λ (f : FileInfo). f.writable) i false) known;
      placed = place_found p.placed p.files name file found;
    }

-- a file that the causes see as there is there
some_of : {A : Type 0} (o : Option A) → is_some o ≡ true → (x : A) × (o ≡ Some x)
some_of None some = absurd (true≢false (sym some))
some_of (Some x) some = (x, refl)

is_some-map : {A B : Type 0} (f : A → B) (o : Option A) → is_some (option_map f o) ≡ is_some o
is_some-map f None = refl
is_some-map f (Some x) = refl

file_there : (p : Progress) (name : List ℕ) → is_there (infos_of p.files) name ≡ true → (file : File) × (file_of p.files name ≡ Some file)
file_there p name there =
    some_of (file_of p.files name) (sym (is_some-map info (file_of p.files name)) ∙ ap is_some (sym (info_found p.files name)) ∙ there)

-- whether it is placed
placed_seen : (p : Progress) (name : List ℕ) (file : File) → file_of p.files name ≡ Some file
    → is_placed (infos_of p.files) (places_of p.placed p.files) name ≡ is_some (placed_of p.placed name)
placed_seen p name file found = ap is_some (seen_of p name file found).placed ∙ is_some-map (λ (q : Placed). q.place) (placed_of p.placed name)

-- the test of a pointer's size
sized_from : (size : ℕ) → is_pointer_size size ≡ true → IsPointerSize size
sized_from size passed =
    elim (or_cases (size == 1 || size == 2) (size == 4 || size == 8) passed) as (λ _. IsPointerSize size) [
      | inl low ↦ elim (or_cases (size == 1) (size == 2) low) as (λ _. IsPointerSize size) [
        | inl one ↦ inl (eqb-true size 1 one)
        | inr two ↦ inr (inl (eqb-true size 2 two))
      ]
      | inr high ↦ elim (or_cases (size == 4) (size == 8) high) as (λ _. IsPointerSize size) [
        | inl four ↦ inr (inr (inl (eqb-true size 4 four)))
        | inr eight ↦ inr (inr (inr (eqb-true size 8 eight)))
      ]
    ]

size_passes : (size : ℕ) → IsPointerSize size → is_pointer_size size ≡ true
size_passes size known =
    elim known as (λ _. is_pointer_size size ≡ true) [
      | inl one ↦ ap is_pointer_size one
      | inr more ↦ elim more as (λ _. is_pointer_size size ≡ true) [
        | inl two ↦ ap is_pointer_size two
        | inr long ↦ elim long as (λ _. is_pointer_size size ≡ true) [ inl four ↦ ap is_pointer_size four | inr eight ↦ ap is_pointer_size eight ]
      ]
    ]

-- the test of a zone
zone_from : (zone : ℕ) → (zone == 1 || zone == 2) ≡ true → (zone ≡ 1) ⊎ (zone ≡ 2)
zone_from zone passed =
    elim (or_cases (zone == 1) (zone == 2) passed) as (λ _. (zone ≡ 1) ⊎ (zone ≡ 2)) [
      | inl one ↦ inl (eqb-true zone 1 one)
      | inr two ↦ inr (eqb-true zone 2 two)
    ]

zone_passes : (zone : ℕ) → (zone ≡ 1) ⊎ (zone ≡ 2) → (zone == 1 || zone == 2) ≡ true
zone_passes zone known =
    elim known as (λ _. (zone == 1 || zone == 2) ≡ true) [ inl one ↦ ap (λ z. z == 1 || z == 2) one | inr two ↦ ap (λ z. z == 1 || z == 2) two ]

allocates_from : (p : Progress) (name : List ℕ) (align zone : ℕ) → cause_of (Allocate name align zone) p ≡ None → CanAllocate p name align zone
unfolding cause_of
allocates_from p name align zone none =
    let all = fails_each (causes_of (Allocate name align zone) (infos_of p.files) (places_of p.placed p.files) ++ []) none in
    let file = file_there p name (not-false _ all.0) in
    let seen = seen_of p name file.0 file.1 in
    let not_empty : length file.0.bytes ≡ 0 → ⊥ = λ empty. eqb-false _ 0 all.1.1.0 (seen.size ∙ empty) in
    record {
      file = file.0;
      there = file.1;
      fresh = none_from (placed_of p.placed name) (sym (placed_seen p name file.0 file.1) ∙ all.1.0);
      some = pos_of_ne-zero not_empty;
      power = not-false _ all.1.1.1.0;
      known_zone = zone_from zone (not-false _ all.1.1.1.1.0);
    }

-- What an AddPointer meets that no cause refuses which is told without the bytes in memory: all but that the sum fits.
pub record IsPointerEarly (p : Progress) (dest src : List ℕ) (offset size : ℕ) : Type 0 where
  pub file : File
  pub source : File
  pub there : file_of p.files dest ≡ Some file
  pub source_there : file_of p.files src ≡ Some source
  pub d : Placed
  pub s : Placed
  pub placed : placed_of p.placed dest ≡ Some d
  pub source_placed : placed_of p.placed src ≡ Some s
  pub sized : IsPointerSize size
  pub within : offset + size ≤ length file.bytes

pub pointer_early : (p : Progress) (dest src : List ℕ) (offset size : ℕ)
    → first_cause (causes_of (AddPointer dest src offset size) (infos_of p.files) (places_of p.placed p.files)) ≡ None
    → IsPointerEarly p dest src offset size
pointer_early p dest src offset size none =
    let all = fails_each (causes_of (AddPointer dest src offset size) (infos_of p.files) (places_of p.placed p.files)) none in
    let there = and_parts _ _ (not-false _ all.0) in
    let placed = and_parts _ _ (not-false _ all.1.0) in
    let file = file_there p dest there.0 in
    let source = file_there p src there.1 in
    let d = some_of (placed_of p.placed dest) (sym (placed_seen p dest file.0 file.1) ∙ placed.0) in
    let s = some_of (placed_of p.placed src) (sym (placed_seen p src source.0 source.1) ∙ placed.1) in
    record {
      file = file.0;
      source = source.0;
      there = file.1;
      source_there = source.1;
      d = d.0;
      s = s.0;
      placed = d.1;
      source_placed = s.1;
      sized = sized_from size (not-false _ all.1.1.0);
      within = subst (λ n. offset + size ≤ n) (seen_of p dest file.0 file.1).size (leb-true _ _ (not-false _ all.1.1.1.0));
    }

pointer_from : (p : Progress) (dest src : List ℕ) (offset size : ℕ) → cause_of (AddPointer dest src offset size) p ≡ None
    → CanAddPointer p dest src offset size
unfolding cause_of
pointer_from p dest src offset size none =
    let early = causes_of (AddPointer dest src offset size) (infos_of p.files) (places_of p.placed p.files) in
    let late = late_causes (AddPointer dest src offset size) p in
    let fits = fails_each late (no_later early late none) in
    let is = pointer_early p dest src offset size (no_earlier early late none) in
    record {
      file = is.file;
      source = is.source;
      there = is.there;
      source_there = is.source_there;
      d = is.d;
      s = is.s;
      placed = is.placed;
      source_placed = is.source_placed;
      sized = is.sized;
      within = is.within;
      fits = ltb-true _ _ (not-false _ fits.0);
    }

checksum_from : (p : Progress) (name : List ℕ) (offset start count : ℕ) → cause_of (AddChecksum name offset start count) p ≡ None
    → CanAddChecksum p name offset start count
unfolding cause_of
checksum_from p name offset start count none =
    let all = fails_each (causes_of (AddChecksum name offset start count) (infos_of p.files) (places_of p.placed p.files) ++ []) none in
    let file = file_there p name (not-false _ all.0) in
    let within = and_parts _ _ (not-false _ all.1.1.0) in
    let size = (seen_of p name file.0 file.1).size in
    let d = some_of (placed_of p.placed name) (sym (placed_seen p name file.0 file.1) ∙ not-false _ all.1.0) in
    record {
      file = file.0;
      there = file.1;
      d = d.0;
      placed = d.1;
      byte = subst (λ n. offset < n) size (ltb-true _ _ within.0);
      range = subst (λ n. start + count ≤ n) size (leb-true _ _ within.1);
    }

write_from : (p : Progress) (dest src : List ℕ) (dst_offset src_offset size : ℕ) → cause_of (WritePointer dest src dst_offset src_offset size) p ≡ None
    → CanWritePointer p dest src dst_offset src_offset size
unfolding cause_of
write_from p dest src dst_offset src_offset size none =
    let all = fails_each (causes_of (WritePointer dest src dst_offset src_offset size) (infos_of p.files) (places_of p.placed p.files) ++ []) none in
    let there = and_parts _ _ (not-false _ all.0) in
    let within = and_parts _ _ (not-false _ all.1.1.1.1.0) in
    let file = file_there p dest there.0 in
    let source = file_there p src there.1 in
    let dest_seen = seen_of p dest file.0 file.1 in
    let source_seen = seen_of p src source.0 source.1 in
    let s = some_of (placed_of p.placed src) (sym (placed_seen p src source.0 source.1) ∙ not-false _ all.1.0) in
    let place : placed_at (infos_of p.files) (places_of p.placed p.files) src ≡ Some s.0.place =
    source_seen.placed ∙ ap (option_map (λ (q : Placed). q.place)) s.1 in
    record {
      file = file.0;
      source = source.0;
      there = file.1;
      source_there = source.1;
      s = s.0;
      source_placed = s.1;
      sized = sized_from size (not-false _ all.1.1.0);
      writable = sym dest_seen.writable ∙ not-false _ all.1.1.1.0;
      within = subst (λ n. dst_offset + size ≤ n) dest_seen.size (leb-true _ _ within.0);
      source_within = subst (λ n. src_offset < n) source_seen.size (ltb-true _ _ within.1);
      fits = subst (λ o. unwrap_or o 0 + src_offset < 256 ^ size) place (ltb-true _ _ (not-false _ all.1.1.1.1.1.0));
    }

-- a command that isn't refused meets its conditions
pub conditions_from : (entry : Entry) (p : Progress) → cause_of entry p ≡ None → CanCarryOut entry p
unfolding cause_of
conditions_from (Allocate name align zone) p none = allocates_from p name align zone none
conditions_from (AddPointer dest src offset size) p none = pointer_from p dest src offset size none
conditions_from (AddChecksum name offset start count) p none = checksum_from p name offset start count none
conditions_from (WritePointer dest src dst_offset src_offset size) p none = write_from p dest src dst_offset src_offset size none
conditions_from (Misnamed command) p none = absurd (none-some _ (sym none))
conditions_from (Skipped command) p none = tt

allocates_is : (p : Progress) (name : List ℕ) (align zone : ℕ) → CanAllocate p name align zone → cause_of (Allocate name align zone) p ≡ None
unfolding cause_of
allocates_is p name align zone can =
    let seen = seen_of p name can.file can.there in
    let fresh : is_placed (infos_of p.files) (places_of p.placed p.files) name ≡ false = placed_seen p name can.file can.there ∙ ap is_some can.fresh in
    let full : (length can.file.bytes == 0) ≡ false = grind (arith, nat_tests, can.some) in
    let some : (file_size (infos_of p.files) name == 0) ≡ false = ap (λ n. n == 0) seen.size ∙ full in
    rw (seen.there, fresh, some, can.power, zone_passes zone can.known_zone) refl

pointer_is : (p : Progress) (dest src : List ℕ) (offset size : ℕ) → CanAddPointer p dest src offset size
    → cause_of (AddPointer dest src offset size) p ≡ None
unfolding cause_of
pointer_is p dest src offset size can =
    let dest_seen = seen_of p dest can.file can.there in
    let source_seen = seen_of p src can.source can.source_there in
    let placed : is_placed (infos_of p.files) (places_of p.placed p.files) dest ≡ true = placed_seen p dest can.file can.there ∙ ap is_some can.placed in
    let source_placed : is_placed (infos_of p.files) (places_of p.placed p.files) src ≡ true =
    placed_seen p src can.source can.source_there ∙ ap is_some can.source_placed in
    let within : nat_le (offset + size) (file_size (infos_of p.files) dest) ≡ true =
    ap (nat_le (offset + size)) dest_seen.size ∙ le-leb _ _ can.within in
    rw (dest_seen.there, source_seen.there, placed, source_placed, size_passes size can.sized, within, lt-ltb _ _ can.fits) refl

checksum_is : (p : Progress) (name : List ℕ) (offset start count : ℕ) → CanAddChecksum p name offset start count
    → cause_of (AddChecksum name offset start count) p ≡ None
unfolding cause_of
checksum_is p name offset start count can =
    let seen = seen_of p name can.file can.there in
    let placed : is_placed (infos_of p.files) (places_of p.placed p.files) name ≡ true = placed_seen p name can.file can.there ∙ ap is_some can.placed in
    let byte : nat_lt offset (file_size (infos_of p.files) name) ≡ true = ap (nat_lt offset) seen.size ∙ lt-ltb _ _ can.byte in
    let range : nat_le (start + count) (file_size (infos_of p.files) name) ≡ true = ap (nat_le (start + count)) seen.size ∙ le-leb _ _ can.range in
    rw (seen.there, placed, byte, range) refl

write_is : (p : Progress) (dest src : List ℕ) (dst_offset src_offset size : ℕ) → CanWritePointer p dest src dst_offset src_offset size
    → cause_of (WritePointer dest src dst_offset src_offset size) p ≡ None
unfolding cause_of
write_is p dest src dst_offset src_offset size can =
    let dest_seen = seen_of p dest can.file can.there in
    let source_seen = seen_of p src can.source can.source_there in
    let place : placed_at (infos_of p.files) (places_of p.placed p.files) src ≡ Some can.s.place =
    source_seen.placed ∙ ap (option_map (λ (q : Placed). q.place)) can.source_placed in
    let placed : is_placed (infos_of p.files) (places_of p.placed p.files) src ≡ true = ap is_some place in
    let writable : is_writable (infos_of p.files) dest ≡ true = dest_seen.writable ∙ can.writable in
    let within : nat_le (dst_offset + size) (file_size (infos_of p.files) dest) ≡ true =
    ap (nat_le (dst_offset + size)) dest_seen.size ∙ le-leb _ _ can.within in
    let source_within : nat_lt src_offset (file_size (infos_of p.files) src) ≡ true = ap (nat_lt src_offset) source_seen.size ∙ lt-ltb _ _ can.source_within in
    let fits : nat_lt (unwrap_or (placed_at (infos_of p.files) (places_of p.placed p.files) src) 0 + src_offset) (256 ^ size) ≡ true =
    ap (λ o. nat_lt (unwrap_or o 0 + src_offset) (256 ^ size)) place ∙ lt-ltb _ _ can.fits in
    rw (dest_seen.there, source_seen.there, placed, size_passes size can.sized, writable, within, source_within, fits) refl

-- a command that meets its conditions isn't refused
pub conditions_suffice : (entry : Entry) (p : Progress) → CanCarryOut entry p → cause_of entry p ≡ None
unfolding cause_of
conditions_suffice (Allocate name align zone) p can = allocates_is p name align zone can
conditions_suffice (AddPointer dest src offset size) p can = pointer_is p dest src offset size can
conditions_suffice (AddChecksum name offset start count) p can = checksum_is p name offset start count can
conditions_suffice (WritePointer dest src dst_offset src_offset size) p can = write_is p dest src dst_offset src_offset size can
conditions_suffice (Misnamed command) p can = absurd can
conditions_suffice (Skipped command) p can = refl
