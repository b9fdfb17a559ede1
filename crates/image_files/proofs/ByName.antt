-- Files in the order of their names: they are the same files, and a run finds each of them among the items of fw_cfg.
use Rattle.std.proofs.Common.{◌≡◌, ℕ, suc, ◌+◌, true, false, cond, List, [], ◌∷◌, length, Some, arith, refl, ap, sym, ◌∙◌, sum_by}
use Rattle.std.specs.List.{AllByRecursion, flat_map}
use Rattle.std.specs.Str.{bytes_eq}
use Rattle.std.proofs.lemmas.Bool.{cond-true, cond-false}
use Rattle.std.proofs.lemmas.List.Sums.{sum_by-cons}
use Rattle.loader_script.specs.declared.entry.Entry.{Entry}
use Rattle.vt_outside.specs.File.{File}
use Rattle.vt_outside.proofs.Texts.{other_turned, text_itself}
use Rattle.loader_script.specs.Run.{file_of}
use Rattle.loader_script.specs.Spelling.{entry_bytes}
use Rattle.vt_bytes.proofs.Each.{each_from}
use Rattle.image_files.specs.Files.{ImageFile, is_not_behind, among, by_name}
use Rattle.image_files.specs.Script.{script_of}
use Rattle.loader_script.specs.LoaderName.{loader_name}
use Rattle.cfg_directory.specs.Files.{files_of}
use Rattle.image_files.specs.Items.{items_from, loader_file, items_of}
use Rattle.image_files.specs.Linkable.{HasNoName, AreDistinct}
use Rattle.image_files.specs.Linked.{BeginsWith}

module _ (P : ImageFile → Type 0) where
  -- what holds of each file and of one more holds of each with that one among them
  pub each_among : (file : ImageFile) (files : List ImageFile) → P file → AllByRecursion P files → AllByRecursion P (among file files)
  each_among file [] one all = (one, tt)
  each_among file (first ∷ others) one all =
      elim (is_not_behind file.name first.name) as
      (λ before. AllByRecursion P (cond before (file ∷ first ∷ others) (first ∷ among file others))) [
        | true ↦ (one, all)
        | false ↦ (all.0, each_among file others one all.1)
      ]

  -- and back
  pub each_of_among : (file : ImageFile) (files : List ImageFile) → AllByRecursion P (among file files) → AllByRecursion P (file ∷ files)
  each_of_among file [] all = all
  each_of_among file (first ∷ others) all =
      elim (is_not_behind file.name first.name) as
      (λ before. AllByRecursion P (cond before (file ∷ first ∷ others) (first ∷ among file others)) → AllByRecursion P (file ∷ first ∷ others)) [
        | true ↦ λ all. all
        | false ↦ λ all.
            let rest = each_of_among file others all.1 in
            (rest.0, (all.0, rest.1))
      ] all

  -- what holds of each file holds of each in the order of their names
  pub each_by_name : (files : List ImageFile) → AllByRecursion P files → AllByRecursion P (by_name files)
  each_by_name [] all = tt
  each_by_name (file ∷ files) all = each_among file (by_name files) all.0 (each_by_name files all.1)

  -- and back
  pub each_of_by_name : (files : List ImageFile) → AllByRecursion P (by_name files) → AllByRecursion P files
  each_of_by_name [] all = tt
  each_of_by_name (file ∷ files) all =
      let parts = each_of_among file (by_name files) all in
      (parts.0, each_of_by_name files parts.1)

-- a name that no file has is not had with one more file of another name among them
pub HasNoName-among : (file : ImageFile) (files : List ImageFile) (name : List ℕ) → bytes_eq file.name name ≡ false → HasNoName files name
    → HasNoName (among file files) name
HasNoName-among file files name other none = each_among (λ (f : ImageFile). bytes_eq f.name name ≡ false) file files other none

-- nor in the order of their names
pub HasNoName-by_name : (files : List ImageFile) (name : List ℕ) → HasNoName files name → HasNoName (by_name files) name
HasNoName-by_name files name none = each_by_name (λ (f : ImageFile). bytes_eq f.name name ≡ false) files none

-- names differ with one more file of a name of its own among them
pub AreDistinct-among : (file : ImageFile) (files : List ImageFile) → HasNoName files file.name → AreDistinct files → AreDistinct (among file files)
AreDistinct-among file [] none distinct = (tt, tt)
AreDistinct-among file (first ∷ others) none distinct =
    elim (is_not_behind file.name first.name) as (λ before. AreDistinct (cond before (file ∷ first ∷ others) (first ∷ among file others))) [
      | true ↦ (none, distinct)
      | false ↦ (
        HasNoName-among file others first.name (other_turned first.name file.name none.0) distinct.0,
        AreDistinct-among file others none.1 distinct.1,
      )
    ]

-- names that differ do so in their order
pub AreDistinct-by_name : (files : List ImageFile) → AreDistinct files → AreDistinct (by_name files)
AreDistinct-by_name [] distinct = tt
AreDistinct-by_name (file ∷ files) distinct =
    AreDistinct-among file (by_name files) (HasNoName-by_name files file.name distinct.0) (AreDistinct-by_name files distinct.1)

-- one more file among others makes one more
pub length-among : (file : ImageFile) (files : List ImageFile) → length (among file files) ≡ suc (length files)
length-among file [] = refl
length-among file (first ∷ others) =
    elim (is_not_behind file.name first.name) as
    (λ before. length (cond before (file ∷ first ∷ others) (first ∷ among file others)) ≡ suc (length (first ∷ others))) [
      | true ↦ refl
      | false ↦ ap suc (length-among file others)
    ]

-- there are as many files in the order of their names
pub length-by_name : (files : List ImageFile) → length (by_name files) ≡ length files
length-by_name [] = refl
length-by_name (file ∷ files) = length-among file (by_name files) ∙ ap suc (length-by_name files)

-- a number of each file, added up with one more file among them
pub sum_by-among : (f : ImageFile → ℕ) (file : ImageFile) (files : List ImageFile) → sum_by f (among file files) ≡ f file + sum_by f files
sum_by-among f file [] = sum_by-cons f file []
sum_by-among f file (first ∷ others) =
    let rest = sum_by-among f file others in
    let before_all = sum_by-cons f file (first ∷ others) in
    let with_first = sum_by-cons f first others in
    let first_of_all = sum_by-cons f first (among file others) in
    elim (is_not_behind file.name first.name) as
    (λ before. sum_by f (cond before (file ∷ first ∷ others) (first ∷ among file others)) ≡ f file + sum_by f (first ∷ others)) [
      | true ↦ before_all
      | false ↦ omega arith
    ]

-- it adds up to the same in the order of their names
pub sum_by-by_name : (f : ImageFile → ℕ) (files : List ImageFile) → sum_by f (by_name files) ≡ sum_by f files
sum_by-by_name f [] = refl
sum_by-by_name f (file ∷ files) =
    sum_by-among f file (by_name files) ∙ ap (λ n. f file + n) (sum_by-by_name f files) ∙ sym (sum_by-cons f file files)

-- so do the lengths of their bytes
pub total-by_name : (files : List ImageFile)
    → sum_by (λ (file : ImageFile). length file.blob.bytes) (by_name files) ≡ sum_by (λ (file : ImageFile). length file.blob.bytes) files
total-by_name = sum_by-by_name (λ (file : ImageFile). length file.blob.bytes)

-- a file as a run over fw_cfg begins with it
abbrev as_loaded : ImageFile → File
as_loaded file = record { name = file.name; bytes = file.blob.bytes; writable = file.writable }

-- each of files whose names differ is found among their items
found_each : (select : ℕ) (files : List ImageFile) → AreDistinct files
    → AllByRecursion (λ (file : ImageFile). file_of (files_of (items_from select files)) file.name ≡ Some (as_loaded file)) files
found_each select [] distinct = tt
found_each select (first ∷ files) distinct = (
  cond-true _ _ _ (text_itself first.name),
  each_from (λ (file : ImageFile). bytes_eq file.name first.name ≡ false)
      (λ (file : ImageFile). file_of (files_of (items_from (select + 1) files)) file.name ≡ Some (as_loaded file))
      (λ (file : ImageFile). file_of (files_of (items_from select (first ∷ files))) file.name ≡ Some (as_loaded file))
      (λ file other found. cond-false _ _ _ (other_turned file.name first.name other) ∙ found) files distinct.0
      (found_each (select + 1) files distinct.1),
)

-- a run over the items of files and of their script begins with these files
pub begins_with : (files : List ImageFile) (later : List Entry) → AreDistinct files → HasNoName files loader_name
    → BeginsWith (files_of (items_of files later)) files
begins_with files later distinct none =
    let all : List ImageFile = loader_file (script_of files later) ∷ files in
    (each_of_by_name (λ (file : ImageFile). file_of (files_of (items_of files later)) file.name ≡ Some (as_loaded file)) all
    (found_each 0x20 (by_name all) (AreDistinct-by_name all (none, distinct)))).1

-- and finds the file of the script
pub script_found : (files : List ImageFile) (later : List Entry) → AreDistinct files → HasNoName files loader_name
    → file_of (files_of (items_of files later)) loader_name
    ≡ Some (record { name = loader_name; bytes = flat_map entry_bytes (script_of files later); writable = false })
script_found files later distinct none =
    let all : List ImageFile = loader_file (script_of files later) ∷ files in
    (each_of_by_name (λ (file : ImageFile). file_of (files_of (items_of files later)) file.name ≡ Some (as_loaded file)) all
    (found_each 0x20 (by_name all) (AreDistinct-by_name all (none, distinct)))).0
