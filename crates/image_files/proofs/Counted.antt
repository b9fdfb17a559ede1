-- How many bytes an image has, counted file by file, with a greatest count.
use Rattle.std.proofs.Common.{◌≡◌, ℕ, ◌+◌, ◌<◌, ◌≤◌, List, [], ◌∷◌, ◌++◌, length, min, sum_by, arith, refl, ap, ◌∙◌, length-append}
use Rattle.std.proofs.lemmas.List.Sums.{sum_by-cons}
use Rattle.std.proofs.lemmas.Grind.{flat_map-append}
use Rattle.std.specs.List.{flat_map}
use Rattle.loader_script.specs.declared.entry.Entry.{Entry}
use Rattle.loader_script.specs.Spelling.{entry_bytes}
use Rattle.cfg_directory.specs.Items.{total_size}
use Rattle.image_files.specs.Files.{ImageFile, by_name}
use Rattle.image_files.specs.Script.{allocation, add_pointers, add_checksums, linking, script_of}
use Rattle.image_files.specs.Items.{items_of, total_bytes, image_limit, loader_file, size_of_commands, size_with_commands}
use Rattle.image_files.proofs.ByName.{total-by_name, sum_by-by_name}
use Rattle.image_files.proofs.ItemsAdded.{total-items_from}

-- commands one after the other
size-append : (commands more : List Entry) → size_of_commands (commands ++ more) ≡ size_of_commands commands + size_of_commands more
size-append commands more =
    ap length (flat_map-append entry_bytes commands more) ∙ length-append (flat_map entry_bytes commands) (flat_map entry_bytes more)

-- the commands of each file
size-flat_map : (commands : ImageFile → List Entry) (files : List ImageFile)
    → size_of_commands (flat_map commands files) ≡ sum_by (λ file. size_of_commands (commands file)) files
size-flat_map commands [] = refl
size-flat_map commands (file ∷ files) =
    omega (
      arith,
      size-append (commands file) (flat_map commands files),
      size-flat_map commands files,
      sum_by-cons (λ one. size_of_commands (commands one)) file files,
    )

-- the sizes of files with their commands, part by part
in_parts : (files : List ImageFile) → sum_by size_with_commands files ≡ total_bytes files + sum_by (λ file. size_of_commands (allocation file)) files
    + sum_by (λ file. size_of_commands (add_pointers file)) files + sum_by (λ file. size_of_commands (add_checksums file)) files
in_parts [] = refl
in_parts (file ∷ files) =
    omega (
      arith,
      sum_by-cons size_with_commands file files,
      sum_by-cons (λ (one : ImageFile). length one.blob.bytes) file files,
      sum_by-cons (λ one. size_of_commands (allocation one)) file files,
      sum_by-cons (λ one. size_of_commands (add_pointers one)) file files,
      sum_by-cons (λ one. size_of_commands (add_checksums one)) file files,
      in_parts files,
    )

-- the size of an image is that of its files with their commands, and of those that follow
pub size_counted : (files : List ImageFile) (later : List Entry)
    → total_size (items_of files later) ≡ sum_by size_with_commands files + size_of_commands later
size_counted files later =
    let script : ImageFile = loader_file (script_of files later) in
    let pointers : List Entry = flat_map add_pointers (by_name files) in
    let sums : List Entry = flat_map add_checksums files in
    omega (
      arith,
      total-items_from 0x20 (by_name (script ∷ files)),
      total-by_name (script ∷ files),
      sum_by-cons (λ (file : ImageFile). length file.blob.bytes) script files,
      size-append (flat_map allocation files ++ linking files) later,
      size-append (flat_map allocation files) (linking files),
      size-append pointers sums,
      size-flat_map allocation files,
      size-flat_map add_pointers (by_name files),
      sum_by-by_name (λ file. size_of_commands (add_pointers file)) files,
      size-flat_map add_checksums files,
      in_parts files,
    )

-- so it is few bytes where the count is, and else many
module _ (files seen : List ImageFile) (later : List Entry) (size : ℕ) (same : seen ≡ files)
    (counted : size ≡ min (sum_by size_with_commands seen + size_of_commands later) 0xFFFFFFFFFFFFFFFF) where
  pub few_counted : size ≤ image_limit → total_size (items_of files later) ≤ image_limit
  few_counted few = omega (arith, size_counted files later, ap (sum_by size_with_commands) same, counted)

  pub many_counted : image_limit < size → image_limit < total_size (items_of files later)
  many_counted many = omega (arith, size_counted files later, ap (sum_by size_with_commands) same, counted)
