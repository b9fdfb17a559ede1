-- One command on memory, as it stands in the run of the script.
use Rattle.std.proofs.Common.{◌≡◌, ℕ, ◌+◌, ◌^◌, ◌<◌, ◌≤◌, List, [], ◌∷◌, length, Option, option_map, Some, None, refl, ap, sym, subst, ◌∙◌}
use Rattle.std.specs.List.{AllByRecursion}
use Rattle.std.proofs.lemmas.Option.{same_Some, none-some}
use Rattle.vt_bytes.specs.Memory.{Memory}
use Rattle.vt_bytes.proofs.Bytes.{length-bytes_at}
use Rattle.loader_script.specs.declared.entry.Entry.{Entry}
use Rattle.loader_script.specs.declared.entry.Entry.TheVariants.{AddPointer, AddChecksum, Skipped}
use Rattle.vt_outside.specs.File.{File}
use Rattle.loader_script.specs.Run.{Placed, Progress, file_of, placed_of, pointer_sum, with_pointer, with_sum, carried_out}
use Rattle.loader_script.specs.Conditions.{CanAddChecksum}
use Rattle.loader_script.proofs.Conditions.{IsPointerEarly, pointer_early, conditions_from, conditions_suffice}
use Rattle.loader_script.proofs.Named.{of_found, found_passes}
use Rattle.std.specs.Str.{bytes_eq}
use Rattle.vt_outside.proofs.Texts.{same_text}
use Rattle.command_acts.specs.declared.placed.PlacedFile.{PlacedFile}
use Rattle.command_acts.specs.FilesInMemory.{files_in, progress_in, IsOfSize, IsLoading, CanPoint, CanSum}
use Rattle.command_acts.specs.Runs.{Answers, carried, at_files, early_cause}
use Rattle.command_acts.specs.Steps.{CarriesTo, LeadsOn}
use Rattle.command_acts.proofs.Causes.{cause_late, pointer_goes}

-- a placed file is one of the files, and has as many bytes
abbrev IsOf : List File → Placed → Type 0
IsOf files p = (file : File) × (file_of files p.name ≡ Some file) × (length file.bytes ≡ length p.bytes)

-- the placed file of a name is one of them
of_placed : (files : List File) (placed : List Placed) (name : List ℕ) (d : Placed) → AllByRecursion (IsOf files) placed → placed_of placed name ≡ Some d
    → (file : File) × (file_of files name ≡ Some file) × (length file.bytes ≡ length d.bytes)
of_placed files placed name d are found =
    let is = of_found (IsOf files) (λ (p : Placed). bytes_eq p.name name) placed d found are in
    let named : d.name ≡ name = same_text d.name name (found_passes (λ (p : Placed). bytes_eq p.name name) placed d found) in
    (is.0, ap (file_of files) (sym named) ∙ is.1, is.2)

sized_from : (found : Option File) (size : ℕ) → option_map (λ (file : File). length file.bytes) found ≡ Some size
    → (file : File) × (found ≡ Some file) × (length file.bytes ≡ size)
sized_from None size is = absurd (none-some size is)
sized_from (Some file) size is = (file, refl, same_Some (length file.bytes) size is)

are_of : (m : Memory) (files : List File) (placed : List PlacedFile) → AllByRecursion (IsOfSize files) placed
    → AllByRecursion (IsOf files) (files_in m placed)
are_of m files [] sizes = tt
are_of m files (p ∷ placed) sizes =
    let file = sized_from (file_of files p.name) p.size sizes.0 in
    ((file.0, file.1, file.2 ∙ sym (length-bytes_at m p.place p.size)), are_of m files placed sizes.1)

-- how many bytes a placed file has is how many it has in fw_cfg
same_size : (m : Memory) (files : List File) (placed : List PlacedFile) (name : List ℕ) (file : File) (d : Placed) → IsLoading m.top files placed
    → file_of files name ≡ Some file → placed_of (files_in m placed) name ≡ Some d → length file.bytes ≡ length d.bytes
same_size m files placed name file d loading there found =
    let of = of_placed files (files_in m placed) name d (are_of m files placed loading.sizes) found in
    ap (λ (f : File). length f.bytes) (same_Some file of.0 (sym there ∙ of.1)) ∙ of.2

-- what commands that aren't refused early need of the files in memory
pub pointer_can : (m : Memory) (files : List File) (placed : List PlacedFile) (dest src : List ℕ) (offset size : ℕ) → IsLoading m.top files placed
    → early_cause (AddPointer dest src offset size) (progress_in m files placed []) ≡ None → CanPoint (files_in m placed) dest src offset size
pointer_can m files placed dest src offset size loading none =
    let can : IsPointerEarly (progress_in m files placed []) dest src offset size =
    pointer_early (progress_in m files placed []) dest src offset size none in
    record {
      d = can.d;
      s = can.s;
      found = can.placed;
      source_found = can.source_placed;
      sized = can.sized;
      within = subst (λ n. offset + size ≤ n) (same_size m files placed dest can.file can.d loading can.there can.placed) can.within;
    }

pub sum_can : (m : Memory) (files : List File) (placed : List PlacedFile) (name : List ℕ) (offset start count : ℕ)
    → IsLoading m.top files placed → early_cause (AddChecksum name offset start count) (progress_in m files placed []) ≡ None
    → CanSum (files_in m placed) name offset start count
sum_can m files placed name offset start count loading none =
    let goes = cause_late (AddChecksum name offset start count) (progress_in m files placed []) none in
    let can : CanAddChecksum (progress_in m files placed []) name offset start count =
    conditions_from (AddChecksum name offset start count) (progress_in m files placed []) goes in
    let size = same_size m files placed name can.file can.d loading can.there can.placed in
    record {
      d = can.d;
      found = can.placed;
      byte = subst (λ n. offset < n) size can.byte;
      range = subst (λ n. start + count ≤ n) size can.range;
    }

-- what they make of the files
pub pointer_carries : (m new : Memory) (files : List File) (placed : List PlacedFile) (dest src : List ℕ) (offset size : ℕ)
    → early_cause (AddPointer dest src offset size) (progress_in m files placed []) ≡ None
    → pointer_sum (files_in m placed) dest src offset size < 256 ^ size
    → files_in new placed ≡ with_pointer dest src offset size (files_in m placed)
    → CarriesTo (AddPointer dest src offset size) (progress_in m files placed []) (progress_in new files placed [])
unfolding carried_out
pointer_carries m new files placed dest src offset size none fits after =
    (pointer_goes dest src offset size (progress_in m files placed []) none fits, ap (λ ps. Some (at_files files ps [])) (sym after))

pub sum_carries : (m new : Memory) (files : List File) (placed : List PlacedFile) (name : List ℕ) (offset start count : ℕ)
    → early_cause (AddChecksum name offset start count) (progress_in m files placed []) ≡ None
    → files_in new placed ≡ with_sum name offset start count (files_in m placed)
    → CarriesTo (AddChecksum name offset start count) (progress_in m files placed []) (progress_in new files placed [])
unfolding carried_out
sum_carries m new files placed name offset start count none after =
    (cause_late (AddChecksum name offset start count) (progress_in m files placed []) none, ap (λ ps. Some (at_files files ps [])) (sym after))

pub skipped_carries : (m : Memory) (files : List File) (placed : List PlacedFile) (command : ℕ)
    → CarriesTo (Skipped command) (progress_in m files placed []) (progress_in m files placed [])
unfolding carried_out
skipped_carries m files placed command = (conditions_suffice (Skipped command) (progress_in m files placed []) tt, refl)

-- a command that is carried out leads on
pub leads_from : {May : Answers} {entry : Entry} {before after : Progress} → CarriesTo entry before after → LeadsOn May entry before after
leads_from carries index script end final ends = carried carries.0 carries.1 ends
