-- The run of a loader script on plain lists (QEMU, hw/acpi/bios-linker-loader.c): one command after the other, with no
-- transfer of any kind.
use Rattle.std.specs.Prelude.{ℕ, suc, ◌+◌, ◌-◌, ◌%◌, ◌^◌, Bool, not, List, [], ◌∷◌, ◌++◌, length, map, take, Option, Some, None, find, nat_lt}
use Rattle.std.specs.Prelude.{slice_index, slice_set, if◌then◌else◌}
use Rattle.std.specs.Option.{option_map, option_map_or}
use Rattle.std.specs.Str.{bytes_eq}
use Rattle.vt_outside.specs.File.{File}
use Rattle.vt_bytes.specs.Numbers.{le, le_bytes, byte_sum}
use Rattle.vt_bytes.specs.Parts.{part, put_at}
use Rattle.loader_script.specs.declared.entry.Entry.{Entry}
use Rattle.loader_script.specs.declared.entry.Entry.TheVariants.{Allocate, AddPointer, AddChecksum, WritePointer, Misnamed, Skipped}
use Rattle.loader_script.specs.declared.refusing.Cause.{Cause}
use Rattle.loader_script.specs.declared.refusing.Cause.TheVariants.{TooFar}
use Rattle.loader_script.specs.declared.refusing.FileInfo.{FileInfo}
use Rattle.loader_script.specs.Refusal.{causes_of, first_cause}

-- a file in memory: its name, where it stands, and its bytes there
pub record Placed : Type 0 where
  pub name : List ℕ
  pub place : ℕ
  pub bytes : List ℕ

-- how far a run is: the files, those of them that are placed, and the places that are still to be given
pub record Progress : Type 0 where
  pub files : List File
  pub placed : List Placed
  pub places : List ℕ

-- How a run ends: all is carried out, the command at an index is refused, or there is no place for the file of the Allocate there.
pub data End : Type 0 where
  Done : End
  Command : ℕ → Cause → End
  NoRoom : ℕ → End

-- the file that has the name, of fw_cfg and in memory
abbrev pub file_of : List File → List ℕ → Option File
file_of files name = find (λ (file : File). bytes_eq file.name name) files

abbrev pub placed_of : List Placed → List ℕ → Option Placed
placed_of placed name = find (λ (p : Placed). bytes_eq p.name name) placed

-- its bytes, and in memory its place
abbrev pub bytes_of : List File → List ℕ → List ℕ
bytes_of files name = option_map_or (λ (file : File). file.bytes) (file_of files name) []

abbrev pub placed_bytes : List Placed → List ℕ → List ℕ
placed_bytes placed name = option_map_or (λ (p : Placed). p.bytes) (placed_of placed name) []

abbrev pub place_of : List Placed → List ℕ → ℕ
place_of placed name = option_map_or (λ (p : Placed). p.place) (placed_of placed name) 0

-- the files, the one of that name with other bytes
abbrev pub files_with : List File → List ℕ → List ℕ → List File
files_with files name bytes = map (λ (file : File). if bytes_eq file.name name then record file { bytes = bytes } else file) files

abbrev pub placed_with : List Placed → List ℕ → List ℕ → List Placed
placed_with placed name bytes = map (λ (p : Placed). if bytes_eq p.name name then record p { bytes = bytes } else p) placed

-- what the causes of a refusal need to know: the files without their bytes, and where each is placed
abbrev pub infos_of : List File → List FileInfo
infos_of files = map (λ (file : File). record { name = file.name; size = length file.bytes; writable = file.writable }) files

abbrev pub places_of : List Placed → List File → List (Option ℕ)
places_of placed files = map (λ (file : File). option_map (λ (p : Placed). p.place) (placed_of placed file.name)) files

-- the number that an AddPointer makes of its field
abbrev pub pointer_sum : List Placed → List ℕ → List ℕ → ℕ → ℕ → ℕ
pointer_sum placed dest src offset size = le (part (placed_bytes placed dest) offset size) + place_of placed src

-- The cause that only the bytes in memory tell: the number of an AddPointer doesn't fit its field.
abbrev pub late_causes : Entry → Progress → List (Cause × Bool)
late_causes (AddPointer dest src offset size) p = (TooFar, not (nat_lt (pointer_sum p.placed dest src offset size) (256 ^ size))) ∷ []
late_causes (Allocate name align zone) p = []
late_causes (AddChecksum name offset start count) p = []
late_causes (WritePointer dest src dst_offset src_offset size) p = []
late_causes (Misnamed command) p = []
late_causes (Skipped command) p = []

-- the first cause to refuse a command, or none
unfoldable pub cause_of : Entry → Progress → Option Cause
cause_of entry p = first_cause (causes_of entry (infos_of p.files) (places_of p.placed p.files) ++ late_causes entry p)

-- What each command makes. None of this says when a command is refused.

-- the place of a file is added to a number
abbrev pub with_pointer : List ℕ → List ℕ → ℕ → ℕ → List Placed → List Placed
with_pointer dest src offset size placed =
    placed_with placed dest (put_at (placed_bytes placed dest) offset (le_bytes size (pointer_sum placed dest src offset size)))

-- the sum of a range is subtracted from a byte
abbrev pub with_sum : List ℕ → ℕ → ℕ → ℕ → List Placed → List Placed
with_sum name offset start count placed =
    let bytes = placed_bytes placed name in
    placed_with placed name (slice_set bytes offset ((slice_index bytes offset + (256 - byte_sum (part bytes start count))) % 256))

-- the place of a file, with an offset added, is written into a file of fw_cfg
abbrev pub with_written : List ℕ → List ℕ → ℕ → ℕ → ℕ → Progress → List File
with_written dest src dst_offset src_offset size p =
    files_with p.files dest (put_at (bytes_of p.files dest) dst_offset (le_bytes size (place_of p.placed src + src_offset)))

-- a file is placed with its present bytes at the next place, where one is left
abbrev pub allocated : List ℕ → Progress → List ℕ → Option Progress
allocated name p [] = None
allocated name p (place ∷ others) =
    Some (record p { placed = p.placed ++ record { name = name; place = place; bytes = bytes_of p.files name } ∷ []; places = others })

-- how far a run is after a command that isn't refused; None where an Allocate finds no place
unfoldable pub carried_out : Entry → Progress → Option Progress
carried_out (Allocate name align zone) p = allocated name p p.places
carried_out (AddPointer dest src offset size) p = Some (record p { placed = with_pointer dest src offset size p.placed })
carried_out (AddChecksum name offset start count) p = Some (record p { placed = with_sum name offset start count p.placed })
carried_out (WritePointer dest src dst_offset src_offset size) p = Some (record p { files = with_written dest src dst_offset src_offset size p })
carried_out (Misnamed command) p = Some p
carried_out (Skipped command) p = Some p

-- how a run goes on from the command at an index, which is refused, finds no place, or is carried out
abbrev pub goes_on : ℕ → Progress → Option Cause → Option Progress → (Progress → End × Progress) → End × Progress
goes_on index p (Some cause) after run = (Command index cause, p)
goes_on index p None None run = (NoRoom index, p)
goes_on index p None (Some after) run = run after

-- how the run of a script whose first command has an index ends, and how far it is then
abbrev pub run_from : ℕ → List Entry → Progress → End × Progress
run_from index [] p = (Done, p)
run_from index (entry ∷ script) p = goes_on index p (cause_of entry p) (carried_out entry p) (run_from (suc index) script)

-- how a run goes on with more of a script, the first command of which has this index: where it is done, from there
abbrev pub run_on : ℕ → List Entry → End → Progress → End × Progress
run_on index script Done p = run_from index script p
run_on index script end p = (end, p)

-- no file is placed yet
abbrev pub opening : List File → List ℕ → Progress
opening files places = record { files = files; placed = []; places = places }

-- the run of a script over files, with the places that its Allocates are given
abbrev pub run : List File → List Entry → List ℕ → End × Progress
run files script places = run_from 0 script (opening files places)

-- how far it is after its first commands
abbrev pub after_first : ℕ → List File → List Entry → List ℕ → Progress
after_first count files script places = (run files (take count script) places).1
