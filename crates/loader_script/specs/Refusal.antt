-- Why a command is refused: the first cause that applies, in the order of the causes.
use Rattle.std.specs.Prelude.{◌≡◌, ℕ, ◌+◌, ◌^◌, ◌≤◌, Bool, true, false, not, ◌&&◌, ◌||◌, List, [], ◌∷◌, Option, Some, None, is_some, unwrap_or, find, nat_lt}
use Rattle.std.specs.Prelude.{nat_le, ◌==◌, if◌then◌else◌}
use Rattle.std.specs.List.{AllByRecursion}
use Rattle.std.specs.Option.{option_map_or}
use Rattle.std.specs.Int.{is_power_of_two}
use Rattle.std.specs.Str.{bytes_eq}
use Rattle.vt_layout.specs.PointerSize.{is_pointer_size}
use Rattle.loader_script.specs.declared.entry.Entry.{Entry}
use Rattle.loader_script.specs.declared.entry.Entry.TheVariants.{Allocate, AddPointer, AddChecksum, WritePointer, Misnamed, Skipped}
use Rattle.loader_script.specs.declared.refusing.Cause.{Cause}
use Rattle.loader_script.specs.declared.refusing.Cause.TheVariants.{BadName, NoFile, AlreadyPlaced, NotPlaced, Empty, BadAlign, BadZone, BadSize, ReadOnly}
use Rattle.loader_script.specs.declared.refusing.Cause.TheVariants.{OutOfRange, TooFar}
use Rattle.loader_script.specs.declared.refusing.FileInfo.{FileInfo}

-- what is known of the file of a name
abbrev pub info_of : List FileInfo → List ℕ → Option FileInfo
info_of files name = find (λ (file : FileInfo). bytes_eq file.name name) files

-- where the file of a name is placed, if it is; the places are the files', one by one
abbrev pub placed_at : List FileInfo → List (Option ℕ) → List ℕ → Option ℕ
placed_at [] places name = None
placed_at (file ∷ files) [] name = None
placed_at (file ∷ files) (place ∷ places) name = if bytes_eq file.name name then place else placed_at files places name

abbrev pub is_there : List FileInfo → List ℕ → Bool
is_there files name = is_some (info_of files name)

abbrev pub is_placed : List FileInfo → List (Option ℕ) → List ℕ → Bool
is_placed files places name = is_some (placed_at files places name)

abbrev pub file_size : List FileInfo → List ℕ → ℕ
file_size files name = option_map_or (λ (file : FileInfo). file.size) (info_of files name) 0

abbrev pub is_writable : List FileInfo → List ℕ → Bool
is_writable files name = option_map_or (λ (file : FileInfo). file.writable) (info_of files name) false

-- The causes of each kind of command, in order, and whether each applies.
abbrev pub causes_of : Entry → List FileInfo → List (Option ℕ) → List (Cause × Bool)
causes_of (Allocate name align zone) files places =
    (NoFile, not (is_there files name)) ∷ (AlreadyPlaced, is_placed files places name) ∷ (Empty, file_size files name == 0)
    ∷ (BadAlign, not (is_power_of_two align)) ∷ (BadZone, not (zone == 1 || zone == 2)) ∷ []
causes_of (AddPointer dest src offset size) files places =
    (NoFile, not (is_there files dest && is_there files src)) ∷ (NotPlaced, not (is_placed files places dest && is_placed files places src))
    ∷ (BadSize, not (is_pointer_size size)) ∷ (OutOfRange, not (nat_le (offset + size) (file_size files dest))) ∷ []
causes_of (AddChecksum name offset start count) files places =
    (NoFile, not (is_there files name)) ∷ (NotPlaced, not (is_placed files places name))
    ∷ (OutOfRange, not (nat_lt offset (file_size files name) && nat_le (start + count) (file_size files name))) ∷ []
causes_of (WritePointer dest src dst_offset src_offset size) files places =
    (NoFile, not (is_there files dest && is_there files src)) ∷ (NotPlaced, not (is_placed files places src)) ∷ (BadSize, not (is_pointer_size size))
    ∷ (ReadOnly, not (is_writable files dest))
    ∷ (OutOfRange, not (nat_le (dst_offset + size) (file_size files dest) && nat_lt src_offset (file_size files src)))
    ∷ (TooFar, not (nat_lt (unwrap_or (placed_at files places src) 0 + src_offset) (256 ^ size))) ∷ []
causes_of (Misnamed command) files places = (BadName, true) ∷ []
causes_of (Skipped command) files places = []

-- the first cause that applies
abbrev pub first_cause : List (Cause × Bool) → Option Cause
first_cause [] = None
first_cause (cause ∷ causes) = if cause.1 then Some cause.0 else first_cause causes

-- no two files have one name
abbrev pub AreDistinct : List FileInfo → Type 0
AreDistinct [] = Unit {0}
AreDistinct (file ∷ files) = AllByRecursion (λ (other : FileInfo). bytes_eq other.name file.name ≡ false) files × AreDistinct files

-- each placed file ends at or below 4 GiB
abbrev pub EndLow : List FileInfo → List (Option ℕ) → Type 0
EndLow [] places = Unit {0}
EndLow (file ∷ files) [] = Unit {0}
EndLow (file ∷ files) (None ∷ places) = EndLow files places
EndLow (file ∷ files) (Some place ∷ places) = (place + file.size ≤ 2 ^ 32) × EndLow files places

-- a file has the name, and stands at that place or at none
pub record IsFound (files : List FileInfo) (places : List (Option ℕ)) (name : List ℕ) (file : FileInfo) (place : Option ℕ) : Type 0 where
  pub named : info_of files name ≡ Some file
  pub placed : placed_at files places name ≡ place
