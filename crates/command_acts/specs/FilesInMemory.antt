-- Files that a load has placed, with the bytes that memory holds there.
use Rattle.std.specs.Prelude.{◌≡◌, ◌≢◌, ℕ, ◌+◌, ◌-◌, ◌%◌, ◌^◌, ◌<◌, ◌≤◌, ◌⊎◌, List, [], ◌∷◌, length, map, find, Option, Some}
use Rattle.std.specs.List.{AllByRecursion}
use Rattle.std.specs.Option.{option_map, option_map_or}
use Rattle.std.specs.Str.{bytes_eq}
use Rattle.vt_outside.specs.Placement.{Range, Apart}
use Rattle.vt_layout.specs.Rows.{IsPointerSize}
use Rattle.vt_bytes.specs.Numbers.{le, le_bytes, byte_sum}
use Rattle.vt_bytes.specs.Memory.{Memory, IsRam, IsRamRange, at, bytes_at, with_bytes}
use Rattle.vt_outside.specs.File.{File}
use Rattle.loader_script.specs.Run.{Placed, Progress, file_of, placed_of}
use Rattle.command_acts.specs.declared.placed.PlacedFile.{PlacedFile}
use Rattle.command_acts.specs.Runs.{at_files}

-- the range of a placed file
abbrev pub placed_range : PlacedFile → Range
placed_range p = record { start = p.place; end = p.place + p.size }

abbrev pub placed_ranges : List PlacedFile → List Range
placed_ranges placed = map placed_range placed

-- a file ends at or below 4 GiB
abbrev pub EndsLow : PlacedFile → Type 0
EndsLow p = p.place + p.size ≤ 2 ^ 32

-- the placed file that has the name
abbrev pub placed_named : List PlacedFile → List ℕ → Option PlacedFile
placed_named placed name = find (λ (p : PlacedFile). bytes_eq p.name name) placed

-- where the placed file of a name stands
abbrev pub place_of : List PlacedFile → List ℕ → ℕ
place_of placed name = option_map_or (λ (p : PlacedFile). p.place) (placed_named placed name) 0

-- the memory after the place of one file is added to a number in another
abbrev pub pointed : Memory → List PlacedFile → List ℕ → List ℕ → ℕ → ℕ → Memory
pointed m placed dest src offset size =
    let field = place_of placed dest + offset in
    with_bytes m field (le_bytes size (le (bytes_at m field size) + place_of placed src))

-- the memory after the sum of a range of a file is subtracted from a byte of it
abbrev pub summed : Memory → List PlacedFile → List ℕ → ℕ → ℕ → ℕ → Memory
summed m placed name offset start count =
    let place = place_of placed name in
    with_bytes m (place + offset) ((at m (place + offset) + (256 - byte_sum (bytes_at m (place + start) count))) % 256 ∷ [])

-- a placed file with its bytes in memory
abbrev pub placed_in : Memory → PlacedFile → Placed
placed_in m p = record { name = p.name; place = p.place; bytes = bytes_at m p.place p.size }

-- the placed files with their bytes in memory
abbrev pub files_in : Memory → List PlacedFile → List Placed
files_in m placed = map (placed_in m) placed

-- how far the run is that a load carries out, with these places still to be given
abbrev pub progress_in : Memory → List File → List PlacedFile → List ℕ → Progress
progress_in m files placed places = at_files files (files_in m placed) places

-- two placed files have no address in common, and different names
pub record AreApart (p q : PlacedFile) : Type 0 where
  pub ranges : Apart (placed_range p) (placed_range q)
  pub names : p.name ≢ q.name

-- each file's range is RAM and ends low, and each file is apart from those after it
abbrev pub ArePlaced : ℕ → List PlacedFile → Type 0
ArePlaced top [] = Unit {0}
ArePlaced top (p ∷ placed) = IsRamRange top p.place p.size × EndsLow p × AllByRecursion (AreApart p) placed × ArePlaced top placed

-- a placed file is one of the files of a load, with as many bytes
abbrev pub IsOfSize : List File → PlacedFile → Type 0
IsOfSize files p = option_map (λ (file : File). length file.bytes) (file_of files p.name) ≡ Some p.size

-- What a load keeps: the files stand in RAM and apart, each with as many bytes as it has in fw_cfg.
pub record IsLoading (top : ℕ) (files : List File) (placed : List PlacedFile) : Type 0 where
  pub apart : ArePlaced top placed
  pub sizes : AllByRecursion (IsOfSize files) placed

-- an address is not in a file's range
abbrev pub IsBeside : ℕ → PlacedFile → Type 0
IsBeside address p = (address < p.place) ⊎ (p.place + p.size ≤ address)

-- An address that is beside each of the placed files was beside those before, and its byte is what it was.
abbrev pub OthersStay : Memory → Memory → List PlacedFile → List PlacedFile → Type 0
OthersStay before now placed_before placed = (address : ℕ) → IsRam now.top address → AllByRecursion (IsBeside address) placed
    → AllByRecursion (IsBeside address) placed_before × (at now address ≡ at before address)

-- A memory has its top and its fill byte still, and other bytes stay.
pub record Stays (before now : Memory) (placed_before placed : List PlacedFile) : Type 0 where
  pub top : now.top ≡ before.top
  pub fill : now.fill ≡ before.fill
  pub others : OthersStay before now placed_before placed

-- A pointer that can be added, where the sum fits: both files are placed, the number has a pointer's size and is in its file.
pub record CanPoint (placed : List Placed) (dest src : List ℕ) (offset size : ℕ) : Type 0 where
  pub d : Placed
  pub s : Placed
  pub found : placed_of placed dest ≡ Some d
  pub source_found : placed_of placed src ≡ Some s
  pub sized : IsPointerSize size
  pub within : offset + size ≤ length d.bytes

-- A sum that can be subtracted: the file is placed, and the byte and the range are in it.
pub record CanSum (placed : List Placed) (name : List ℕ) (offset start count : ℕ) : Type 0 where
  pub d : Placed
  pub found : placed_of placed name ≡ Some d
  pub byte : offset < length d.bytes
  pub range : start + count ≤ length d.bytes
