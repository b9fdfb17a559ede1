-- When a command of a script isn't refused (QEMU, hw/acpi/bios-linker-loader.c).
use Rattle.std.specs.Prelude.{◌≡◌, ℕ, ◌+◌, ◌^◌, ◌<◌, ◌≤◌, ◌⊎◌, true, List, length, Some, None}
use Rattle.std.specs.Int.{is_power_of_two}
use Rattle.vt_layout.specs.Rows.{IsPointerSize}
use Rattle.loader_script.specs.declared.entry.Entry.{Entry}
use Rattle.loader_script.specs.declared.entry.Entry.TheVariants.{Allocate, AddPointer, AddChecksum, WritePointer, Misnamed, Skipped}
use Rattle.vt_outside.specs.File.{File}
use Rattle.loader_script.specs.Run.{Placed, Progress, file_of, placed_of, pointer_sum}

-- An Allocate: its file is there, isn't placed, and isn't empty; its align is a power of two, and its zone is 1 or 2.
pub record CanAllocate (p : Progress) (name : List ℕ) (align zone : ℕ) : Type 0 where
  pub file : File
  pub there : file_of p.files name ≡ Some file
  pub fresh : placed_of p.placed name ≡ None
  pub some : 0 < length file.bytes
  pub power : is_power_of_two align ≡ true
  pub known_zone : (zone ≡ 1) ⊎ (zone ≡ 2)

-- An AddPointer: both files are placed, the number has a pointer's size and is in its file, and the sum fits it.
pub record CanAddPointer (p : Progress) (dest src : List ℕ) (offset size : ℕ) : Type 0 where
  pub file : File
  pub source : File
  pub there : file_of p.files dest ≡ Some file
  pub source_there : file_of p.files src ≡ Some source
  pub d : Placed
  pub s : Placed
  pub placed : placed_of p.placed dest ≡ Some d
  pub source_placed : placed_of p.placed src ≡ Some s
  pub sized : IsPointerSize size
  pub within : offset + size ≤ length file.bytes
  pub fits : pointer_sum p.placed dest src offset size < 256 ^ size

-- An AddChecksum: its file is placed, and the byte and the range are in it.
pub record CanAddChecksum (p : Progress) (name : List ℕ) (offset start count : ℕ) : Type 0 where
  pub file : File
  pub there : file_of p.files name ≡ Some file
  pub d : Placed
  pub placed : placed_of p.placed name ≡ Some d
  pub byte : offset < length file.bytes
  pub range : start + count ≤ length file.bytes

-- A WritePointer: the file that it writes is there and writable, the other is placed; the number has a pointer's size and is in its
-- file, what is added is below the other's size, and the sum fits the number.
pub record CanWritePointer (p : Progress) (dest src : List ℕ) (dst_offset src_offset size : ℕ) : Type 0 where
  pub file : File
  pub source : File
  pub there : file_of p.files dest ≡ Some file
  pub source_there : file_of p.files src ≡ Some source
  pub s : Placed
  pub source_placed : placed_of p.placed src ≡ Some s
  pub sized : IsPointerSize size
  pub writable : file.writable ≡ true
  pub within : dst_offset + size ≤ length file.bytes
  pub source_within : src_offset < length source.bytes
  pub fits : s.place + src_offset < 256 ^ size

-- a command that names no file is refused, and one that is skipped isn't
abbrev pub CanCarryOut : Entry → Progress → Type 0
CanCarryOut (Allocate name align zone) p = CanAllocate p name align zone
CanCarryOut (AddPointer dest src offset size) p = CanAddPointer p dest src offset size
CanCarryOut (AddChecksum name offset start count) p = CanAddChecksum p name offset start count
CanCarryOut (WritePointer dest src dst_offset src_offset size) p = CanWritePointer p dest src dst_offset src_offset size
CanCarryOut (Misnamed command) p = ⊥
CanCarryOut (Skipped command) p = Unit {0}
