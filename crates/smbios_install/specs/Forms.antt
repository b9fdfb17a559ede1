-- The form of an anchor that is a file (DMTF DSP0134, version 3.0.0, 5.2.1 and 5.2.2).
use Rattle.std.specs.Prelude.{ℕ, Bool, ◌&&◌, ◌==◌, List, length, take, codes, slice_index, Option, Some, None, if◌then◌else◌}
use Rattle.std.specs.Str.{bytes_eq}
use Rattle.vt_bytes.specs.Parts.{part}
use Rattle.smbios_model.specs.declared.anchor.AnchorForm.{AnchorForm}
use Rattle.smbios_model.specs.declared.anchor.AnchorForm.TheVariants.{Smbios3, Smbios2}

-- a 64-bit entry point of 24 bytes: its mark, and its length
abbrev pub is_smbios3 : List ℕ → Bool
is_smbios3 bytes = length bytes == 0x18 && bytes_eq (take 5 bytes) (codes "_SM3_") && slice_index bytes 6 == 0x18

-- an old anchor of 31 bytes: its mark, its length, and the mark of its part from offset 0x10 on
abbrev pub is_smbios2 : List ℕ → Bool
is_smbios2 bytes =
    length bytes == 31 && bytes_eq (take 4 bytes) (codes "_SM_") && slice_index bytes 5 == 31 && bytes_eq (part bytes 0x10 5) (codes "_DMI_")

-- the form of the anchor that the bytes are, whatever its sums are
abbrev pub form_of : List ℕ → Option AnchorForm
form_of bytes = if is_smbios3 bytes then Some Smbios3 else (if is_smbios2 bytes then Some Smbios2 else None)

-- where the address of the structures stands in an anchor, and how many bytes it has
abbrev pub pointer_place : AnchorForm → ℕ
pointer_place Smbios3 = 0x10
pointer_place Smbios2 = 0x18

abbrev pub pointer_size : AnchorForm → ℕ
pointer_size Smbios3 = 8
pointer_size Smbios2 = 4
