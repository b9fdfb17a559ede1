-- Physical Memory Array, type 16 (DMTF DSP0134, version 3.0.0, 7.17).
use Rattle.std.specs.Prelude.{ℕ, ◌*◌, List, [], ◌∷◌, length, nat_lt, if◌then◌else◌}
use Rattle.std.specs.List.{sum_by}
use Rattle.vt_layout.specs.declared.value.Value.{Value}
use Rattle.vt_layout.specs.Values.{value_at, byte_of, word_of, dword_of, qword_of}
use Rattle.vt_layout.specs.Fields.{Field, byte, word, dword, qword}
use Rattle.machine_desc.specs.declared.smbios_parts.Dimm.{Dimm}
use Rattle.smbios_model.specs.declared.memory_array.ArrayInfo.{ArrayInfo}
use Rattle.smbios_model.specs.declared.smbios.Body.TheVariants.{Array}
use Rattle.smbios_model.specs.StructureKinds.{StructureKind, StructureLayout, kind_with, layout_with}

-- what it says in the rows of its area behind the structure's header
abbrev pub array_fields : ArrayInfo → List Field
array_fields i =
    byte i.location ∷ byte i.purpose ∷ byte i.correction ∷ dword i.capacity ∷ word i.error ∷ word i.devices ∷ qword i.extended ∷ []

-- the record of the values of these rows
abbrev pub array_in : List Value → ArrayInfo
array_in values = record {
  location = byte_of (value_at 0 values);
  purpose = byte_of (value_at 1 values);
  correction = byte_of (value_at 2 values);
  capacity = dword_of (value_at 3 values);
  error = word_of (value_at 4 values);
  devices = word_of (value_at 5 values);
  extended = qword_of (value_at 6 values);
}

abbrev pub array_kind : StructureKind
array_kind = kind_with 16 array_fields array_in Array

abbrev pub array_layout : ArrayInfo → StructureLayout
array_layout i = layout_with array_kind (array_fields i)

-- the handle of a machine's array, by which its devices and its mapped addresses name it
abbrev pub array_handle : ℕ
array_handle = 0x1000

-- the size of all modules in MiB
abbrev pub total_mib : List Dimm → ℕ
total_mib dimms = sum_by (λ (d : Dimm). d.size_mib) dimms

-- A capacity in KiB, which the second field tells in bytes from 2 TiB on.
abbrev pub capacity_of : ℕ → ℕ
capacity_of mib = if nat_lt mib 0x200000 then mib * 1024 else 0x80000000

abbrev pub extended_of : ℕ → ℕ
extended_of mib = if nat_lt mib 0x200000 then 0 else mib * 0x100000

-- what a machine's modules together are written as: system memory on the board, without error correction
abbrev pub array_of : List Dimm → ArrayInfo
array_of dimms = record {
  location = 3;
  purpose = 3;
  correction = 3;
  capacity = capacity_of (total_mib dimms);
  error = 0xFFFE;
  devices = length dimms;
  extended = extended_of (total_mib dimms);
}
