-- Memory Array Mapped Address, type 19 (DMTF DSP0134, version 3.0.0, 7.20).
use Rattle.std.specs.Prelude.{ℕ, ◌+◌, ◌-◌, ◌*◌, ◌/◌, List, [], ◌∷◌, nat_lt, ◌==◌, if◌then◌else◌}
use Rattle.vt_layout.specs.declared.value.Value.{Value}
use Rattle.vt_layout.specs.Values.{value_at, byte_of, word_of, dword_of, qword_of}
use Rattle.vt_layout.specs.Fields.{Field, byte, word, dword, qword}
use Rattle.machine_desc.specs.declared.smbios_parts.MemRange.{MemRange}
use Rattle.machine_desc.specs.Rules.{end_of}
use Rattle.machine_desc.specs.Fields.{fitted}
use Rattle.smbios_model.specs.declared.mapped_address.MappedInfo.{MappedInfo}
use Rattle.smbios_model.specs.declared.smbios.Body.TheVariants.{Mapped}
use Rattle.smbios_model.specs.MemoryArray.{array_handle}
use Rattle.smbios_model.specs.StructureKinds.{StructureKind, StructureLayout, kind_with, layout_with}

-- what it says in the rows of its area behind the structure's header
abbrev pub mapped_fields : MappedInfo → List Field
mapped_fields i =
    dword i.start ∷ dword i.end ∷ word i.array ∷ byte i.width ∷ qword i.ext_start ∷ qword i.ext_end ∷ []

-- the record of the values of these rows
abbrev pub mapped_in : List Value → MappedInfo
mapped_in values = record {
  start = dword_of (value_at 0 values);
  end = dword_of (value_at 1 values);
  array = word_of (value_at 2 values);
  width = byte_of (value_at 3 values);
  ext_start = qword_of (value_at 4 values);
  ext_end = qword_of (value_at 5 values);
}

abbrev pub mapped_kind : StructureKind
mapped_kind = kind_with 19 mapped_fields mapped_in Mapped

abbrev pub mapped_layout : MappedInfo → StructureLayout
mapped_layout i = layout_with mapped_kind (mapped_fields i)

-- A range from one MiB to the end before another, in KiB: the first one and the last one.
abbrev pub in_kib : ℕ → ℕ → MappedInfo
in_kib base end =
    record { start = base * 1024; end = end * 1024 - 1; array = array_handle; width = 1; ext_start = 0; ext_end = 0 }

-- the same in the extended fields: the addresses of the first byte and of the last one
abbrev pub in_bytes : ℕ → ℕ → MappedInfo
in_bytes base end = record {
  start = 0xFFFFFFFF;
  end = 0xFFFFFFFF;
  array = array_handle;
  width = 1;
  ext_start = base * 0x100000;
  ext_end = end * 0x100000 - 1;
}

-- what a machine's range is written as, in the machine's array: in the extended fields where its last KiB isn't below 0xFFFFFFFF
abbrev pub mapped_of : MemRange → MappedInfo
mapped_of r = if nat_lt (end_of r * 1024 - 1) 0xFFFFFFFF then in_kib r.base_mib (end_of r) else in_bytes r.base_mib (end_of r)

-- The way back. A range is told by its first number and its last one, in a unit that so many of make a MiB. Both of its numbers in MiB are
-- rounded down, the size once the first number is taken from the last one; one that doesn't fit 32 bits is 0. No node is told.
abbrev pub told_in : ℕ → ℕ → ℕ → MemRange
told_in unit first last =
    record { base_mib = fitted 32 (first / unit); size_mib = fitted 32 ((last - first + 1) / unit); node = 0 }

-- the range that a mapped address tells: in the extended fields, where the first one says so
abbrev pub range_in : MappedInfo → MemRange
range_in i = if i.start == 0xFFFFFFFF then told_in 0x100000 i.ext_start i.ext_end else told_in 1024 i.start i.end
