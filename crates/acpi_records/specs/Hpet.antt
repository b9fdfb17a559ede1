-- The HPET table (IA-PC HPET 1.0a, 3.2.4).
use Rattle.std.specs.Prelude.{◌^◌, List, [], ◌∷◌, ◌++◌, nat_lt, if◌then◌else◌}
use Rattle.vt_layout.specs.declared.value.Value.{Value}
use Rattle.vt_layout.specs.Values.{skip, value_at, byte_of, word_of, dword_of}
use Rattle.vt_layout.specs.Fields.{Field, byte, word, dword, reserved}
use Rattle.machine_desc.specs.declared.machine.Acpi.{Acpi}
use Rattle.machine_desc.specs.declared.machine.Hpet.{Hpet}
use Rattle.acpi_records.specs.declared.hpet.HpetTable.{HpetTable}
use Rattle.acpi_records.specs.Header.{head_fields, head_made, head_of}
use Rattle.acpi_records.specs.GenericAddress.{address_fields, address_made}

abbrev pub hpet_fields : HpetTable → List Field
hpet_fields t =
    head_fields t.head ++ dword t.block_id ∷ address_fields t.address ++ byte t.number ∷ word t.min_tick ∷ reserved 1 ∷ []

abbrev pub hpet_made : List Value → HpetTable
hpet_made values = record {
  head = head_made values;
  block_id = dword_of (value_at 9 values);
  address = address_made (skip 10 values);
  number = byte_of (value_at 15 values);
  min_tick = word_of (value_at 16 values);
}

-- a machine's table: its registers are in memory, 64 bits wide
abbrev pub hpet_of : Acpi → Hpet → HpetTable
hpet_of acpi hpet = record {
  head = head_of acpi 1;
  block_id = hpet.block_id;
  address = record { space = 0; width = 64; offset = 0; access = 0; address = hpet.address };
  number = hpet.number;
  min_tick = hpet.min_tick;
}

-- the machine's part that a table tells; an address of more than 32 bits is 0
abbrev pub hpet_in : HpetTable → Hpet
hpet_in t = record {
  address = if nat_lt t.address.address (2 ^ 32) then t.address.address else 0;
  block_id = t.block_id;
  number = t.number;
  min_tick = t.min_tick;
}
