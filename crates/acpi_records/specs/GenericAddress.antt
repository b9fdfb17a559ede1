-- A register's address (Generic Address Structure, ACPI 6.5, 5.2.3.2).
use Rattle.std.specs.Prelude.{List, [], ◌∷◌}
use Rattle.vt_layout.specs.declared.value.Value.{Value}
use Rattle.vt_layout.specs.Values.{value_at, byte_of, qword_of}
use Rattle.vt_layout.specs.Fields.{Field, byte, qword}
use Rattle.acpi_records.specs.declared.generic_address.GenericAddress.{GenericAddress}

abbrev pub address_fields : GenericAddress → List Field
address_fields a = byte a.space ∷ byte a.width ∷ byte a.offset ∷ byte a.access ∷ qword a.address ∷ []

abbrev pub address_made : List Value → GenericAddress
address_made values = record {
  space = byte_of (value_at 0 values);
  width = byte_of (value_at 1 values);
  offset = byte_of (value_at 2 values);
  access = byte_of (value_at 3 values);
  address = qword_of (value_at 4 values);
}
