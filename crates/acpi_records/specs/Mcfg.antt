-- The table of memory-mapped configuration space (PCI Firmware Specification 3.3, 4.1.2): a front, and an allocation for each group of buses.
use Rattle.std.specs.Prelude.{List, [], ◌∷◌, ◌++◌}
use Rattle.std.specs.List.{flat_map}
use Rattle.vt_layout.specs.declared.row.Row.{Row}
use Rattle.vt_layout.specs.declared.value.Value.{Value}
use Rattle.vt_layout.specs.Values.{value_at, byte_of, word_of, qword_of}
use Rattle.vt_layout.specs.Fields.{Field, byte, word, qword, reserved, field_rows}
use Rattle.acpi_records.specs.declared.mcfg.McfgFront.{McfgFront}
use Rattle.acpi_records.specs.declared.mcfg.McfgAllocation.{McfgAllocation}
use Rattle.acpi_records.specs.declared.mcfg.Mcfg.{Mcfg}
use Rattle.acpi_records.specs.Header.{head_fields, head_made}

-- behind the header stand eight bytes that mean nothing
abbrev pub mcfg_front_fields : McfgFront → List Field
mcfg_front_fields f = head_fields f.head ++ reserved 8 ∷ []

abbrev pub mcfg_front_made : List Value → McfgFront
mcfg_front_made values = record { head = head_made values }

-- The first bus is no field: it is 0 where it is written, and passed over where it is read.
abbrev pub allocation_fields : McfgAllocation → List Field
allocation_fields a = qword a.base ∷ word a.segment ∷ reserved 1 ∷ byte a.last_bus ∷ reserved 4 ∷ []

abbrev pub allocation_made : List Value → McfgAllocation
allocation_made values = record {
  base = qword_of (value_at 0 values);
  segment = word_of (value_at 1 values);
  last_bus = byte_of (value_at 3 values);
}

-- the rows of allocations, one after the other
abbrev pub allocations_rows : List McfgAllocation → List Row
allocations_rows allocations = flat_map (λ a. field_rows (allocation_fields a)) allocations

-- the front of a table, and the table of a front and allocations
abbrev pub mcfg_front_of : Mcfg → McfgFront
mcfg_front_of t = record { head = t.head }

abbrev pub mcfg_of : McfgFront → List McfgAllocation → Mcfg
mcfg_of f allocations = record { head = f.head; allocations = allocations }
