-- The allocations of an MCFG (PCI Firmware Specification 3.3, 4.1.2) that a view has from an address on.
use Rattle.std.specs.Prelude.{ℕ, zero, suc, ◌+◌, List, [], ◌∷◌}
use Rattle.vt_bytes.specs.View.{View}
use Rattle.vt_layout.specs.Reading.{rows_in}
use Rattle.vt_layout.specs.Values.{values_of}
use Rattle.vt_layout.specs.Fields.{field_rows}
use Rattle.acpi_records.specs.declared.mcfg.McfgAllocation.{McfgAllocation}
use Rattle.acpi_records.specs.Mcfg.{allocation_fields, allocation_made}
use Rattle.acpi_decode.specs.Seen.{bytes_from}

-- the allocation that bytes are
abbrev pub allocation_in : List ℕ → McfgAllocation
allocation_in bytes = allocation_made (values_of (rows_in (field_rows (allocation_fields (allocation_made []))) bytes) [])

-- the one at an address, and so many from there on
abbrev pub allocation_at : View → ℕ → McfgAllocation
allocation_at view address = allocation_in (bytes_from view address 16)

abbrev pub allocations_at : View → ℕ → ℕ → List McfgAllocation
allocations_at view address zero = []
allocations_at view address (suc count) = allocation_at view address ∷ allocations_at view (address + 16) count
