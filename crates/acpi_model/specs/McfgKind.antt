-- The MCFG (PCI Firmware Specification 3.3, 4.1.2), whose length says how many allocations it has, as a kind of table.
use Rattle.std.specs.Prelude.{ℕ, zero, suc, ◌-◌, ◌/◌, ◌%◌, ◌==◌, ◌&&◌, nat_le, List, [], ◌∷◌, ◌++◌, length, drop, Option, Some, None, if◌then◌else◌, codes}
use Rattle.vt_layout.specs.declared.row.Row.{Row}
use Rattle.vt_layout.specs.Rows.{shape}
use Rattle.vt_layout.specs.Values.{values_of}
use Rattle.vt_layout.specs.Fields.{field_rows}
use Rattle.acpi_records.specs.declared.mcfg.Mcfg.{Mcfg}
use Rattle.acpi_records.specs.declared.mcfg.McfgAllocation.{McfgAllocation}
use Rattle.acpi_records.specs.Header.{header_rows, body_rows}
use Rattle.acpi_records.specs.Mcfg.{mcfg_front_fields, mcfg_front_made, mcfg_front_of, mcfg_of, allocation_fields, allocation_made, allocations_rows}
use Rattle.acpi_model.specs.declared.acpi.Table.{Table}
use Rattle.acpi_model.specs.declared.acpi.Table.TheVariants.{Mcfg as McfgVariant}
use Rattle.acpi_model.specs.Kinds.{Kind, TableLayout}

-- the shape of the rows of an allocation, and of so many allocations
abbrev pub allocation_shape : List Row
allocation_shape = shape (field_rows (allocation_fields (allocation_made [])))

abbrev pub allocations_shape : ℕ → List Row
allocations_shape zero = []
allocations_shape (suc count) = allocation_shape ++ allocations_shape count

-- The shape of the rows behind the header of a table of so many bytes: eight bytes, and as many allocations of 16 bytes as fill it. There is
-- none where no number of them does.
abbrev pub mcfg_shape : ℕ → Option (List Row)
mcfg_shape total =
    if nat_le 44 total && ((total - 44) % 16 == 0)
    then Some (shape (body_rows (mcfg_front_fields (mcfg_front_made []))) ++ allocations_shape ((total - 44) / 16)) else None

-- the allocations that so many groups of five rows are
abbrev pub allocations_in : ℕ → List Row → List McfgAllocation
allocations_in zero rows = []
allocations_in (suc count) rows = allocation_made (values_of rows []) ∷ allocations_in count (drop 5 rows)

-- those behind the row of eight bytes
abbrev pub allocations_behind : List Row → List McfgAllocation
allocations_behind rows = allocations_in ((length rows - 1) / 5) (drop 1 rows)

abbrev pub mcfg_kind : Kind
mcfg_kind = record {
  signature = codes "MCFG";
  shape = λ view address total. mcfg_shape total;
  types = None;
  table = λ head body entries.
      McfgVariant (mcfg_of (mcfg_front_made (values_of (header_rows (codes "MCFG") 0 head ++ body) [])) (allocations_behind body));
}

abbrev pub mcfg_layout : Mcfg → TableLayout
mcfg_layout t = record {
  kind = mcfg_kind;
  head = t.head;
  body = body_rows (mcfg_front_fields (mcfg_front_of t)) ++ allocations_rows t.allocations;
  entries = [];
}

-- a table as one of this kind
abbrev pub as_mcfg : Table → Option Mcfg
as_mcfg (McfgVariant t) = Some t
as_mcfg table = None
