-- The rows of tables lead to the file of the tables.
use Rattle.std.proofs.Common.{ℕ, List, map, codes, refl}
use Rattle.std.specs.List.{AllByRecursion}
use Rattle.vt_bytes.proofs.Each.{each_weaker, each_map}
use Rattle.vt_layout.specs.declared.row.Row.{Row}
use Rattle.vt_layout.specs.declared.row.Row.TheVariants.{Pointer, Sum}
use Rattle.acpi_records.specs.declared.header.Head.{Head}
use Rattle.acpi_model.specs.declared.acpi.Table.{Table}
use Rattle.acpi_model.specs.Header.{table_rows}
use Rattle.acpi_model.specs.Kinds.{rows_behind, IsBodyRow}
use Rattle.acpi_model.specs.Xsdt.{xsdt_rows}
use Rattle.acpi_model.specs.Rsdp.{rsdp_rows}
use Rattle.acpi_model.specs.Acpi.{layout_of, signature_of, rows_of, IsWritable}
use Rattle.acpi_append.specs.Tables.{Leads, table_pointer}

-- a header leads nowhere
header_leads : (signature : List ℕ) (head : Head) (body : List Row) → AllByRecursion Leads body → AllByRecursion Leads (table_rows signature head body)
header_leads signature head body lead = (tt, (tt, (tt, (tt, (tt, (tt, (tt, (tt, (tt, lead)))))))))

body_leads : (row : Row) → IsBodyRow row → Leads row
body_leads (Pointer width target offset) is = is
body_leads (Sum covers) is = absurd is
body_leads row is = tt

pub table_leads : (table : Table) → IsWritable table → AllByRecursion Leads (rows_of table)
table_leads table writable =
    header_leads (signature_of table) (layout_of table).head (rows_behind (layout_of table))
    (each_weaker IsBodyRow Leads body_leads (rows_behind (layout_of table)) writable.lawful.rows)

pub xsdt_leads : (head : Head) (tables : List ℕ) → AllByRecursion Leads (xsdt_rows head (map table_pointer tables))
xsdt_leads head tables = header_leads (codes "XSDT") head (map table_pointer tables) (each_map Leads table_pointer (λ table. refl) tables)

pub rsdp_leads : (oem_id : List ℕ) (xsdt : ℕ) → AllByRecursion Leads (rsdp_rows oem_id (table_pointer xsdt))
rsdp_leads oem_id xsdt = (tt, (tt, (tt, (tt, (tt, (tt, (refl, (tt, (tt, tt)))))))))
