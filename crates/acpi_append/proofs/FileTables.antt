-- Files with tables at their ends, by the definitions alone: they are as the calls that append say.
use Rattle.std.proofs.Common.{◌≡◌, ℕ, ◌+◌, ◌^◌, ◌<◌, ◌≤◌, List, length, map, arith}
use Rattle.std.specs.List.{AllByRecursion}
use Rattle.vt_bytes.proofs.Each.{each_append, each_map}
use Rattle.vt_layout.specs.declared.row.Row.{Row}
use Rattle.vt_layout.specs.Rows.{size, IsRow, linked}
use Rattle.vt_layout.specs.Shown.{LayoutShown}
use Rattle.vt_layout.proofs.Shows.{shown_rows}
use Rattle.acpi_records.specs.declared.header.Head.{Head}
use Rattle.acpi_records.specs.declared.facs.Facs.{Facs}
use Rattle.acpi_records.specs.Facs.{facs_rows}
use Rattle.acpi_model.specs.declared.acpi.Table.{Table}
use Rattle.acpi_model.specs.Header.{header_rows, table_rows, IsFittingHead}
use Rattle.acpi_model.specs.Xsdt.{most_entries, xsdt_rows}
use Rattle.acpi_model.specs.Rsdp.{rsdp_rows}
use Rattle.acpi_model.specs.Found.{IsBlockRow, dsdt_rows}
use Rattle.acpi_model.specs.Acpi.{layout_of, signature_of, rows_of, IsWritable, CanBePut}
use Rattle.acpi_model.proofs.Headers.{header_fits}
use Rattle.acpi_model.proofs.Known.{length-signature}
use Rattle.acpi_model.proofs.Xsdt.{held_xsdt}
use Rattle.blob_holes.specs.Blob.{BlobState, IsBlob, next_place}
use Rattle.blob_holes.specs.Rows.{IsUnsummed, AreRows}
use Rattle.blob_holes.proofs.RowsKept.{layout_appended}
use Rattle.acpi_model.specs.Kinds.{tables_name, rows_behind}
use Rattle.acpi_append.specs.Tables.{table_pointer, with_table, with_xsdt, with_rsdp, IsTablePut, IsXsdtPut, IsRsdpPut}
use Rattle.acpi_append.proofs.Tables.{are_table_rows, body_unsummed}
use Rattle.acpi_append.specs.FacsPut.{with_facs, IsFacsPut}
use Rattle.acpi_append.proofs.FacsPut.{facs_put}
use Rattle.acpi_append.specs.DsdtPut.{with_dsdt, IsDsdtPut}
use Rattle.acpi_append.proofs.DsdtPut.{dsdt_put}
use Rattle.acpi_append.proofs.Puts.{put_where_held, table_put}

-- so the rows of a table can be appended
pub table_fits : (signature : List ℕ) (h : Head) (body : List Row) → length signature ≡ 4 → size body < 2 ^ 31 → IsFittingHead h
    → AllByRecursion IsRow body → AllByRecursion IsUnsummed body → AreRows (table_rows signature h body)
table_fits signature h body four few fits are no_sum =
    are_table_rows signature h body
    (each_append IsRow (header_rows signature (36 + size body) h) body (header_fits signature (36 + size body) h four (omega arith) fits) are) no_sum

-- so can those of a table that can be put into a file
pub put_fits : (table : Table) → CanBePut table → AreRows (rows_of table)
put_fits table can =
    table_fits (signature_of table) (layout_of table).head (rows_behind (layout_of table)) (length-signature table)
    (omega (arith, can.writable.lawful.few)) can.head
    can.fit (body_unsummed (rows_behind (layout_of table)) can.writable.lawful.rows)

module _ (file : BlobState) (blob : IsBlob file) where
  -- a table
  pub table_appended : (table : Table) → IsWritable table → AreRows (rows_of table) → next_place 16 file + size (rows_of table) < 2 ^ 32
      → IsTablePut file (with_table file table) table
  table_appended table writable are short =
      table_put file (with_table file table) table writable (record { fit = are.each; appended = layout_appended 16 file (rows_of table) blob are short })

  -- an XSDT
  pub xsdt_appended : (h : Head) (tables : List ℕ) → length tables ≤ most_entries → AreRows (xsdt_rows h (map table_pointer tables))
      → next_place 16 file + size (xsdt_rows h (map table_pointer tables)) < 2 ^ 32 → IsXsdtPut file (with_xsdt file h tables) h tables
  xsdt_appended h tables few are short =
      put_where_held file (with_xsdt file h tables) (xsdt_rows h (map table_pointer tables)) _
      (layout_appended 16 file (xsdt_rows h (map table_pointer tables)) blob are short)
      (λ view at place_of held. held_xsdt view place_of at h tables_name tables few are.each held)

  -- an RSDP
  pub rsdp_appended : (oem_id : List ℕ) (xsdt : ℕ) → AreRows (rsdp_rows oem_id (table_pointer xsdt))
      → next_place 16 file + size (rsdp_rows oem_id (table_pointer xsdt)) < 2 ^ 32 → IsRsdpPut file (with_rsdp file oem_id xsdt) oem_id xsdt
  rsdp_appended oem_id xsdt are short =
      let rows = rsdp_rows oem_id (table_pointer xsdt) in
      let put : IsRsdpPut file (with_rsdp file oem_id xsdt) oem_id xsdt =
      put_where_held file (with_rsdp file oem_id xsdt) rows (λ view at place_of. LayoutShown view at (linked place_of rows))
      (layout_appended 16 file rows blob are short) (λ view at place_of held. shown_rows view place_of at at rows are.each held) in
      put

  -- a FACS
  pub facs_appended : (facs : Facs) → AreRows (facs_rows facs) → next_place 16 file + 64 < 2 ^ 32 → IsFacsPut file (with_facs file facs) facs
  facs_appended facs are short =
      facs_put file (with_facs file facs) facs are.each (layout_appended 16 file (facs_rows facs) blob are (omega (arith, short)))

  -- a DSDT
  pub dsdt_appended : (head : Head) (block : List Row) → AreRows (dsdt_rows head block) → AllByRecursion IsBlockRow block
      → next_place 16 file + size (dsdt_rows head block) < 2 ^ 32 → IsDsdtPut file (with_dsdt file head block) head block
  dsdt_appended head block are body short =
      dsdt_put file (with_dsdt file head block) head block are.each body (layout_appended 16 file (dsdt_rows head block) blob are short)

-- the pointers to tables are no sums
pub pointers_unsummed : (tables : List ℕ) → AllByRecursion IsUnsummed (map table_pointer tables)
pointers_unsummed tables = each_map IsUnsummed table_pointer (λ table. tt) tables
