-- Files of ACPI tables with one table more (ACPI 6.5, 5.2). Each begins at a multiple of 16.
use Rattle.std.specs.Prelude.{◌≡◌, ℕ, ◌+◌, List, [], ◌∷◌, ◌++◌, map}
use Rattle.std.specs.List.{AllByRecursion}
use Rattle.vt_bytes.specs.View.{View}
use Rattle.vt_layout.specs.declared.row.Row.{Row}
use Rattle.vt_layout.specs.declared.row.Row.TheVariants.{Number, Pointer}
use Rattle.vt_layout.specs.Rows.{IsRow}
use Rattle.vt_layout.specs.Shown.{LayoutShown}
use Rattle.vt_layout.specs.Fields.{field_rows}
use Rattle.vt_layout.specs.Entries.{entries_rows}
use Rattle.acpi_records.specs.declared.header.Head.{Head}
use Rattle.acpi_model.specs.declared.acpi.Table.{Table}
use Rattle.acpi_model.specs.declared.acpi.Table.TheVariants.{Slit, Mcfg}
use Rattle.acpi_model.specs.Header.{head_fields, body_rows}
use Rattle.acpi_model.specs.Slit.{slit_front_fields, slit_front_of, distances_row}
use Rattle.acpi_model.specs.Mcfg.{mcfg_front_fields, mcfg_front_of, allocations_rows}
use Rattle.acpi_model.specs.Kinds.{tables_name}
use Rattle.acpi_model.specs.Acpi.{layout_of, rows_of, linked_table, IsAt}
use Rattle.acpi_model.specs.Xsdt.{IsXsdt, xsdt_rows, given}
use Rattle.acpi_model.specs.Rsdp.{rsdp_rows}
use Rattle.blob_holes.specs.Blob.{BlobState, next_place, aligned}
use Rattle.blob_holes.specs.Rows.{with_rows}
use Rattle.blob_holes.specs.declared.part.Part.{Part}
use Rattle.blob_holes.specs.Parts.{StandFor}
use Rattle.blob_holes.specs.Held.{WhereHeld}
use Rattle.blob_holes.specs.Appended.{IsAppended}

-- rows that begin with those of a header, in which zeros stand for the signature, the length and the checksum
pub record BeginWithHeader (rows : List Row) : Type 0 where
  pub head : Head
  pub behind : List Row
  pub are : rows ≡ field_rows (head_fields head) ++ behind

-- The rows behind the header of a table that are put as rows, and those behind them that are put as the bytes which they spell, since
-- they may be many or long: the distances of a SLIT, the allocations of an MCFG, and the entries of any other table.
abbrev pub front_body : Table → List Row
front_body (Slit t) = body_rows (slit_front_fields (slit_front_of t))
front_body (Mcfg t) = body_rows (mcfg_front_fields (mcfg_front_of t))
front_body table = (layout_of table).body

abbrev pub rows_as_bytes : Table → List Row
rows_as_bytes (Slit t) = distances_row t.distances ∷ []
rows_as_bytes (Mcfg t) = allocations_rows t.allocations
rows_as_bytes table = entries_rows (layout_of table).entries

-- all that are put as rows, with zeros for the signature, the length and the checksum
abbrev pub front_rows : Table → List Row
front_rows table = field_rows (head_fields (layout_of table).head) ++ front_body table

-- the address of a table that stands at an offset of that file
abbrev pub table_pointer : ℕ → Row
table_pointer offset = Pointer 8 tables_name offset

-- a row that leads to that file, where it leads to one
abbrev pub Leads : Row → Type 0
Leads (Pointer width target offset) = target ≡ tables_name
Leads row = Unit {0}

abbrev pub with_table : BlobState → Table → BlobState
with_table blob table = with_rows (aligned 16 blob) (rows_of table)

abbrev pub with_xsdt : BlobState → Head → List ℕ → BlobState
with_xsdt blob head tables = with_rows (aligned 16 blob) (xsdt_rows head (map table_pointer tables))

abbrev pub with_rsdp : BlobState → List ℕ → ℕ → BlobState
with_rsdp blob oem_id xsdt = with_rows (aligned 16 blob) (rsdp_rows oem_id (table_pointer xsdt))

-- rows whose values fit them were appended at the next multiple of 16
pub record AreRowsPut (before after : BlobState) (rows : List Row) : Type 0 where
  pub fit : AllByRecursion IsRow rows
  pub appended : IsAppended 16 before after rows

-- and parts behind them, whatever rows stand for those
abbrev pub AreRowsPutWith : BlobState → BlobState → List Row → List Part → Type 0
AreRowsPutWith before after rows parts = (more : List Row) → StandFor parts more → AreRowsPut before after (rows ++ more)

-- The rows of a table were appended at the next multiple of 16, and wherever a view then holds the file with its holes filled, this
-- is shown at their address.
pub record IsPut (before after : BlobState) (rows : List Row) (IsShown : View → ℕ → (List ℕ → ℕ) → Type 0) : Type 0 where
  pub appended : IsAppended 16 before after rows
  pub shown : WhereHeld after (λ view address place_of. IsShown view (address + next_place 16 before) place_of)

-- a table of a known kind was appended: it stands there, with its pointers linked
abbrev pub IsTablePut : BlobState → BlobState → Table → Type 0
IsTablePut before after table =
    IsPut before after (rows_of table) (λ view address place_of. IsAt view address (linked_table place_of table))

-- an XSDT was appended: it stands there, and names each of the tables that isn't at zero
abbrev pub IsXsdtPut : BlobState → BlobState → Head → List ℕ → Type 0
IsXsdtPut before after head tables =
    IsPut before after (xsdt_rows head (map table_pointer tables))
    (λ view address place_of. IsXsdt view address head (given (map (λ table. table + place_of tables_name) tables)))

-- an RSDP was appended: a reader finds the address of the XSDT there
abbrev pub IsRsdpPut : BlobState → BlobState → List ℕ → ℕ → Type 0
IsRsdpPut before after oem_id xsdt =
    IsPut before after (rsdp_rows oem_id (table_pointer xsdt))
    (λ view address place_of. LayoutShown view address (rsdp_rows oem_id (Number 8 (xsdt + place_of tables_name))))
