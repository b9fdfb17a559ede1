-- Rows that were appended are shown.
use Rattle.std.proofs.Common.{ℕ, ◌+◌, List}
use Rattle.vt_bytes.specs.View.{View}
use Rattle.vt_layout.specs.declared.row.Row.{Row}
use Rattle.vt_layout.specs.Shown.{LayoutHeld}
use Rattle.acpi_model.specs.declared.acpi.Table.{Table}
use Rattle.acpi_model.specs.Acpi.{IsWritable, rows_of, linked_table, IsAt}
use Rattle.acpi_model.proofs.HeldTables.{held_table}
use Rattle.blob_holes.specs.Blob.{BlobState, next_place}
use Rattle.blob_holes.specs.Appended.{IsAppended}
use Rattle.acpi_append.specs.Tables.{IsPut, AreRowsPut, IsTablePut}

-- what holds of a view that holds the rows is shown
pub put_where_held : (before after : BlobState) (rows : List Row) (IsShown : View → ℕ → (List ℕ → ℕ) → Type 0) → IsAppended 16 before after rows
    → ((view : View) (address : ℕ) (place_of : List ℕ → ℕ) → LayoutHeld view place_of address rows → IsShown view address place_of)
    → IsPut before after rows IsShown
put_where_held before after rows IsShown is shown = record {
  appended = is;
  shown = λ later view address place_of grown holds.
      shown view (address + next_place 16 before) place_of (is.held later view address place_of grown holds);
}

-- so a table that was appended stands there
pub table_put : (before after : BlobState) (table : Table) → IsWritable table → AreRowsPut before after (rows_of table) → IsTablePut before after table
table_put before after table writable put =
    put_where_held before after (rows_of table) (λ view address place_of. IsAt view address (linked_table place_of table)) put.appended
    (λ view address place_of held. held_table view place_of address table writable put.fit held)
