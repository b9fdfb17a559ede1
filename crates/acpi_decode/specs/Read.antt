-- The table of a kind that bytes are.
use Rattle.std.specs.Prelude.{◌≡◌, ℕ, zero, suc, ◌+◌, ◌-◌, ◌/◌, List, [], ◌∷◌, ◌++◌, drop, if◌then◌else◌}
use Rattle.std.specs.Option.{unwrap_or}
use Rattle.vt_bytes.specs.View.{View}
use Rattle.vt_layout.specs.declared.row.Row.{Row}
use Rattle.vt_layout.specs.Reading.{rows_in, read_number}
use Rattle.vt_layout.specs.Entries.{Entry}
use Rattle.vt_layout.specs.Values.{values_of}
use Rattle.vt_layout.specs.Fields.{field_rows}
use Rattle.acpi_records.specs.declared.header.Head.{Head}
use Rattle.acpi_records.specs.declared.facs.Facs.{Facs}
use Rattle.acpi_records.specs.Header.{head_fields, head_made}
use Rattle.acpi_records.specs.Facs.{facs_fields, facs_made}
use Rattle.acpi_model.specs.declared.form.Form.{Form}
use Rattle.acpi_model.specs.Form.{address_size}
use Rattle.acpi_model.specs.declared.acpi.Table.{Table}
use Rattle.acpi_model.specs.declared.link.FadtLinks.{FadtLinks}
use Rattle.acpi_model.specs.declared.link.Link.TheVariants.{Address}
use Rattle.acpi_model.specs.Kinds.{Kind, EndsWith}
use Rattle.acpi_model.specs.Xsdt.{given}
use Rattle.acpi_decode.specs.Seen.{bytes_from, number_at, total_at}
use Rattle.acpi_decode.specs.KindTests.{shape_at, front_of}

-- the rows of a header whose record is made of no values
abbrev pub head_shape : List Row
head_shape = field_rows (head_fields (head_made []))

-- the rows of a header and of a shape behind it that bytes are
abbrev pub rows_from : List Row → List ℕ → List Row
rows_from shape bytes = rows_in (head_shape ++ shape) bytes

-- the header of the table that bytes begin
abbrev pub head_in : List ℕ → Head
head_in bytes = head_made (values_of (rows_from [] bytes) [])

-- the FACS that bytes are
abbrev pub facs_in : List ℕ → Facs
facs_in bytes = facs_made (values_of (rows_in (field_rows (facs_fields (facs_made []))) bytes) [])

-- the table of a kind that these rows are, with entries behind them
abbrev pub table_of_rows : Kind → List Row → List Entry → Table
table_of_rows kind rows entries = kind.table (head_made (values_of rows [])) (drop 9 rows) entries

-- the one at an address
abbrev pub table_at : Kind → View → ℕ → List Entry → Table
table_at kind view address entries =
    table_of_rows kind (rows_from (unwrap_or (shape_at kind view address) []) (bytes_from view address (front_of kind view address))) entries

-- so many numbers of so many bytes from an address on
abbrev pub numbers_at : ℕ → View → ℕ → ℕ → List ℕ
numbers_at width view address zero = []
numbers_at width view address (suc count) = number_at view address width ∷ numbers_at width view (address + width) count

-- how many entries a root of so many bytes has, and the tables that the one at an address names
abbrev pub entry_count : Form → ℕ → ℕ
entry_count form total = if form.extended then (total - 36) / 8 else (total - 36) / 4

abbrev pub named_at : Form → View → ℕ → List ℕ
named_at form view root = given (numbers_at (address_size form) view (root + 36) (entry_count form (total_at view root)))

-- A table of a kind is read at an address: its entries fill it, and it is the one that its bytes are.
abbrev pub IsRead : Kind → View → ℕ → Table → Type 0
IsRead kind view address table =
    (entries : List Entry)
    × EndsWith kind.types view address (address + front_of kind view address) (total_at view address - front_of kind view address) entries
    × (table ≡ table_at kind view address entries)

-- the pointers at their rows in the bytes of an FADT
abbrev pub links_of_rows : List Row → List ℕ → FadtLinks
links_of_rows rows bytes = record {
  firmware_ctrl = Address (read_number 9 rows bytes);
  dsdt = Address (read_number 10 rows bytes);
  x_firmware_ctrl = Address (read_number 55 rows bytes);
  x_dsdt = Address (read_number 56 rows bytes);
}
