-- The root (ACPI 6.5, 5.2.7 and 5.2.8), an XSDT or an RSDT: behind its header the addresses of the other tables.
use Rattle.std.specs.Prelude.{◌≡◌, ℕ, ◌≤◌, List, length, map, filter, not, ◌==◌}
use Rattle.vt_bytes.specs.View.{View}
use Rattle.vt_layout.specs.declared.row.Row.{Row}
use Rattle.vt_layout.specs.declared.row.Row.TheVariants.{Number}
use Rattle.vt_layout.specs.Shown.{LayoutShown}
use Rattle.acpi_records.specs.declared.header.Head.{Head}
use Rattle.acpi_records.specs.Header.{table_rows}
use Rattle.acpi_model.specs.declared.form.Form.{Form}
use Rattle.acpi_model.specs.Form.{address_size, root_signature, xsdt_form}

-- The most entries of a root. No more are read, so that the work of a reader is bounded, whatever a memory holds.
abbrev pub most_entries : ℕ
most_entries = 256

-- a root of a form with a row for each entry
abbrev pub root_rows : Form → Head → List Row → List Row
root_rows form h entries = table_rows (root_signature form) h entries

-- entries that hold these addresses
abbrev pub root_entries : Form → List ℕ → List Row
root_entries form addresses = map (Number (address_size form)) addresses

-- the addresses that aren't zero
abbrev pub given : List ℕ → List ℕ
given addresses = filter (λ address. not (address == 0)) addresses

-- A root of few entries stands at the address, and these are its entries that aren't zero, in order.
pub record IsRoot (form : Form) (view : View) (address : ℕ) (h : Head) (tables : List ℕ) : Type 0 where
  pub entries : List ℕ
  pub few : length entries ≤ most_entries
  pub shown : LayoutShown view address (root_rows form h (root_entries form entries))
  pub given : tables ≡ given entries

-- an XSDT
abbrev pub xsdt_rows : Head → List Row → List Row
xsdt_rows h entries = root_rows xsdt_form h entries

abbrev pub entries_of : List ℕ → List Row
entries_of addresses = root_entries xsdt_form addresses

abbrev pub IsXsdt : View → ℕ → Head → List ℕ → Type 0
IsXsdt view address h tables = IsRoot xsdt_form view address h tables
