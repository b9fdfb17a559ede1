-- Kinds of ACPI tables, each told by its signature, and a table of a kind as its header, rows and entries.
use Rattle.std.specs.Prelude.{◌≡◌, ℕ, ◌+◌, ◌-◌, ◌≤◌, List, [], ◌++◌, Option, Some, None, codes}
use Rattle.std.specs.List.{AllByRecursion}
use Rattle.vt_bytes.specs.View.{View}
use Rattle.vt_layout.specs.declared.row.Row.{Row}
use Rattle.vt_layout.specs.declared.row.Row.TheVariants.{Pointer, Sum}
use Rattle.vt_layout.specs.declared.value.Value.{Value}
use Rattle.vt_layout.specs.Rows.{size, shape, linked}
use Rattle.vt_layout.specs.Shown.{LayoutHeld}
use Rattle.vt_layout.specs.Entries.{Entry, Types, EntriesShown, IsOfType, entries_rows, linked_entries}
use Rattle.vt_layout.specs.Values.{values_of}
use Rattle.vt_layout.specs.Fields.{Field}
use Rattle.acpi_records.specs.declared.header.Head.{Head}
use Rattle.acpi_model.specs.declared.acpi.Table.{Table}
use Rattle.acpi_records.specs.Header.{IsTable, header_rows, table_rows, body_rows}

-- A kind of table: its signature; the shape of the rows behind its header, in a table of so many bytes at an address of a view, or none
-- where so many bytes aren't of the kind's form; the types of the entries that fill it behind them, where it has entries; and the table
-- of a header, rows and entries.
pub record Kind : Type 0 where
  pub signature : List ℕ
  pub shape : View → ℕ → ℕ → Option (List Row)
  pub types : Option Types
  pub table : Head → List Row → List Entry → Table

-- a table: its kind, its header, and the rows and the entries behind it
pub record TableLayout : Type 0 where
  pub kind : Kind
  pub head : Head
  pub body : List Row
  pub entries : List Entry

-- The kind of a signature whose tables are records, without entries: the rows of each have the shape of those of a record that is made
-- of no values, and a table is what is made of the values of its rows.
abbrev pub kind_with : {T : Type 0} → List ℕ → (T → List Field) → (List Value → T) → (T → Table) → Kind
kind_with signature fields made table_of = record {
  signature = signature;
  shape = λ view address total. Some (shape (body_rows (fields (made []))));
  types = None;
  table = λ head body entries. table_of (made (values_of (header_rows signature 0 head ++ body) []));
}

-- a table of such a kind, whose record says these fields
abbrev pub layout_with : Kind → Head → List Field → TableLayout
layout_with kind head fields = record { kind = kind; head = head; body = body_rows fields; entries = [] }

-- the table that a layout is
abbrev pub table_of : TableLayout → Table
table_of l = l.kind.table l.head l.body l.entries

-- its rows behind its header, as they are written
abbrev pub rows_behind : TableLayout → List Row
rows_behind l = l.body ++ entries_rows l.entries

-- and as they are written
abbrev pub layout_rows : TableLayout → List Row
layout_rows l = table_rows l.kind.signature l.head (rows_behind l)

-- with its pointers' targets' places added, where each file stands at its place
abbrev pub linked_layout : (List ℕ → ℕ) → TableLayout → TableLayout
linked_layout place_of l = record l { body = linked place_of l.body; entries = linked_entries place_of l.entries }

-- Entries fill so many bytes at an address; behind the rows of a kind without entries, anything may stand.
abbrev pub EndsWith : Option Types → View → ℕ → ℕ → ℕ → List Entry → Type 0
EndsWith None view start address count entries = entries ≡ []
EndsWith (Some types) view start address count entries = EntriesShown types view start address count entries

-- a table of this layout stands at an address, with its least length or a greater one
pub record IsLayoutAt (view : View) (address : ℕ) (l : TableLayout) : Type 0 where
  pub total : ℕ
  pub stands : IsTable view address l.kind.signature l.head total l.body
  pub shaped : l.kind.shape view address total ≡ Some (shape l.body)
  pub ends : EndsWith l.kind.types view address (address + (36 + size l.body)) (total - (36 + size l.body)) l.entries

-- the file that holds the tables, and whose place the pointers to them have added
abbrev pub tables_name : List ℕ
tables_name = codes "etc/acpi/tables"

-- A row that may stand behind a header: no checksum, and a pointer only to the file of the tables.
abbrev pub IsBodyRow : Row → Type 0
IsBodyRow (Sum covers) = ⊥
IsBodyRow (Pointer width target offset) = target ≡ tables_name
IsBodyRow row = Unit {0}

-- entries of these types, or none where there are no types
abbrev pub AreOfTypes : Option Types → List Entry → Type 0
AreOfTypes None entries = entries ≡ []
AreOfTypes (Some types) entries = AllByRecursion (IsOfType types) entries

-- A layout that can be written, beyond that its values fit their rows. Where its pointers' targets' places are added, its rows have the
-- shape of its kind wherever a view holds it, with lists as long as it tells there, and its entries are of the types of its kind. Behind
-- its header are at most 16 MiB, without a checksum, and its pointers lead to tables.
pub record IsLawful (l : TableLayout) : Type 0 where
  pub shaped : (place_of : List ℕ → ℕ) (view : View) (address : ℕ) → LayoutHeld view place_of address (layout_rows l)
      → l.kind.shape view address (36 + size (rows_behind l)) ≡ Some (shape (linked place_of l.body))
  pub typed : (place_of : List ℕ → ℕ) → AreOfTypes l.kind.types (linked_entries place_of l.entries)
  pub few : size (rows_behind l) ≤ 0x1000000
  pub rows : AllByRecursion IsBodyRow (rows_behind l)
