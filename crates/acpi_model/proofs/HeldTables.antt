-- Tables that are held as they were written are there.
use Rattle.std.proofs.Common.{◌≡◌, ℕ, ◌+◌, ◌-◌, List, ◌++◌, Option, Some, None, arith, refl, sym, subst}
use Rattle.std.specs.List.{AllByRecursion}
use Rattle.vt_bytes.specs.View.{View}
use Rattle.vt_bytes.proofs.Each.{each_back}
use Rattle.vt_layout.specs.declared.row.Row.{Row}
use Rattle.vt_layout.specs.Rows.{size, IsRow, linked}
use Rattle.vt_layout.specs.Shown.{Held, LayoutShown, LayoutHeld}
use Rattle.vt_layout.specs.Entries.{Entry, Types, entries_rows, linked_entries}
use Rattle.vt_layout.proofs.Sizes.{size-append}
use Rattle.vt_layout.proofs.Shows.{size-linked, shown_rows, shown_front, held_back, linked-append}
use Rattle.vt_layout.proofs.Entries.{shown_entries}
use Rattle.acpi_records.specs.declared.header.Head.{Head}
use Rattle.acpi_model.specs.declared.acpi.Table.{Table}
use Rattle.acpi_records.specs.Header.{header_rows, table_rows}
use Rattle.acpi_model.specs.Kinds.{TableLayout, EndsWith, IsLayoutAt, AreOfTypes, IsLawful, layout_rows, linked_layout}
use Rattle.acpi_model.specs.Acpi.{layout_of, IsWritable, rows_of, linked_table, IsAt}
use Rattle.acpi_model.proofs.Known.{is_listed}

-- a table is shown with its pointers linked
pub shown_table : (view : View) (place_of : List ℕ → ℕ) (address : ℕ) (s : List ℕ) (h : Head) (body : List Row)
    → AllByRecursion IsRow (table_rows s h body) → LayoutHeld view place_of address (table_rows s h body)
    → LayoutShown view address (table_rows s h (linked place_of body))
shown_table view place_of address s h body are held =
    subst (λ n. LayoutShown view address (header_rows s (36 + n) h ++ linked place_of body)) (sym (size-linked place_of body))
    (shown_rows view place_of address address (table_rows s h body) are held)

-- its entries fill what is behind its rows
ended : (types : Option Types) (view : View) (place_of : List ℕ → ℕ) (start address : ℕ) (entries : List Entry)
    → AllByRecursion IsRow (entries_rows entries) → AreOfTypes types (linked_entries place_of entries)
    → Held view place_of start address (entries_rows entries)
    → EndsWith types view start address (size (entries_rows entries)) (linked_entries place_of entries)
ended None view place_of start address entries are typed held = typed
ended (Some types) view place_of start address entries are typed held = shown_entries types view place_of start address entries are typed held

held_layout : (view : View) (place_of : List ℕ → ℕ) (address : ℕ) (l : TableLayout) → IsLawful l
    → AllByRecursion IsRow (layout_rows l) → LayoutHeld view place_of address (layout_rows l) → IsLayoutAt view address (linked_layout place_of l)
held_layout view place_of address l lawful are held =
    let more : List Row = entries_rows l.entries in
    let total : ℕ = 36 + size (l.body ++ more) in
    let header : List Row = header_rows l.kind.signature total l.head in
    let sizes = size-append l.body more in
    let width = size-linked place_of l.body in
    let all : LayoutShown view address (header ++ linked place_of (l.body ++ more)) =
    shown_rows view place_of address address (header ++ (l.body ++ more)) are held in
    let whole = subst (λ rows. LayoutShown view address (header ++ rows)) (linked-append place_of l.body more) all in
    let back = held_back view place_of address address (header ++ l.body) more held in
    let place : address + size (header ++ l.body) ≡ address + (36 + size (linked place_of l.body)) = omega (arith, width) in
    let count : size more ≡ total - (36 + size (linked place_of l.body)) = omega (arith, sizes, width) in
    record {
      total = total;
      stands = record {
        long_enough = omega (arith, sizes, width);
        shown = shown_front view address address (header ++ linked place_of l.body) (linked place_of more) whole;
      };
      shaped = lawful.shaped place_of view address held;
      ends = subst (λ n. EndsWith l.kind.types view address (address + (36 + size (linked place_of l.body))) n (linked_entries place_of l.entries)) count
          (subst (λ a. EndsWith l.kind.types view address a (size more) (linked_entries place_of l.entries)) place
          (ended l.kind.types view place_of address (address + size (header ++ l.body)) l.entries (each_back IsRow (header ++ l.body) more are)
          (lawful.typed place_of) back));
    }

pub held_table : (view : View) (place_of : List ℕ → ℕ) (address : ℕ) (table : Table) → IsWritable table → AllByRecursion IsRow (rows_of table)
    → LayoutHeld view place_of address (rows_of table) → IsAt view address (linked_table place_of table)
held_table view place_of address table writable are held = record {
  layout = linked_layout place_of (layout_of table);
  known = is_listed table;
  stands = held_layout view place_of address (layout_of table) writable.lawful are held;
  says = refl;
}
