-- A SLIT as its bytes are read.
use Rattle.std.proofs.Common.{◌≡◌, ℕ, ◌+◌, ◌*◌, ◌≤◌, ◌&&◌, Bool, true, false, cond, nat_le, List, [], ◌∷◌, ◌++◌, Some, None, arith, refl, ap, sym, subst, ◌∙◌}
use Rattle.std.specs.Option.{option_map_or, unwrap_or}
use Rattle.std.proofs.lemmas.Bool.{and_parts, leb-true}
use Rattle.vt_bytes.specs.View.{View, bytes_in}
use Rattle.vt_layout.specs.declared.row.Row.{Row}
use Rattle.vt_layout.specs.declared.row.Row.TheVariants.{Number, Bytes}
use Rattle.vt_layout.specs.Rows.{size, number, text}
use Rattle.vt_layout.specs.Reading.{rows_in}
use Rattle.vt_layout.specs.Values.{values_of}
use Rattle.vt_layout.specs.Fields.{field_rows}
use Rattle.vt_layout.proofs.AsRows.{bytes_shaped}
use Rattle.vt_layout.proofs.InBytes.{shown_at}
use Rattle.vt_layout.proofs.InView.{bytes_as_rows}
use Rattle.vt_layout.proofs.Same.{same_rows}
use Rattle.acpi_records.specs.declared.slit.SlitFront.{SlitFront}
use Rattle.acpi_records.specs.Slit.{slit_front_fields, slit_front_made, slit_of}
use Rattle.acpi_model.specs.declared.acpi.Table.TheVariants.{Slit as SlitVariant}
use Rattle.acpi_model.specs.SlitKind.{slit_kind, most_nodes, count_at}
use Rattle.acpi_decode.specs.Seen.{is_ram, bytes_from, total_at}
use Rattle.acpi_decode.specs.KindTests.{shape_at, front_of, has_room}
use Rattle.acpi_decode.specs.Blank.{readable_rows}
use Rattle.acpi_decode.specs.Read.{head_shape, rows_from, table_of_rows, table_at}
use Rattle.acpi_decode.proofs.InRam.{ram_bytes, front_ram}
use Rattle.acpi_decode.proofs.Rooms.{shape_with_room}
use Rattle.acpi_decode.proofs.HeadRows.{rows_shown}
use Rattle.acpi_decode.proofs.TableStands.{table_shaped}

-- the rows in front of the distances, and with them
abbrev front_shape : List Row
front_shape = Number 8 0 ∷ []

abbrev whole_shape : ℕ → List Row
whole_shape bytes = Number 8 0 ∷ Bytes bytes [] ∷ []

-- the front that bytes are
front_from : List ℕ → SlitFront
front_from bytes = slit_front_made (values_of (rows_from front_shape bytes) [])

-- the count of a front that was read
pub count_read : (view : View) (address : ℕ) (bytes : List ℕ) (front : SlitFront) → bytes_in view address 44 ≡ Some bytes
    → front ≡ slit_front_made (values_of (rows_in (field_rows (slit_front_fields (slit_front_made []))) bytes) []) → front.count ≡ count_at view address
count_read view address bytes front there is =
    let shown = rows_shown view address front_shape bytes (readable_rows front_shape refl) there in
    let told : count_at view address ≡ number 9 (rows_from front_shape bytes) =
    ap (λ o. unwrap_or o 0) (shown_at view address address (rows_from front_shape bytes) 9 (omega arith) shown) in
    ap (λ (f : SlitFront). f.count) is ∙ sym told

-- the shape of a SLIT that has room for its distances
pub record IsCounted (view : View) (address : ℕ) : Type 0 where
  pub few : count_at view address ≤ most_nodes
  pub shaped : shape_at slit_kind view address ≡ Some (whole_shape (count_at view address * count_at view address))
  pub front : front_of slit_kind view address ≡ 44 + count_at view address * count_at view address

tested : (test : Bool) (rows : List Row) (total : ℕ)
    → option_map_or (λ those. nat_le (36 + size those) total) (cond test (Some rows) None) false ≡ true → test ≡ true
tested true rows total is = refl
tested false rows total is = absurd (cc is)

pub counted : (view : View) (address : ℕ) → has_room slit_kind view address ≡ true → IsCounted view address
counted view address room =
    let count : ℕ = count_at view address in
    let total : ℕ = total_at view address in
    let test : Bool = nat_le count most_nodes && nat_le (44 + count * count) total in
    let passes : test ≡ true = tested test (whole_shape (count * count)) total room in
    let parts = and_parts (nat_le count most_nodes) (nat_le (44 + count * count) total) passes in
    let shaped : shape_at slit_kind view address ≡ Some (whole_shape (count * count)) = ap (λ is. cond is (Some (whole_shape (count * count))) None) passes in
    let sizes : 36 + size (whole_shape (count * count)) ≡ 44 + count * count = omega arith in
    record {
      few = leb-true count most_nodes parts.0;
      shaped = shaped;
      front = ap (λ o. option_map_or (λ rows. 36 + size rows) o 36) shaped ∙ sizes;
    }

-- the table of rows is what the front's rows make, with the distances
of_rows : (count : ℕ) (bytes : List ℕ) → table_of_rows slit_kind (rows_from (whole_shape count) bytes) []
    ≡ SlitVariant (slit_of (front_from bytes) (text 10 (rows_from (whole_shape count) bytes)))
unfolding front_from
of_rows count bytes = refl

-- the front of a table is the same, as it is read alone
same_front : (view : View) (address count : ℕ) (bytes all : List ℕ) → bytes_in view address 44 ≡ Some bytes → 44 ≤ count
    → bytes_in view address count ≡ Some all
    → front_from bytes ≡ front_from all
unfolding front_from
same_front view address count bytes all there within whole =
    let kinds = head_shape ++ front_shape in
    let first = rows_shown view address front_shape bytes (readable_rows front_shape refl) there in
    let second = bytes_as_rows view address address count kinds all (readable_rows kinds refl) (omega (arith, within)) whole in
    ap (λ rows. slit_front_made (values_of rows [])) (same_rows view address address (rows_from front_shape bytes) (rows_from front_shape all) first second
    (bytes_shaped kinds bytes ∙ sym (bytes_shaped kinds all)))

pub slit_read : (view : View) (address : ℕ) (bytes : List ℕ) (front : SlitFront) (distances : List ℕ) → IsCounted view address
    → is_ram view address (44 + count_at view address * count_at view address) ≡ true → bytes_in view address 44 ≡ Some bytes
    → front ≡ slit_front_made (values_of (rows_in (field_rows (slit_front_fields (slit_front_made []))) bytes) [])
    → bytes_in view (address + 44) (count_at view address * count_at view address) ≡ Some distances
    → SlitVariant (slit_of front distances) ≡ table_at slit_kind view address []
unfolding front_from
slit_read view address bytes front distances counted ram there is behind =
    let count : ℕ = count_at view address * count_at view address in
    let all : List ℕ = bytes_from view address (36 + size (whole_shape count)) in
    let sizes : 44 + count ≡ 36 + size (whole_shape count) = omega arith in
    let whole = ram_bytes view address (36 + size (whole_shape count)) (subst (λ n. is_ram view address n ≡ true) sizes ram) in
    let shown = rows_shown view address (whole_shape count) all (readable_rows (whole_shape count) refl) whole in
    let last : bytes_in view (address + 44) count ≡ Some (text 10 (rows_from (whole_shape count) all)) =
    shown_at view address address (rows_from (whole_shape count) all) 10 (omega arith) shown in
    let same : distances ≡ text 10 (rows_from (whole_shape count) all) = cc (behind, last) in
    ap (λ f. SlitVariant (slit_of f distances)) (is ∙ same_front view address (36 + size (whole_shape count)) bytes all there (omega arith) whole)
    ∙ ap (λ those. SlitVariant (slit_of (front_from all) those)) same ∙ sym (of_rows count all)
    ∙ sym (table_shaped slit_kind view address (whole_shape count) [] counted.shaped)

-- the table is RAM as far as its distances go
pub slit_ram : (view : View) (address : ℕ) → has_room slit_kind view address ≡ true → is_ram view address (total_at view address) ≡ true
    → is_ram view address (44 + count_at view address * count_at view address) ≡ true
slit_ram view address room ram =
    let is = counted view address room in
    let form = shape_with_room slit_kind view address room in
    subst (λ n. is_ram view address n ≡ true) is.front
    (front_ram view address (total_at view address) (front_of slit_kind view address) ram (omega (arith, form.1.front, form.1.enough)))
