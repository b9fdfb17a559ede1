-- An MCFG as its bytes are read: rows of a shape that is one part after another are read part by part.
use Rattle.std.proofs.Common.{◌≡◌, ℕ, zero, suc, ◌+◌, ◌-◌, ◌*◌, ◌/◌, ◌%◌, ◌≤◌, ◌==◌, ◌&&◌, Bool, true, false, cond, nat_le, List, [], ◌∷◌, ◌++◌}
use Rattle.std.proofs.Common.{length, take, drop, is_some, Some, None, arith, refl, ap, sym, subst, ◌∙◌}
use Rattle.std.specs.Option.{option_map_or}
use Rattle.std.proofs.lemmas.Bool.{and_parts, leb-true, le-leb, eqb-true}
use Rattle.std.proofs.lemmas.List.{drop-drop}
use Rattle.vt_bytes.specs.View.{View, bytes_in}
use Rattle.vt_bytes.proofs.Views.{bytes_in-split}
use Rattle.vt_layout.specs.declared.row.Row.{Row}
use Rattle.vt_layout.specs.declared.row.Row.TheVariants.{Reserved}
use Rattle.vt_layout.specs.Rows.{width_of, size}
use Rattle.vt_layout.specs.Reading.{row_in, rows_in}
use Rattle.vt_layout.specs.Values.{values_of}
use Rattle.vt_layout.specs.Fields.{field_rows}
use Rattle.vt_layout.proofs.AsRows.{bytes_shaped}
use Rattle.vt_layout.proofs.InView.{bytes_as_rows}
use Rattle.vt_layout.proofs.Same.{same_rows}
use Rattle.acpi_records.specs.declared.mcfg.McfgFront.{McfgFront}
use Rattle.acpi_records.specs.declared.mcfg.McfgAllocation.{McfgAllocation}
use Rattle.acpi_records.specs.Mcfg.{mcfg_front_fields, mcfg_front_made, mcfg_of, allocation_made}
use Rattle.acpi_model.specs.declared.acpi.Table.TheVariants.{Mcfg as McfgVariant}
use Rattle.acpi_model.specs.McfgKind.{mcfg_kind, mcfg_shape, allocation_shape, allocations_shape, allocations_in, allocations_behind}
use Rattle.acpi_decode.specs.Seen.{is_ram, bytes_from, total_at}
use Rattle.acpi_decode.specs.KindTests.{shape_at, has_room}
use Rattle.acpi_decode.specs.Blank.{readable_rows}
use Rattle.acpi_decode.specs.Read.{head_shape, rows_from, table_of_rows, table_at}
use Rattle.acpi_decode.specs.Allocations.{allocation_in, allocation_at, allocations_at}
use Rattle.acpi_decode.proofs.InRam.{ram_bytes, front_ram}
use Rattle.acpi_decode.proofs.ReadBytes.{bytes_read}
use Rattle.acpi_decode.proofs.HeadRows.{rows_shown}
use Rattle.acpi_decode.proofs.TableStands.{table_shaped}

-- the rows of one part, and those of the parts behind it
rows_in_parts : (first others : List Row) (bytes : List ℕ) → rows_in (first ++ others) bytes ≡ rows_in first bytes ++ rows_in others (drop (size first) bytes)
rows_in_parts [] others bytes = refl
rows_in_parts (row ∷ first) others bytes =
    let left = drop (width_of row) bytes in
    ap (λ rows. row_in row (take (width_of row) bytes) ∷ rows)
    (rows_in_parts first others left ∙ ap (λ rest. rows_in first left ++ rows_in others rest) (drop-drop (size first) (width_of row) bytes))

-- how many bytes allocations have, and how many rows
size-allocations : (count : ℕ) → size (allocations_shape count) ≡ 16 * count
size-allocations zero = refl
size-allocations (suc count) = omega (arith, size-allocations count)

length-allocations : (count : ℕ) (bytes : List ℕ) → length (rows_in (allocations_shape count) bytes) ≡ 5 * count
length-allocations zero bytes = refl
length-allocations (suc count) bytes =
    let rows = ap length (rows_in_parts allocation_shape (allocations_shape count) bytes) in
    omega (arith, rows, length-allocations count (drop 16 bytes))

-- the allocation that bytes begin with is the one at their address
first_read : (view : View) (address count : ℕ) (bytes : List ℕ) → bytes_in view address (16 + count) ≡ Some bytes
    → allocation_in bytes ≡ allocation_at view address
first_read view address count bytes there =
    let parts = bytes_in-split view address 16 count bytes there in
    let readable = readable_rows allocation_shape refl in
    let here = bytes_as_rows view address address (16 + count) allocation_shape bytes readable (omega arith) there in
    let alone = bytes_as_rows view address address 16 allocation_shape (take 16 bytes) readable (omega arith) parts.first in
    ap (λ rows. allocation_made (values_of rows [])) (same_rows view address address (rows_in allocation_shape bytes) (rows_in allocation_shape (take 16 bytes))
    here alone (bytes_shaped allocation_shape bytes ∙ sym (bytes_shaped allocation_shape (take 16 bytes))))
    ∙ ap allocation_in (bytes_read view address 16 (take 16 bytes) parts.first)

-- so the allocations that bytes are stand one after the other
all_read : (view : View) (address count : ℕ) (bytes : List ℕ) → bytes_in view address (16 * count) ≡ Some bytes
    → allocations_in count (rows_in (allocations_shape count) bytes) ≡ allocations_at view address count
all_read view address zero bytes there = refl
all_read view address (suc count) bytes there =
    let sizes : 16 * suc count ≡ 16 + 16 * count = omega arith in
    let whole = subst (λ n. bytes_in view address n ≡ Some bytes) sizes there in
    let parts = bytes_in-split view address 16 (16 * count) bytes whole in
    ap (allocations_in (suc count)) (rows_in_parts allocation_shape (allocations_shape count) bytes)
    ∙ ap (λ a. a ∷ allocations_in count (rows_in (allocations_shape count) (drop 16 bytes))) (first_read view address (16 * count) bytes whole)
    ∙ ap (λ others. allocation_at view address ∷ others) (all_read view (address + 16) count (drop 16 bytes) parts.second)

-- one more is the last
pub one_more : (view : View) (address count : ℕ) → allocations_at view address (suc count)
    ≡ allocations_at view address count ++ allocation_at view (address + 16 * count) ∷ []
one_more view address zero =
    let here : address + 16 * 0 ≡ address = omega arith in
    ap (λ a. allocation_at view a ∷ []) (sym here)
one_more view address (suc count) =
    let place : address + 16 + 16 * count ≡ address + 16 * suc count = omega arith in
    ap (λ others. allocation_at view address ∷ others) (one_more view (address + 16) count
    ∙ ap (λ a. allocations_at view (address + 16) count ++ allocation_at view a ∷ []) place)

-- the rows in front of the allocations, and with them
abbrev front_shape : List Row
front_shape = Reserved 8 ∷ []

abbrev whole_shape : ℕ → List Row
whole_shape count = front_shape ++ allocations_shape count

front_from : List ℕ → McfgFront
front_from bytes = mcfg_front_made (values_of (rows_from front_shape bytes) [])

-- the shape of an MCFG that is filled
pub record IsFilled (view : View) (address : ℕ) : Type 0 where
  pub long : 44 ≤ total_at view address
  pub whole : (total_at view address - 44) % 16 ≡ 0
  pub shaped : shape_at mcfg_kind view address ≡ Some (whole_shape ((total_at view address - 44) / 16))

tested : (test : Bool) (rows : List Row) (total : ℕ)
    → option_map_or (λ those. nat_le (36 + size those) total) (cond test (Some rows) None) false ≡ true → test ≡ true
tested true rows total is = refl
tested false rows total is = absurd (cc is)

pub filled : (view : View) (address : ℕ) → has_room mcfg_kind view address ≡ true → IsFilled view address
filled view address room =
    let total : ℕ = total_at view address in
    let rows = whole_shape ((total - 44) / 16) in
    let test : Bool = nat_le 44 total && ((total - 44) % 16 == 0) in
    let passes : test ≡ true = tested test rows total room in
    let parts = and_parts (nat_le 44 total) ((total - 44) % 16 == 0) passes in
    record {
      long = leb-true 44 total parts.0;
      whole = eqb-true ((total - 44) % 16) 0 parts.1;
      shaped = ap (λ is. cond is (Some rows) None) passes;
    }

-- where so many allocations fill it, it has room for them
pub filled_room : (view : View) (address : ℕ) → is_some (mcfg_shape (total_at view address)) ≡ has_room mcfg_kind view address
filled_room view address = either (nat_le 44 total && ((total - 44) % 16 == 0)) (λ passes.
    let parts = and_parts (nat_le 44 total) ((total - 44) % 16 == 0) passes in
    omega (arith, size-allocations ((total - 44) / 16), leb-true 44 total parts.0))
  where
    total : ℕ
    total = total_at view address

    rows : List Row
    rows = whole_shape ((total - 44) / 16)

    either : (test : Bool) → (test ≡ true → 36 + size rows ≤ total)
        → is_some (cond test (Some rows) None) ≡ option_map_or (λ those. nat_le (36 + size those) total) (cond test (Some rows) None) false
    either true within = sym (le-leb (36 + size rows) total (within refl))
    either false within = refl

-- the table of rows is what the front's rows make, with the allocations
of_rows : (count : ℕ) (bytes : List ℕ) → table_of_rows mcfg_kind (rows_from (whole_shape count) bytes) []
    ≡ McfgVariant (mcfg_of (front_from bytes) (allocations_behind (drop 9 (rows_from (whole_shape count) bytes))))
unfolding front_from
of_rows count bytes = refl

-- the front of a table is the same, as it is read alone
same_front : (view : View) (address count : ℕ) (bytes all : List ℕ) → bytes_in view address 44 ≡ Some bytes → 44 ≤ count
    → bytes_in view address count ≡ Some all
    → front_from bytes ≡ front_from all
unfolding front_from
same_front view address count bytes all there within whole =
    let kinds = head_shape ++ front_shape in
    let first = rows_shown view address front_shape bytes (readable_rows front_shape refl) there in
    let second = bytes_as_rows view address address count kinds all (readable_rows kinds refl) (omega (arith, within)) whole in
    ap (λ rows. mcfg_front_made (values_of rows [])) (same_rows view address address (rows_from front_shape bytes) (rows_from front_shape all) first second
    (bytes_shaped kinds bytes ∙ sym (bytes_shaped kinds all)))

-- the allocations among the rows of a table
among_rows : (view : View) (address count : ℕ) (bytes : List ℕ) → bytes_in view address (44 + 16 * count) ≡ Some bytes
    → allocations_behind (drop 9 (rows_from (whole_shape count) bytes)) ≡ allocations_at view (address + 44) count
among_rows view address count bytes there =
    let rows = rows_in (allocations_shape count) (drop 44 bytes) in
    let number : (length (Reserved 8 ∷ rows) - 1) / 5 ≡ count = omega (arith, length-allocations count (drop 44 bytes)) in
    let parts = bytes_in-split view address 44 (16 * count) bytes there in
    ap (λ those. allocations_behind (drop 9 those)) (rows_in_parts (head_shape ++ front_shape) (allocations_shape count) bytes)
    ∙ ap (λ n. allocations_in n rows) number ∙ all_read view (address + 44) count (drop 44 bytes) parts.second

pub mcfg_read : (view : View) (address : ℕ) (bytes : List ℕ) (front : McfgFront) (allocations : List McfgAllocation) → IsFilled view address
    → is_ram view address (total_at view address) ≡ true → bytes_in view address 44 ≡ Some bytes
    → front ≡ mcfg_front_made (values_of (rows_in (field_rows (mcfg_front_fields (mcfg_front_made []))) bytes) [])
    → allocations ≡ allocations_at view (address + 44) ((total_at view address - 44) / 16)
    → McfgVariant (mcfg_of front allocations) ≡ table_at mcfg_kind view address []
unfolding front_from
mcfg_read view address bytes front allocations filled ram there is behind =
    let count : ℕ = (total_at view address - 44) / 16 in
    let sizes : 36 + size (whole_shape count) ≡ 44 + 16 * count = omega (arith, size-allocations count) in
    let within : 36 + size (whole_shape count) ≤ total_at view address = omega (arith, sizes, filled.long) in
    let all : List ℕ = bytes_from view address (36 + size (whole_shape count)) in
    let whole = ram_bytes view address (36 + size (whole_shape count)) (front_ram view address (total_at view address) (36 + size (whole_shape count))
    ram within) in
    let last = among_rows view address count all (subst (λ n. bytes_in view address n ≡ Some all) sizes whole) in
    ap (λ f. McfgVariant (mcfg_of f allocations)) (is ∙ same_front view address (36 + size (whole_shape count)) bytes all there (omega (arith, sizes)) whole)
    ∙ ap (λ those. McfgVariant (mcfg_of (front_from all) those)) (behind ∙ sym last) ∙ sym (of_rows count all)
    ∙ sym (table_shaped mcfg_kind view address (whole_shape count) [] filled.shaped)
