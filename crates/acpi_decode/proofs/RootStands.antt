-- A root stands where it passes its tests, and nowhere else.
use Rattle.std.proofs.Common.{◌≡◌, ℕ, zero, suc, ◌+◌, ◌-◌, ◌*◌, ◌%◌, ◌≤◌, ◌&&◌, ◌==◌, true, nat_le, List, [], ◌∷◌, ◌++◌, length, map, Bool, false}
use Rattle.std.proofs.Common.{Some, arith, refl, ap, sym, subst, ◌∙◌, eqb-true, eq-eqb}
use Rattle.std.specs.Option.{option_map, unwrap_or}
use Rattle.std.proofs.lemmas.Bool.{le-leb, leb-true, and_parts}
use Rattle.std.proofs.lemmas.Slice.Eq.{bytes_eq-Decides}
use Rattle.vt_bytes.specs.Numbers.{le}
use Rattle.vt_bytes.specs.View.{View, number_in}
use Rattle.vt_layout.specs.declared.row.Row.TheVariants.{Number}
use Rattle.vt_layout.specs.Rows.{size}
use Rattle.vt_layout.specs.Shown.{Shown, LayoutShown}
use Rattle.vt_layout.proofs.NumberRows.{size-numbers}
use Rattle.acpi_records.specs.declared.header.Head.{Head}
use Rattle.acpi_records.specs.Header.{header_rows}
use Rattle.acpi_model.specs.declared.form.Form.{Form}
use Rattle.acpi_model.specs.Form.{address_size, root_signature}
use Rattle.acpi_model.specs.Xsdt.{IsRoot, root_entries, most_entries}
use Rattle.acpi_decode.specs.Seen.{is_ram, bytes_from, number_at, signature_at, total_at}
use Rattle.acpi_decode.specs.Tests.{Pass}
use Rattle.acpi_decode.specs.TableTests.{root_tests, is_root_length}
use Rattle.acpi_decode.specs.Read.{head_in, numbers_at, entry_count, named_at}
use Rattle.acpi_decode.proofs.InRam.{ram_bytes, part_ram}
use Rattle.acpi_decode.proofs.Headed.{headed_stands, table_tested}

-- how many there are
length-numbers_at : (width : ℕ) (view : View) (address count : ℕ) → length (numbers_at width view address count) ≡ count
length-numbers_at width view address zero = refl
length-numbers_at width view address (suc count) = ap suc (length-numbers_at width view (address + width) count)

-- one more is behind the others
pub numbers_more : (width : ℕ) (view : View) (address count : ℕ)
    → numbers_at width view address (count + 1) ≡ numbers_at width view address count ++ number_at view (address + width * count) width ∷ []
numbers_more width view address zero =
    let place : address ≡ address + width * 0 = omega arith in
    ap (λ a. number_at view a width ∷ []) place
numbers_more width view address (suc count) =
    let place : address + width + width * count ≡ address + width * suc count = omega arith in
    let one : suc count + 1 ≡ suc (count + 1) = omega arith in
    ap (numbers_at width view address) one ∙ ap (λ more. number_at view address width ∷ more) (numbers_more width view (address + width) count
    ∙ ap (λ a. numbers_at width view (address + width) count ++ number_at view a width ∷ []) place)

-- the number in RAM
number_told : (view : View) (address width : ℕ) → is_ram view address width ≡ true → number_in view address width ≡ Some (number_at view address width)
number_told view address width ram =
    let there = ram_bytes view address width ram in
    ap (option_map le) there ∙ ap Some (sym (ap (λ o. unwrap_or (option_map le o) 0) there))

-- numbers in RAM are shown
numbers_shown : (width : ℕ) (view : View) (start address count : ℕ) → is_ram view address (count * width) ≡ true
    → Shown view start address (map (Number width) (numbers_at width view address count))
numbers_shown width view start address zero ram = tt
numbers_shown width view start address (suc count) ram =
    let here : address + 0 ≡ address = omega arith in
    let first = subst (λ a. is_ram view a width ≡ true) here (part_ram view address (suc count * width) 0 width ram (omega arith)) in (
      number_told view address width first,
      numbers_shown width view start (address + width) count (part_ram view address (suc count * width) width (count * width) ram (omega arith)),
    )

-- a form by whether its RSDP is an extended one
abbrev form_of : Bool → Form
form_of extended = record { extended = extended; least_fadt = 0 }

-- the entries of a root of so many bytes
record AreEntries (form : Form) (total : ℕ) : Type 0 where
  long : 36 ≤ total
  all : total ≡ 36 + entry_count form total * address_size form
  few : entry_count form total ≤ most_entries

entries_in : (extended : Bool) (total : ℕ) → is_root_length (form_of extended) total ≡ true → AreEntries (form_of extended) total
entries_in true total is =
    let first = and_parts (nat_le 36 total) (((total - 36) % 8 == 0) && nat_le total 2084) is in
    let second = and_parts ((total - 36) % 8 == 0) (nat_le total 2084) first.1 in
    let long : 36 ≤ total = leb-true 36 total first.0 in
    let whole : (total - 36) % 8 ≡ 0 = eqb-true ((total - 36) % 8) 0 second.0 in
    let short : total ≤ 2084 = leb-true total 2084 second.1 in
    record { long = long; all = omega (arith, long, whole); few = omega (arith, short) }
entries_in false total is =
    let first = and_parts (nat_le 36 total) (((total - 36) % 4 == 0) && nat_le total 1060) is in
    let second = and_parts ((total - 36) % 4 == 0) (nat_le total 1060) first.1 in
    let long : 36 ≤ total = leb-true 36 total first.0 in
    let whole : (total - 36) % 4 ≡ 0 = eqb-true ((total - 36) % 4) 0 second.0 in
    let short : total ≤ 1060 = leb-true total 1060 second.1 in
    record { long = long; all = omega (arith, long, whole); few = omega (arith, short) }

pub root_stands : (form : Form) (view : View) (address : ℕ) → Pass (root_tests form view address)
    → IsRoot form view address (head_in (bytes_from view address 36)) (named_at form view address)
root_stands form view address pass =
    let total : ℕ = total_at view address in
    let count : ℕ = entry_count form total in
    let width : ℕ = address_size form in
    let signature : List ℕ = root_signature form in
    let are = entries_in form.extended total pass.1.1.0 in
    let signed : signature_at view address ≡ signature = (bytes_eq-Decides (signature_at view address) signature).0 pass.1.0 in
    let headed = headed_stands view address signature signed are.long pass.1.1.1 in
    let h = headed.shown in
    let numbers : List ℕ = numbers_at width view (address + 36) count in
    let sized : size (root_entries form numbers) ≡ count * width =
    size-numbers width numbers ∙ ap (λ n. n * width) (length-numbers_at width view (address + 36) count) in
    let all : total ≡ 36 + count * width = are.all in
    let within : 36 + count * width ≤ total = omega (arith, all) in
    let shown = numbers_shown width view address (address + 36) count (part_ram view address total 36 (count * width) pass.1.1.1.0 within) in
    let place : address + 36 ≡ address + 4 + 4 + 1 + 1 + 6 + 8 + 4 + 4 + 4 = omega arith in
    let behind = subst (λ a. Shown view address a (root_entries form numbers)) place shown in
    let whole : LayoutShown view address (header_rows signature total (head_in (bytes_from view address 36)) ++ root_entries form numbers) =
    (h.0, (h.1.0, (h.1.1.0, (h.1.1.1.0, (h.1.1.1.1.0, (h.1.1.1.1.1.0, (h.1.1.1.1.1.1.0, (h.1.1.1.1.1.1.1.0, (h.1.1.1.1.1.1.1.1.0, behind))))))))) in
    let totals : total ≡ 36 + size (root_entries form numbers) = omega (arith, all, sized) in
    record {
      entries = numbers;
      few = subst (λ n. n ≤ most_entries) (sym (length-numbers_at width view (address + 36) count)) are.few;
      shown = subst (λ n. LayoutShown view address (header_rows signature n (head_in (bytes_from view address 36)) ++ root_entries form numbers)) totals
          whole;
      given = refl;
    }

root_long : (extended : Bool) (n : ℕ) → n ≤ 256
    → is_root_length (form_of extended) (36 + n * address_size (form_of extended)) ≡ true
root_long true n few =
    let whole : (36 + n * 8 - 36) % 8 ≡ 0 = omega arith in
    rw (le-leb 36 (36 + n * 8) (omega arith), eq-eqb ((36 + n * 8 - 36) % 8) 0 whole, le-leb (36 + n * 8) 2084 (omega (arith, few))) refl
root_long false n few =
    let whole : (36 + n * 4 - 36) % 4 ≡ 0 = omega arith in
    rw (le-leb 36 (36 + n * 4) (omega arith), eq-eqb ((36 + n * 4 - 36) % 4) 0 whole, le-leb (36 + n * 4) 1060 (omega (arith, few))) refl

pub root_passes : (form : Form) (view : View) (address : ℕ) (h : Head) (tables : List ℕ) → IsRoot form view address h tables
    → Pass (root_tests form view address)
root_passes form view address h tables is =
    let signature : List ℕ = root_signature form in
    let body = root_entries form is.entries in
    let total : ℕ = 36 + size body in
    let enough : 36 + size body ≤ total = omega arith in
    let tested = table_tested view address signature h total body (record { long_enough = enough; shown = is.shown }) in
    let sized : total ≡ 36 + length is.entries * address_size form = ap (λ n. 36 + n) (size-numbers (address_size form) is.entries) in (
      tested.header,
      (
        (bytes_eq-Decides (signature_at view address) signature).1 tested.signed,
        (ap (is_root_length form) (tested.told ∙ sized) ∙ root_long form.extended (length is.entries) is.few, tested.whole),
      ),
    )
