-- RSDPs in a memory, from what is read at an address where one may stand.
use Rattle.std.proofs.Common.{◌≡◌, ℕ, ◌+◌, ◌%◌, ◌≤◌, Bool, true, false, List, Some, arith, ap, sym, ◌∙◌}
use Rattle.std.specs.Option.{option_map}
use Rattle.vt_bytes.specs.Numbers.{byte_sum, le}
use Rattle.vt_bytes.specs.View.{View, bytes_in, number_in}
use Rattle.vt_bytes.specs.Memory.{Memory, at, bytes_at, seen}
use Rattle.vt_bytes.proofs.Bytes.{bytes_at-one}
use Rattle.vt_bytes.proofs.Seen.{bytes_in-seen}
use Rattle.vt_layout.specs.declared.row.Row.{Row}
use Rattle.vt_layout.specs.declared.row.Row.TheVariants.{Number}
use Rattle.vt_layout.specs.Shown.{LayoutShown}
use Rattle.acpi_model.specs.declared.form.Form.{Form}
use Rattle.acpi_model.specs.Form.{has_revision, rsdp_size, root_place, address_size}
use Rattle.acpi_model.specs.Rsdp.{HasRsdpBy, rsdp_rows_by}
use Rattle.anchor_scan.specs.Found.{HasRsdpSignature, HasRevisionAndSums, some_bytes}
use Rattle.anchor_scan.proofs.ReadAndSeen.{low_ram}

-- the form of an RSDP, and its rows, by whether it is an extended one
abbrev form_of : Bool → Form
form_of extended = record { extended = extended; least_fadt = 0 }

abbrev rows_of : Bool → List ℕ → ℕ → ℕ → List Row
rows_of extended oem_id revision root = rsdp_rows_by (form_of extended) oem_id revision (Number (address_size (form_of extended)) root)

-- its root's address lies inside it
root_inside : (extended : Bool) → root_place (form_of extended) + address_size (form_of extended) ≤ rsdp_size (form_of extended)
root_inside true = omega arith
root_inside false = omega arith

-- its rows are shown where its signature, its revision, its sums, the maker's id and the root's address are
rows_shown : (extended : Bool) (view : View) (address : ℕ) (oem_id : List ℕ) (root : ℕ) → HasRsdpSignature view address
    → bytes_in view (address + 8 + 1) 6 ≡ Some oem_id
    → number_in view (address + root_place (form_of extended)) (address_size (form_of extended)) ≡ Some root
    → (has : HasRevisionAndSums (form_of extended) view address) → LayoutShown view address (rows_of extended oem_id has.revision root)
rows_shown true view address oem_id root signature maker there has =
    let told = ap (λ a. number_in view a 1) (omega arith) ∙ has.told in
    let led = ap (λ a. number_in view a 8) (omega arith) ∙ there in
    (signature, (has.first, (maker, (told, (tt, (tt, (led, (has.all, (tt, tt)))))))))
rows_shown false view address oem_id root signature maker there has =
    let told = ap (λ a. number_in view a 1) (omega arith) ∙ has.told in
    let led = ap (λ a. number_in view a 4) (omega arith) ∙ there in
    (signature, (has.first, (maker, (told, (led, tt)))))

-- and they tell its revision and its sums
sums_told : (extended : Bool) (view : View) (address : ℕ) (oem_id : List ℕ) (revision root : ℕ) → has_revision (form_of extended) revision ≡ true
    → LayoutShown view address (rows_of extended oem_id revision root) → HasRevisionAndSums (form_of extended) view address
sums_told true view address oem_id revision root revised shown = record {
  revision = revision;
  told = ap (λ a. number_in view a 1) (omega arith) ∙ shown.1.1.1.0;
  revised = revised;
  first = shown.1.0;
  all = shown.1.1.1.1.1.1.1.0;
}
sums_told false view address oem_id revision root revised shown = record {
  revision = revision;
  told = ap (λ a. number_in view a 1) (omega arith) ∙ shown.1.1.1.0;
  revised = revised;
  first = shown.1.0;
  all = shown.1.0;
}

-- An RSDP stands where its signature does, its revision and its sums.
pub rsdp_stands : (m : Memory) (form : Form) (address : ℕ) → 0xE0000 ≤ address → address % 16 ≡ 0 → address + rsdp_size form ≤ 0x100000
    → HasRsdpSignature (seen m) address → HasRevisionAndSums form (seen m) address → HasRsdpBy form (seen m) address
rsdp_stands m form address from aligned within signature has =
    let place : ℕ = address + root_place form in
    let size : ℕ = address_size form in
    let maker = bytes_in-seen m (address + 8 + 1) 6
    (low_ram m.top (address + 8 + 1) 6 (omega (arith, from)) (omega (arith, within, some_bytes form.extended))) in
    let led = ap (option_map le) (bytes_in-seen m place size
    (low_ram m.top place size (omega (arith, from)) (omega (arith, within, root_inside form.extended)))) in
    let there : HasRevisionAndSums (form_of form.extended) (seen m) address =
    record { revision = has.revision; told = has.told; revised = has.revised; first = has.first; all = has.all } in (
      bytes_at m (address + 8 + 1) 6,
      le (bytes_at m place size),
      record {
        from = from;
        aligned = aligned;
        within = within;
        revision = has.revision;
        revised = has.revised;
        shown = rows_shown form.extended (seen m) address _ _ signature maker led there;
      },
    )

-- the revision and the sums of an RSDP
pub rsdp_sums : (form : Form) (view : View) (address : ℕ) → HasRsdpBy form view address → HasRevisionAndSums form view address
rsdp_sums form view address has =
    let is = has.2 in
    let told = sums_told form.extended view address has.0 is.revision has.1 is.revised is.shown in
    record { revision = told.revision; told = told.told; revised = told.revised; first = told.first; all = told.all }

-- the number of one byte that is read
pub byte_told : (m : Memory) (address : ℕ) → 0xE0000 ≤ address → address + 1 ≤ 0x100000 → number_in (seen m) address 1 ≡ Some (at m address)
byte_told m address from within =
    ap (option_map le) (bytes_in-seen m address 1 (low_ram m.top address 1 from within)) ∙ ap (λ bytes. Some (le bytes)) (bytes_at-one m address)
    ∙ ap Some (omega arith)

-- the sum of bytes that are read
pub sum_told : (m : Memory) (address count : ℕ) → 0xE0000 ≤ address → address + count ≤ 0x100000
    → option_map byte_sum (bytes_in (seen m) address count) ≡ Some (byte_sum (bytes_at m address count))
sum_told m address count from within = ap (option_map byte_sum) (bytes_in-seen m address count (low_ram m.top address count from within))

-- what is tested of the bytes that are read is that they tell such a revision and such sums
pub record TestsPass (m : Memory) (form : Form) (address : ℕ) : Type 0 where
  pub revised : has_revision form (at m (address + 15)) ≡ true
  pub first : byte_sum (bytes_at m address 20) ≡ 0
  pub all : byte_sum (bytes_at m address (rsdp_size form)) ≡ 0

pub tests_say : (m : Memory) (form : Form) (address : ℕ) → 0xE0000 ≤ address → address + rsdp_size form ≤ 0x100000 → TestsPass m form address
    → HasRevisionAndSums form (seen m) address
tests_say m form address from within pass = record {
  revision = at m (address + 15);
  told = byte_told m (address + 15) (omega (arith, from)) (omega (arith, within, some_bytes form.extended));
  revised = pass.revised;
  first = sum_told m address 20 from (omega (arith, within, some_bytes form.extended)) ∙ ap Some pass.first;
  all = sum_told m address (rsdp_size form) from within ∙ ap Some pass.all;
}

pub tests_pass : (m : Memory) (form : Form) (address : ℕ) → 0xE0000 ≤ address → address + rsdp_size form ≤ 0x100000
    → HasRevisionAndSums form (seen m) address → TestsPass m form address
tests_pass m form address from within has =
    let byte = byte_told m (address + 15) (omega (arith, from)) (omega (arith, within, some_bytes form.extended)) in
    let told = has.told in
    let same : has.revision ≡ at m (address + 15) = cc in
    let first = sum_told m address 20 from (omega (arith, within, some_bytes form.extended)) in
    let all = sum_told m address (rsdp_size form) from within in
    let is_first = has.first in
    let is_all = has.all in
    record { revised = ap (has_revision form) (sym same) ∙ has.revised; first = cc; all = cc }
