-- A table with a header that passes its tests stands at its address, and one that stands there passes them.
use Rattle.std.proofs.Common.{◌≡◌, ℕ, ◌≤◌, true, List, [], Some, arith, refl, ap, sym, subst}
use Rattle.std.specs.Option.{option_map, unwrap_or}
use Rattle.vt_bytes.specs.Numbers.{byte_sum}
use Rattle.vt_bytes.specs.View.{View, bytes_in}
use Rattle.vt_layout.specs.declared.row.Row.{Row}
use Rattle.acpi_records.specs.declared.header.Head.{Head}
use Rattle.acpi_records.specs.Header.{IsTable}
use Rattle.acpi_decode.specs.Seen.{is_ram, bytes_from, signature_at, total_at}
use Rattle.acpi_decode.specs.Tests.{Pass}
use Rattle.acpi_decode.specs.TableTests.{whole_tests}
use Rattle.acpi_decode.specs.Read.{head_in}
use Rattle.acpi_decode.proofs.InRam.{ram_bytes, front_ram}
use Rattle.acpi_decode.proofs.HeadRows.{header_shown}
use Rattle.acpi_decode.proofs.Wholes.{whole_summed, summed_whole}

pub headed_stands : (view : View) (address : ℕ) (signature : List ℕ) → signature_at view address ≡ signature → 36 ≤ total_at view address
    → Pass (whole_tests view address) → IsTable view address signature (head_in (bytes_from view address 36)) (total_at view address) []
headed_stands view address signature signed long whole =
    let there = ram_bytes view address 36 (front_ram view address (total_at view address) 36 whole.0 long) in
    record {
      long_enough = long;
      shown = header_shown view address (total_at view address) signature [] (bytes_from view address 36) tt there signed refl
          (whole_summed view address whole);
    }

-- what is tested of a table that stands
pub record IsTested (view : View) (address : ℕ) (signature : List ℕ) (total : ℕ) : Type 0 where
  pub header : is_ram view address 36 ≡ true
  pub signed : signature_at view address ≡ signature
  pub told : total_at view address ≡ total
  pub long : 36 ≤ total
  pub whole : Pass (whole_tests view address)

pub table_tested : (view : View) (address : ℕ) (signature : List ℕ) (head : Head) (total : ℕ) (body : List Row)
    → IsTable view address signature head total body → IsTested view address signature total
table_tested view address signature head total body is =
    let told : total_at view address ≡ total = ap (λ o. unwrap_or o 0) is.shown.1.0 in
    let sums : option_map byte_sum (bytes_in view address total) ≡ Some 0 = is.shown.1.1.1.0 in
    let whole = summed_whole view address (subst (λ n. option_map byte_sum (bytes_in view address n) ≡ Some 0) (sym told) sums) in
    let long : 36 ≤ total = omega (arith, is.long_enough) in
    record {
      header = front_ram view address (total_at view address) 36 whole.0 (subst (λ n. 36 ≤ n) (sym told) long);
      signed = ap (λ o. unwrap_or o []) is.shown.0;
      told = told;
      long = long;
      whole = whole;
    }
