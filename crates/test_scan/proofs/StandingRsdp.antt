-- RSDPs in a view, by their bytes.
use Rattle.std.proofs.Common.{◌≡◌, ℕ, ◌+◌, ◌%◌, ◌≤◌, List, take, codes, Some, arith, ap, ◌∙◌}
use Rattle.std.specs.Option.{option_map}
use Rattle.std.proofs.lemmas.Bool.{le-leb}
use Rattle.vt_bytes.specs.Numbers.{le, byte_sum}
use Rattle.vt_bytes.specs.Parts.{part}
use Rattle.vt_bytes.specs.View.{View, bytes_in, number_in}
use Rattle.vt_bytes.proofs.Views.{bytes_in-part, bytes_in-split}
use Rattle.acpi_model.specs.Rsdp.{HasRsdp}
use Rattle.test_scan.specs.RsdpBytes.{HasRevisionAndSums}

-- a number of so many bytes at a place of those that are shown
number_at : (view : View) (address there place width : ℕ) (bytes : List ℕ) → bytes_in view address 36 ≡ Some bytes → there ≡ address + place
    → place + width ≤ 36 → number_in view there width ≡ Some (le (part bytes place width))
number_at view address there place width bytes shown at within =
    ap (λ a. number_in view a width) at ∙ ap (option_map le) (bytes_in-part view address 36 bytes place width shown within)

-- An RSDP stands where its signature, its revision and its sums are shown.
pub rsdp_stands : (view : View) (address : ℕ) (bytes : List ℕ) → 0xE0000 ≤ address → address % 16 ≡ 0 → address + 36 ≤ 0x100000
    → bytes_in view address 36 ≡ Some bytes → take 8 bytes ≡ codes "RSD PTR " → HasRevisionAndSums bytes → HasRsdp view address
rsdp_stands view address bytes from aligned within shown signed has =
    let signature = (bytes_in-split view address 8 28 bytes shown).first ∙ ap Some signed in
    let first = ap (option_map byte_sum) (bytes_in-split view address 20 16 bytes shown).first ∙ ap Some has.first in
    let behind : address + 8 + 1 ≡ address + 9 = omega arith in
    let maker = ap (λ a. bytes_in view a 6) behind ∙ bytes_in-part view address 36 bytes 9 6 shown (omega arith) in
    let revision = number_at view address (address + 8 + 1 + 6) 15 1 bytes shown (omega arith) (omega arith) in
    let xsdt = number_at view address (address + 8 + 1 + 6 + 1 + 4 + 4) 24 8 bytes shown (omega arith) (omega arith) in
    let all = ap (option_map byte_sum) shown ∙ ap Some has.all in (
      part bytes 9 6,
      le (part bytes 24 8),
      record {
        from = from;
        aligned = aligned;
        within = within;
        revision = le (part bytes 15 1);
        revised = le-leb 2 (le (part bytes 15 1)) has.revision;
        shown = (signature, (first, (maker, (revision, (tt, (tt, (xsdt, (all, (tt, tt)))))))));
      },
    )
