-- A FACS stands where it passes its tests, and nowhere else.
use Rattle.std.proofs.Common.{◌≡◌, ℕ, ◌+◌, ◌==◌, true, is_some, [], codes, Option, Some, IsSome, arith, refl, ap, sym, subst, ◌∙◌, eqb-true}
use Rattle.std.specs.Option.{unwrap_or}
use Rattle.std.proofs.lemmas.Slice.Eq.{bytes_eq-Decides}
use Rattle.vt_bytes.specs.View.{View, bytes_in, number_in}
use Rattle.vt_layout.specs.Fields.{field_rows}
use Rattle.vt_layout.proofs.InView.{bytes_as_rows}
use Rattle.acpi_records.specs.declared.facs.Facs.{Facs}
use Rattle.acpi_records.specs.Facs.{IsFacs, facs_fields, facs_made}
use Rattle.acpi_decode.specs.Seen.{bytes_from, signature_at, total_at}
use Rattle.acpi_decode.specs.Tests.{Pass}
use Rattle.acpi_decode.specs.TableTests.{facs_tests}
use Rattle.acpi_decode.specs.Blank.{readable_rows}
use Rattle.acpi_decode.specs.Read.{facs_in}
use Rattle.acpi_decode.proofs.InRam.{ram_bytes, byte_there, each_ram}

pub facs_stands : (view : View) (address : ℕ) → Pass (facs_tests view address) → IsFacs view address (facs_in (bytes_from view address 64))
facs_stands view address pass =
    let shape = field_rows (facs_fields (facs_made [])) in
    let rows =
    bytes_as_rows view address address 64 shape (bytes_from view address 64) (readable_rows shape refl) (omega arith) (ram_bytes view address 64 pass.0) in
    let signature : signature_at view address ≡ codes "FACS" = (bytes_eq-Decides (signature_at view address) (codes "FACS")).0 pass.1.0 in
    let first : bytes_in view address 4 ≡ Some (codes "FACS") = rows.0 ∙ ap Some (sym (ap (λ o. unwrap_or o []) rows.0) ∙ signature) in
    let second : number_in view (address + 4) 4 ≡ Some 64 =
    rows.1.0 ∙ ap Some (sym (ap (λ o. unwrap_or o 0) rows.1.0) ∙ eqb-true (total_at view address) 64 pass.1.1.0) in
    record {
      there = λ offset below. subst IsSome (sym (byte_there view address 64 offset pass.0 below)) refl;
      shown = (first, (second, rows.1.1));
    }

some_byte : (byte : Option ℕ) → IsSome byte → is_some byte ≡ true
some_byte byte is = is

pub facs_passes : (view : View) (address : ℕ) (f : Facs) → IsFacs view address f → Pass (facs_tests view address)
facs_passes view address f is = (
  each_ram view address 64 (λ i below. some_byte (view (address + i)) (is.there i below)),
  (
    (bytes_eq-Decides (signature_at view address) (codes "FACS")).1 (ap (λ o. unwrap_or o []) is.shown.0),
    (ap (λ o. unwrap_or o 0 == 64) is.shown.1.0, tt),
  ),
)
