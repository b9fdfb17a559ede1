-- What pointers lead to passes its tests, and where it passes them, it is there.
use Rattle.std.proofs.Common.{◌≡◌, ℕ, ◌==◌, true, false, cond, List, [], Option, Some, None, inl, inr, refl, ap, sym, subst, ◌∙◌}
use Rattle.std.proofs.lemmas.Bool.{cases_Bool, eq-eqb, eqb-true, false≢true}
use Rattle.vt_bytes.specs.View.{View}
use Rattle.acpi_records.specs.Facs.{IsFacs}
use Rattle.acpi_model.specs.declared.dsdt.Dsdt.{Dsdt}
use Rattle.acpi_model.specs.declared.link.FadtLinks.{FadtLinks}
use Rattle.acpi_model.specs.declared.acpi.FadtTargets.{FadtTargets}
use Rattle.acpi_model.specs.Links.{IsFound}
use Rattle.acpi_model.specs.Found.{LeadsToDsdt, LeadTo, facs_address, dsdt_address}
use Rattle.acpi_decode.specs.Seen.{bytes_from}
use Rattle.acpi_decode.specs.Tests.{Test, Pass}
use Rattle.acpi_decode.specs.TableTests.{facs_tests}
use Rattle.acpi_decode.specs.IdTests.{read_dsdt_tests}
use Rattle.acpi_decode.specs.KindTests.{tests_at, target_tests}
use Rattle.acpi_decode.specs.Read.{facs_in}
use Rattle.acpi_decode.proofs.Facses.{facs_stands, facs_passes}
use Rattle.acpi_decode.proofs.ReadDsdts.{kept_stands, kept_at_passes}
use Rattle.acpi_decode.proofs.Firsts.{pass_both, pass_front, pass_back}

-- an address of 0 leads nowhere
found_nowhere : {T : Type 0} (Stands : ℕ → T → Type 0) (address : ℕ) → (address == 0) ≡ true → IsFound Stands address None
found_nowhere Stands address is = eqb-true address 0 is

-- any other to what stands there
found_there : {T : Type 0} (Stands : ℕ → T → Type 0) (address : ℕ) (what : T) → (address == 0) ≡ false → Stands address what
    → IsFound Stands address (Some what)
found_there Stands address what is stands = (λ none. false≢true (sym is ∙ eq-eqb address 0 none), stands)

-- the tests that are due there
pub tests_due : (tests : ℕ → List Test) (address : ℕ) → (address == 0) ≡ false → tests_at tests address ≡ tests address
tests_due tests address is = ap (λ none. cond none [] (tests address)) is

none_due : (tests : ℕ → List Test) (address : ℕ) → (address == 0) ≡ true → tests_at tests address ≡ []
none_due tests address is = ap (λ none. cond none [] (tests address)) is

-- where tests pass exactly where something stands, so it is with what an address leads to
passing_found : {T : Type 0} (Stands : ℕ → T → Type 0) (tests : ℕ → List Test)
    → ((address : ℕ) → Pass (tests address) → (what : T) × Stands address what)
    → (address : ℕ) → Pass (tests_at tests address) → (found : Option T) × IsFound Stands address found
passing_found Stands tests stands address pass =
    elim (cases_Bool (address == 0)) [
      | inl none ↦ (None, found_nowhere Stands address none)
      | inr some ↦
          let there = stands address (subst Pass (tests_due tests address some) pass) in
          (Some there.0, found_there Stands address there.0 some there.1)
    ]

found_passing : {T : Type 0} (Stands : ℕ → T → Type 0) (tests : ℕ → List Test) → ((address : ℕ) (what : T) → Stands address what → Pass (tests address))
    → (address : ℕ) (found : Option T) → IsFound Stands address found → Pass (tests_at tests address)
found_passing Stands tests passes address None is = subst Pass (sym (none_due tests address (eq-eqb address 0 is))) tt
found_passing Stands tests passes address (Some what) is =
    elim (cases_Bool (address == 0)) [
      | inl none ↦ absurd (is.0 (eqb-true address 0 none))
      | inr some ↦ subst Pass (sym (tests_due tests address some)) (passes address what is.1)
    ]

-- and with a DSDT and the id to which it leads
passing_led : (view : View) (address : ℕ) → Pass (tests_at (read_dsdt_tests view) address)
    → (dsdt : Option Dsdt) × (id : Option (List ℕ)) × LeadsToDsdt view address dsdt id
passing_led view address pass =
    elim (cases_Bool (address == 0)) [
      | inl none ↦ (None, None, (eqb-true address 0 none, refl))
      | inr some ↦
          let there = kept_stands view address (subst Pass (tests_due (read_dsdt_tests view) address some) pass) in
          (Some there.0, there.1, (λ none. false≢true (sym some ∙ eq-eqb address 0 none), there.2))
    ]

led_passing : (view : View) (address : ℕ) (dsdt : Option Dsdt) (id : Option (List ℕ)) → LeadsToDsdt view address dsdt id
    → Pass (tests_at (read_dsdt_tests view) address)
led_passing view address None id is = subst Pass (sym (none_due (read_dsdt_tests view) address (eq-eqb address 0 is.0))) tt
led_passing view address (Some dsdt) id is =
    elim (cases_Bool (address == 0)) [
      | inl none ↦ absurd (is.0 (eqb-true address 0 none))
      | inr some ↦ subst Pass (sym (tests_due (read_dsdt_tests view) address some)) (kept_at_passes view address dsdt id is.1)
    ]

pub targets_pass : (view : View) (links : FadtLinks) (targets : FadtTargets) → LeadTo view (Some links) targets → Pass (target_tests view links)
targets_pass view links targets is =
    pass_both (tests_at (facs_tests view) (facs_address links)) (tests_at (read_dsdt_tests view) (dsdt_address links))
    (found_passing (IsFacs view) (facs_tests view) (facs_passes view) (facs_address links) targets.facs is.0)
    (led_passing view (dsdt_address links) targets.dsdt targets.generation is.1)

pub targets_found : (view : View) (links : FadtLinks) → Pass (target_tests view links) → (targets : FadtTargets) × LeadTo view (Some links) targets
targets_found view links pass =
    let facs = passing_found (IsFacs view) (facs_tests view)
    (λ address due. (facs_in (bytes_from view address 64), facs_stands view address due)) (facs_address links)
    (pass_front (tests_at (facs_tests view) (facs_address links)) (tests_at (read_dsdt_tests view) (dsdt_address links)) pass) in
    let led = passing_led view (dsdt_address links)
    (pass_back (tests_at (facs_tests view) (facs_address links)) (tests_at (read_dsdt_tests view) (dsdt_address links)) pass) in
    (record { facs = facs.0; dsdt = led.0; generation = led.1 }, (facs.1, led.2))
