-- An FADT leads to one FACS and to one DSDT.
use Rattle.std.proofs.Common.{◌≡◌, ℕ, List, Option, Some, None, refl, ap, sym, subst, ◌∙◌}
use Rattle.vt_bytes.specs.View.{View}
use Rattle.aml_terms.specs.Trees.{views}
use Rattle.aml_generation.specs.Generation.{taken}
use Rattle.vt_bytes.proofs.AtMostOne.{IsOne, one_or_none}
use Rattle.acpi_records.specs.declared.facs.Facs.{Facs}
use Rattle.acpi_records.specs.Facs.{IsFacs}
use Rattle.acpi_records.proofs.FacsStands.{one_facs}
use Rattle.acpi_model.specs.declared.link.FadtLinks.{FadtLinks}
use Rattle.acpi_model.specs.declared.dsdt.Dsdt.{Dsdt}
use Rattle.acpi_model.specs.declared.dsdt.Dsdt.TheVariants.{Terms, Foreign}
use Rattle.acpi_model.specs.declared.acpi.FadtTargets.{FadtTargets}
use Rattle.acpi_model.specs.Links.{IsFound}
use Rattle.acpi_model.specs.Found.{IsIdAt, IsKept, IsKeptAt, LeadsToDsdt, facs_address, dsdt_address, LeadTo}
use Rattle.acpi_model.proofs.Dsdts.{same_terms, one_dsdt}

-- an address leads to one thing
one_found : {T : Type 0} (Stands : ℕ → T → Type 0) → ((address : ℕ) → IsOne (Stands address)) → (address : ℕ) → IsOne (IsFound Stands address)
one_found Stands one address =
    one_or_none (address ≡ 0) (λ what. (address ≡ 0 → ⊥) × Stands address what) (λ a b is also. one address a b is.1 also.1)
    (λ what is nowhere. is.0 nowhere)

-- one DSDT stands where one is kept, so that one is kept, and leads to one id or none
one_id : (view : View) (address : Option ℕ) → IsOne (IsIdAt view address)
one_id view None a b is also = is ∙ sym also
one_id view (Some address) a b is also = is.2 ∙ sym is.1 ∙ also.1 ∙ sym also.2

-- a DSDT, and the id to which it leads
record AreSame (d e : Dsdt) (a b : Option (List ℕ)) : Type 0 where
  dsdts : d ≡ e
  ids : a ≡ b

one_kept : (view : View) (written d e : Dsdt) (a b : Option (List ℕ)) → IsKept view written d a → IsKept view written e b → AreSame d e a b
one_kept view (Terms head terms) d e a b (kept, is, seen, id) (others, also, also_seen, other) = record {
  dsdts = is ∙ ap (Terms head) (same_terms kept others (seen ∙ sym also_seen)) ∙ sym also;
  ids = one_id view (taken (views terms)).0 a b id other;
}
one_kept view (Foreign head length) d e a b is also = record { dsdts = is.0 ∙ sym also.0; ids = is.1 ∙ sym also.1 }

one_kept_at : (view : View) (address : ℕ) (d e : Dsdt) (a b : Option (List ℕ)) → IsKeptAt view address d a → IsKeptAt view address e b → AreSame d e a b
one_kept_at view address d e a b is also =
    one_kept view also.written d e a b
    (subst (λ (written : Dsdt). IsKept view written d a) (one_dsdt view address is.written also.written is.stands also.stands) is.kept) also.kept

record AreSameTargets (d e : Option Dsdt) (a b : Option (List ℕ)) : Type 0 where
  dsdts : d ≡ e
  ids : a ≡ b

one_led_to : (view : View) (address : ℕ) (d e : Option Dsdt) (a b : Option (List ℕ)) → LeadsToDsdt view address d a → LeadsToDsdt view address e b
    → AreSameTargets d e a b
one_led_to view address None None a b is also = record { dsdts = refl; ids = is.1 ∙ sym also.1 }
one_led_to view address None (Some e) a b is also = absurd (also.0 is.0)
one_led_to view address (Some d) None a b is also = absurd (is.0 also.0)
one_led_to view address (Some d) (Some e) a b is also =
    let same = one_kept_at view address d e a b is.1 also.1 in
    record { dsdts = ap Some same.dsdts; ids = same.ids }

targets_from : Option Facs → Option Dsdt → Option (List ℕ) → FadtTargets
targets_from facs dsdt generation = record { facs = facs; dsdt = dsdt; generation = generation }

same_targets : (a b : FadtTargets) → a.facs ≡ b.facs → a.dsdt ≡ b.dsdt → a.generation ≡ b.generation → a ≡ b
unfolding targets_from
same_targets a b facs dsdt generation =
    ap (λ f. targets_from f a.dsdt a.generation) facs ∙ ap (λ d. targets_from b.facs d a.generation) dsdt ∙ ap (targets_from b.facs b.dsdt) generation

pub one_target : (view : View) (links : Option FadtLinks) → IsOne (LeadTo view links)
one_target view None a b is also = same_targets a b (is.0 ∙ sym also.0) (is.1 ∙ sym also.1) (is.2 ∙ sym also.2)
one_target view (Some links) a b is also =
    let same = one_led_to view (dsdt_address links) a.dsdt b.dsdt a.generation b.generation is.1 also.1 in
    same_targets a b (one_found (IsFacs view) (one_facs view) (facs_address links) a.facs b.facs is.0 also.0) same.dsdts same.ids
