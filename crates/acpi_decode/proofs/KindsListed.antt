-- The kinds that are known, by their signatures.
use Rattle.std.proofs.Common.{◌≡◌, Bool, true, ℕ, List, [], ◌∷◌, map, Some, inl, inr, refl, ap, sym, ◌∙◌}
use Rattle.std.specs.List.{find}
use Rattle.std.specs.Str.{bytes_eq}
use Rattle.std.proofs.lemmas.Bool.{cases_Bool}
use Rattle.std.proofs.lemmas.Slice.Eq.{bytes_eq-Decides}
use Rattle.acpi_model.specs.declared.form.Form.{Form}
use Rattle.acpi_model.specs.Kinds.{Kind}
use Rattle.acpi_model.specs.Acpi.{kind_by as kind_for}
use Rattle.acpi_decode.specs.declared.kind.KnownKind.{KnownKind}
use Rattle.acpi_decode.specs.declared.kind.KnownKind.TheVariants.{Fadt, Madt, Srat, Slit, Mcfg, Hpet}
use Rattle.acpi_decode.specs.KnownKinds.{kind_of, known_kinds}

found_among : {A B : Type 0} (f : A → B) (test : B → Bool) (items : List A) (found : B) → find test (map f items) ≡ Some found
    → (a : A) × (f a ≡ found) × (test found ≡ true)
found_among f test [] found is = absurd (cc is)
found_among f test (item ∷ items) found is =
    elim (cases_Bool (test (f item))) [
      | inl passes ↦
          let same : f item ≡ found = cc (passes, is) in
          (item, same, ap test (sym same) ∙ passes)
      | inr fails ↦ found_among f test items found (cc (fails, is))
    ]

-- the kind of a signature is one of them, and has it
pub known_as : (form : Form) (signature : List ℕ) (kind : Kind) → kind_for form signature ≡ Some kind
    → (k : KnownKind) × (kind_of form k ≡ kind) × (signature ≡ kind.signature)
known_as form signature kind is =
    let found = found_among (kind_of form) (λ (one : Kind). bytes_eq signature one.signature) known_kinds kind is in
    (found.0, found.1, (bytes_eq-Decides signature kind.signature).0 found.2)

pub is_known : (form : Form) (k : KnownKind) → kind_for form (kind_of form k).signature ≡ Some (kind_of form k)
is_known form Fadt = refl
is_known form Madt = refl
is_known form Srat = refl
is_known form Slit = refl
is_known form Mcfg = refl
is_known form Hpet = refl
