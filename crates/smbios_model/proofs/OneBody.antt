-- A type, an area and strings say one thing.
use Rattle.std.proofs.Common.{◌≡◌, ℕ, List, [], ◌∷◌, length, Option, Some, None, refl, ap, sym, ◌∙◌, subst}
use Rattle.vt_bytes.specs.View.{view_of}
use Rattle.vt_bytes.proofs.AtMostOne.{IsOne, one_value}
use Rattle.vt_layout.specs.declared.row.Row.{Row}
use Rattle.vt_layout.proofs.Same.{same_rows}
use Rattle.smbios_model.specs.declared.smbios.Body.TheVariants.{Raw}
use Rattle.vt_layout.specs.Strings.{AreNamed}
use Rattle.smbios_model.specs.StructureKinds.{StructureKind}
use Rattle.smbios_model.specs.Structures.{kind_for, IsTyped, IsBodyOf, IsBody}

-- numbers name one list of texts
one_named : (strings : List (List ℕ)) (numbers : List ℕ) → IsOne (AreNamed strings numbers)
one_named strings [] [] [] is also = refl
one_named strings [] [] (u ∷ us) is also = absurd also
one_named strings [] (t ∷ ts) us is also = absurd is
one_named strings (number ∷ numbers) [] us is also = absurd is
one_named strings (number ∷ numbers) (t ∷ ts) [] is also = absurd also
one_named strings (number ∷ numbers) (t ∷ ts) (u ∷ us) is also =
    let first : t ≡ u = cc (is.0, also.0) in
    let rest : ts ≡ us = one_named strings numbers ts us is.1 also.1 in
    cc

-- an area and strings say one thing of a kind: its rows are those of one shape, and name one list of texts
one_typed : (kind : StructureKind) (area : List ℕ) (strings : List (List ℕ)) → IsOne (IsTyped kind area strings)
one_typed kind area strings a b is also =
    let rows : is.rows ≡ also.rows =
    same_rows (view_of area) 0 0 is.rows also.rows is.stands.shown also.stands.shown (is.shaped ∙ sym also.shaped) in
    let named = subst (λ (r : List Row). AreNamed strings (kind.named r) is.texts) rows is.stands.named in
    let texts : is.texts ≡ also.texts = one_named strings (kind.named also.rows) is.texts also.texts named also.stands.named in
    is.says ∙ ap (λ (r : List Row). kind.body r is.texts) rows ∙ ap (kind.body also.rows) texts ∙ sym also.says

one_of : (kind : Option StructureKind) (number : ℕ) (area : List ℕ) (strings : List (List ℕ)) → IsOne (IsBodyOf kind number area strings)
one_of None number area strings = one_value (Raw number area strings)
one_of (Some kind) number area strings = one_typed kind area strings

pub one_body : (number : ℕ) (area : List ℕ) (strings : List (List ℕ)) → IsOne (IsBody number area strings)
one_body number area strings = one_of (kind_for number (length area)) number area strings
