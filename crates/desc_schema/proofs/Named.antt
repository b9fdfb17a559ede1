-- The names of keys: the code finds the one that the number has, and where the numbers ascend each key is named by its own.
use Rattle.std.proofs.Common.{◌≡◌, ℕ, zero, suc, ◌+◌, ◌≤◌, nat_le, ◌==◌, true, List, [], ◌∷◌, Option, refl, ap, ◌∙◌, ⊎_elim, subst, arith}
use Rattle.std.specs.List.{find, Contains}
use Rattle.std.specs.Option.{option_map_or}
use Rattle.std.proofs.lemmas.Bool.{cases_Bool, and_parts, leb-true, eq-eqb, ne_eqb}
use Rattle.desc_schema.specs.declared.schema.Key.{Key}
use Rattle.desc_schema.specs.Form.{Field, fields_of, fields_at}
use Rattle.desc_schema.specs.Names.{name_of, numbers_ascend, NumbersAscend, NumbersAreNames}
use Rattle.desc_schema.proofs.EachTable.{at_each}

-- as the code finds the key

abbrev key_of : ℕ → List Key → Option Key
key_of n keys = find (λ (key : Key). key.number == n) keys

abbrev name_in : Option Key → List ℕ
name_in key = option_map_or (λ (key : Key). key.name.now) key []

name_of-key : (n : ℕ) (keys : List Key) → name_in (key_of n keys) ≡ name_of (fields_of keys) n
unfolding name_of
name_of-key n [] = refl
name_of-key n (key ∷ keys) = ⊎_elim (λ same. rw same refl) (λ other. rw other (name_of-key n keys)) (cases_Bool (key.number == n))

pub name_found : (n : ℕ) (keys : List Key) (found : Option Key) → found ≡ key_of n keys → name_in found ≡ name_of (fields_of keys) n
name_found n keys found is = ap name_in is ∙ name_of-key n keys

-- where the numbers ascend

at_least : (least : ℕ) (fields : List Field) (field : Field) → numbers_ascend least fields ≡ true → Contains fields field → least ≤ field.number
at_least least [] field ascend there = absurd (omega (arith, there.1))
at_least least (first ∷ fields) field ascend (zero, within, is) =
    let (here, others) = and_parts (nat_le least first.number) (numbers_ascend (first.number + 1) fields) ascend in
    subst (λ (f : Field). least ≤ f.number) is (leb-true least first.number here)
at_least least (first ∷ fields) field ascend (suc i, within, is) =
    let (here, others) = and_parts (nat_le least first.number) (numbers_ascend (first.number + 1) fields) ascend in
    let there = at_least (first.number + 1) fields field others (i, omega (arith, within), is) in
    omega (arith, there, leb-true least first.number here)

named : (least : ℕ) (fields : List Field) (field : Field) → numbers_ascend least fields ≡ true → Contains fields field
    → name_of fields field.number ≡ field.name
unfolding name_of
named least [] field ascend there = absurd (omega (arith, there.1))
named least (first ∷ fields) field ascend (zero, within, is) =
    subst (λ (f : Field). name_of (first ∷ fields) f.number ≡ f.name) is (rw (eq-eqb first.number first.number refl) refl)
named least (first ∷ fields) field ascend (suc i, within, is) =
    let (here, others) = and_parts (nat_le least first.number) (numbers_ascend (first.number + 1) fields) ascend in
    let there : Contains fields field = (i, omega (arith, within), is) in
    let above = at_least (first.number + 1) fields field others there in
    rw (ne_eqb first.number field.number (λ same. omega (arith, above, same))) (named (first.number + 1) fields field others there)

pub named_by_numbers : (schema : List (List Field)) → NumbersAscend schema → NumbersAreNames schema
named_by_numbers schema ascend table field there =
    named 0 (fields_at schema table) field (at_each (numbers_ascend 0) refl schema table ascend) there
