-- What there is at most one of.
use Rattle.std.proofs.Common.{◌≡◌, ℕ, ◌<◌, Some, None, MatchOption, refl, ap, sym, ◌∙◌, ⊎_elim}
use Rattle.std.proofs.lemmas.Bool.{cases_order}

-- at most one value has the property
abbrev pub IsOne : {X : Type 0} → (X → Type 0) → Type 0
IsOne {X} P = (a b : X) → P a → P b → a ≡ b

-- a value by an equation
pub one_value : {X : Type 0} (x : X) → IsOne (λ a. a ≡ x)
one_value x a b is also = is ∙ sym also

-- a value with a property, or none where something holds that excludes each value
pub one_or_none : {X : Type 0} (Nothing : Type 0) (P : X → Type 0) → IsOne P → ((x : X) → P x → Nothing → ⊥)
    → IsOne (λ o. MatchOption o Nothing P)
one_or_none Nothing P one excluded None None is also = refl
one_or_none Nothing P one excluded None (Some b) is also = absurd (excluded b also is)
one_or_none Nothing P one excluded (Some a) None is also = absurd (excluded a is also)
one_or_none Nothing P one excluded (Some a) (Some b) is also = ap Some (one a b is also)

-- a least number with a property
pub one_least : (P : ℕ → Type 0) (a b : ℕ) → P a → P b → ((other : ℕ) → other < a → P other → ⊥)
    → ((other : ℕ) → other < b → P other → ⊥) → a ≡ b
one_least P a b is also least also_least =
    ⊎_elim (λ same. same)
    (λ differ. ⊎_elim (λ below. absurd (also_least a below is)) (λ above. absurd (least b above also)) differ) (cases_order a b)
