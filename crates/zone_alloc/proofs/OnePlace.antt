-- A policy chooses one place at most.
use Rattle.std.proofs.Common.{◌≡◌, ℕ, inl, inr, List, Option, Some, None, refl, ap, arith}
use Rattle.vt_outside.specs.Placement.{Range, IsFree}
use Rattle.zone_alloc.specs.declared.policy.Policy.{Policy}
use Rattle.zone_alloc.specs.declared.policy.Policy.TheVariants.{Low, Top, Scatter}
use Rattle.zone_alloc.specs.Policies.{IsFirstFrom, IsChosen, IsShelfPlace}

first_is_free : (goal : ℕ) (zone : Range) (handed : List Range) (size align place : ℕ) → IsFirstFrom goal zone handed size align place
    → IsFree zone handed size align place
first_is_free goal zone handed size align place (inl first) = first.free
first_is_free goal zone handed size align place (inr (none, least)) = least.free

pub chosen_is_free : (policy : Policy) (zone : Range) (handed : List Range) (size align place : ℕ) → IsChosen policy zone handed size align place
    → IsFree zone handed size align place
chosen_is_free Low zone handed size align place chosen = chosen.free
chosen_is_free Top zone handed size align place chosen = chosen.free
chosen_is_free (Scatter seed) zone handed size align place chosen = first_is_free _ zone handed size align place chosen

one_first : (goal : ℕ) (zone : Range) (handed : List Range) (size align a b : ℕ) → IsFirstFrom goal zone handed size align a
    → IsFirstFrom goal zone handed size align b → a ≡ b
one_first goal zone handed size align a b (inl first) (inl second) =
    omega (arith, first.least b second.free second.above, second.least a first.free first.above)
one_first goal zone handed size align a b (inl first) (inr (none, second)) = absurd (omega (arith, none a first.free, first.above))
one_first goal zone handed size align a b (inr (none, first)) (inl second) = absurd (omega (arith, none b second.free, second.above))
one_first goal zone handed size align a b (inr (none, first)) (inr (same, second)) = omega (arith, first.least b second.free, second.least a first.free)

one_chosen : (policy : Policy) (zone : Range) (handed : List Range) (size align a b : ℕ) → IsChosen policy zone handed size align a
    → IsChosen policy zone handed size align b → a ≡ b
one_chosen Low zone handed size align a b first second = omega (arith, first.least b second.free, second.least a first.free)
one_chosen Top zone handed size align a b first second = omega (arith, first.greatest b second.free, second.greatest a first.free)
one_chosen (Scatter seed) zone handed size align a b first second = one_first _ zone handed size align a b first second

pub one_place : (policy : Policy) (zone : Range) (handed : List Range) (size align : ℕ) (a b : Option ℕ) → IsShelfPlace policy zone handed size align a
    → IsShelfPlace policy zone handed size align b → a ≡ b
one_place policy zone handed size align None None none same = refl
one_place policy zone handed size align None (Some b) none second = absurd (none b (chosen_is_free policy zone handed size align b second))
one_place policy zone handed size align (Some a) None first none = absurd (none a (chosen_is_free policy zone handed size align a first))
one_place policy zone handed size align (Some a) (Some b) first second = ap Some (one_chosen policy zone handed size align a b first second)
