-- A machine that breaks no rule keeps the rule of each number.
use Rattle.std.proofs.Common.{◌≡◌, ℕ, Bool, true, false, List, [], ◌∷◌, ◌++◌, Option, Some, None, ◌==◌, if◌then◌else◌, refl}
use Rattle.std.specs.Option.{option_map_or}
use Rattle.machine_desc.specs.declared.machine.Broken.{Broken}
use Rattle.machine_desc.specs.Rules.{first_broken, breach_in}

-- where no rule is broken, the first one isn't, and none of the others is
first_is_kept : (rule : ℕ) (breach : Option ℕ) (others : Option Broken)
    → option_map_or (λ index. Some (record { rule = rule; index = index })) breach others ≡ None → (breach ≡ None) × (others ≡ None)
first_is_kept rule None others none = (refl, none)
first_is_kept rule (Some index) others none = absurd (cc)

either_way : (test : Bool) (a b : Option ℕ) → a ≡ None → b ≡ None → (if test then a else b) ≡ None
either_way true a b first second = first
either_way false a b first second = second

pub each_is_kept : (number : ℕ) (rules : List (ℕ × Option ℕ)) → first_broken rules ≡ None → breach_in number rules ≡ None
each_is_kept number [] none = refl
each_is_kept number (rule ∷ rules) none =
    let kept = first_is_kept rule.0 rule.1 (first_broken rules) none in
    either_way (rule.0 == number) rule.1 (breach_in number rules) kept.0 (each_is_kept number rules kept.1)

-- the first broken rule of two lists is that of the first list, or where it has none that of the second

abbrev broken_then : ℕ → Option ℕ → Option Broken → Option Broken
broken_then rule breach others = option_map_or (λ index. Some (record { rule = rule; index = index })) breach others

none_so_far : (rule : ℕ) (breach : Option ℕ) (others more behind : Option Broken) → (others ≡ None → more ≡ behind)
    → broken_then rule breach others ≡ None → broken_then rule breach more ≡ behind
none_so_far rule None others more behind next none = next none
none_so_far rule (Some index) others more behind next none = absurd (cc)

pub later_broken : (first others : List (ℕ × Option ℕ)) → first_broken first ≡ None → first_broken (first ++ others) ≡ first_broken others
later_broken [] others none = refl
later_broken (rule ∷ rules) others none =
    none_so_far rule.0 rule.1 (first_broken rules) (first_broken (rules ++ others)) (first_broken others) (later_broken rules others) none

found_so_far : (rule : ℕ) (breach : Option ℕ) (others more : Option Broken) (broken : Broken) → (others ≡ Some broken → more ≡ Some broken)
    → broken_then rule breach others ≡ Some broken → broken_then rule breach more ≡ Some broken
found_so_far rule None others more broken next is = next is
found_so_far rule (Some index) others more broken next is = is

pub earlier_broken : (first others : List (ℕ × Option ℕ)) (broken : Broken) → first_broken first ≡ Some broken
    → first_broken (first ++ others) ≡ Some broken
earlier_broken [] others broken is = absurd (cc)
earlier_broken (rule ∷ rules) others broken is =
    found_so_far rule.0 rule.1 (first_broken rules) (first_broken (rules ++ others)) broken (earlier_broken rules others broken) is
