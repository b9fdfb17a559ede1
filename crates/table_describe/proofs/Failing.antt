-- Which item of an inventory fails first, by its candidate.
use Rattle.std.proofs.Common.{◌≡◌, ℕ, ◌+◌, ◌⊎◌, List, [], ◌∷◌, Option, Some, None, MatchOption, inl, inr, refl, sym, ap, subst, ◌∙◌}
use Rattle.machine_desc.specs.declared.machine.Machine.{Machine}
use Rattle.machine_desc.specs.declared.machine.Broken.{Broken}
use Rattle.machine_desc.specs.Rules.{IsAccepted, broken_rule}
use Rattle.machine_desc.specs.Fields.{HasFittingFields}
use Rattle.table_model.specs.declared.inventory.Inventory.{Inventory}
use Rattle.table_model.specs.Inventory.{inventory_of}
use Rattle.inventory_items.specs.Items.{items, AgreeInAll, IsFirstDifference}
use Rattle.table_describe.specs.Candidate.{candidate}
use Rattle.table_describe.specs.Failing.{IsFirstFailing}
use Rattle.table_describe.proofs.MachineBack.{machine_back}

-- item 0 of a candidate that breaks a rule
not_both : (found : Option Broken) (broken : Broken) → found ≡ Some broken → found ≡ None → ⊥
not_both found broken some none = absurd (cc)

pub unlawful_fails : (i : Inventory) (m : Machine) (broken : Broken) → m ≡ candidate i → broken_rule m ≡ Some broken → IsFirstFailing i 0
unlawful_fails i m broken is some = inl (refl, λ accepted. not_both (broken_rule m) broken some (subst IsAccepted (sym is) accepted))

-- of an accepted candidate what is found of the items
pub found_of_items : (i : Inventory) (m : Machine) (found : Option ℕ) → m ≡ candidate i → IsAccepted m
    → MatchOption found (i ≡ inventory_of m) (IsFirstDifference 1 items i (inventory_of m))
    → MatchOption found (IsAccepted m × (i ≡ inventory_of m)) (IsFirstFailing i)
found_of_items i m None is accepted same = (accepted, same)
found_of_items i m (Some item) is accepted differs =
    subst (λ (those : Machine). IsAccepted those × IsFirstDifference 1 items i (inventory_of those) item → IsFirstFailing i item) (sym is) inr
    (accepted, differs)

-- in nothing of which two inventories agree do they differ
none_differs : (number : ℕ) (those : List (Inventory → Inventory → Type 0)) (a b : Inventory) (item : ℕ) → AgreeInAll those a b
    → IsFirstDifference number those a b item → ⊥
none_differs number [] a b item agree differs = differs
none_differs number (Agree ∷ more) a b item agree (inl first) = first.1 agree.0
none_differs number (Agree ∷ more) a b item agree (inr later) = none_differs (number + 1) more a b item agree.1 later.1

agree_in_all : (a b : Inventory) → a ≡ b → AgreeInAll items a b
agree_in_all a b same = subst (AgreeInAll items a) same (refl, (refl, (refl, (refl, (refl, (refl, (refl, (refl, (refl, (refl, (refl, tt)))))))))))

-- no item of the inventory of an accepted machine fails
pub none_fails : (i : Inventory) (m : Machine) (item : ℕ) → IsAccepted m → HasFittingFields m → inventory_of m ≡ i → IsFirstFailing i item → ⊥
none_fails i m item accepted fits is failing =
    let its : candidate i ≡ m = ap candidate (sym is) ∙ machine_back m accepted fits in
    fails (subst (λ (those : Machine). ((item ≡ 0) × (IsAccepted those → ⊥)) ⊎
    (IsAccepted those × IsFirstDifference 1 items i (inventory_of those) item)) its failing)
  where
    fails : ((item ≡ 0) × (IsAccepted m → ⊥)) ⊎ (IsAccepted m × IsFirstDifference 1 items i (inventory_of m) item) → ⊥
    fails (inl unlawful) = unlawful.1 accepted
    fails (inr differs) = none_differs 1 items i (inventory_of m) item (agree_in_all i (inventory_of m) (sym is)) differs.1

-- and the machine is the candidate of its inventory
pub its_candidate : (i : Inventory) (m : Machine) → IsAccepted m → HasFittingFields m → inventory_of m ≡ i → candidate i ≡ m
its_candidate i m accepted fits is = ap candidate (sym is) ∙ machine_back m accepted fits

-- at most one item is the first in which two inventories differ
one_difference : (number : ℕ) (those : List (Inventory → Inventory → Type 0)) (a b : Inventory) (item other : ℕ) → IsFirstDifference number those a b item
    → IsFirstDifference number those a b other → item ≡ other
one_difference number [] a b item other is also = absurd is
one_difference number (Agree ∷ more) a b item other (inl first) (inl first_too) = first.0 ∙ sym first_too.0
one_difference number (Agree ∷ more) a b item other (inl first) (inr later) = absurd (first.1 later.0)
one_difference number (Agree ∷ more) a b item other (inr later) (inl first) = absurd (first.1 later.0)
one_difference number (Agree ∷ more) a b item other (inr later) (inr later_too) = one_difference (number + 1) more a b item other later.1 later_too.1

-- and at most one is the first that fails
pub one_fails_first : (i : Inventory) (item other : ℕ) → IsFirstFailing i item → IsFirstFailing i other → item ≡ other
one_fails_first i item other (inl first) (inl first_too) = first.0 ∙ sym first_too.0
one_fails_first i item other (inl first) (inr later) = absurd (first.1 later.0)
one_fails_first i item other (inr later) (inl first) = absurd (first.1 later.0)
one_fails_first i item other (inr later) (inr later_too) = one_difference 1 items i (inventory_of (candidate i)) item other later.1 later_too.1
