-- Where nothing is told, nothing changes.
use Rattle.std.proofs.Common.{◌≡◌, ℕ, false, codes, is_some, Option, Some, None, refl, sym, ap, ap₂, ◌∙◌}
use Rattle.std.proofs.lemmas.Bool.{cond-false, cond_both, true≢false}
use Rattle.aml_terms.specs.declared.term.Path.{Path}
use Rattle.aml_terms.specs.Trees.{Tree, Trees, named, scope, device, no_trees, tree}
use Rattle.aml_terms.specs.OneSegment.{is_beside, is_system_bus}
use Rattle.aml_generation.specs.Generation.{address_of, zeros, taken_of_value, behind, or_behind, taken_of_names, is_address, taken_of_name, in_device}
use Rattle.aml_generation.specs.Generation.{taken_of_device, taken_of_devices, taken_of_bus, or_else, taken_inside, taken}

-- what has no value is none
pub none_from : (told : Option ℕ) → is_some told ≡ false → told ≡ None
none_from None failed = refl
none_from (Some address) failed = cc

-- nothing is told, and then what is left is as it was
abbrev pub Keeps : {A : Type 0} → Option ℕ × A → A → Type 0
Keeps told before = told.0 ≡ None → told.1 ≡ before

keeps_value : (value : Tree) → Keeps (taken_of_value value) value
keeps_value value none = cond-false (is_some (address_of value)) zeros value (ap is_some none)

keeps_behind : (t : Tree) (ts : Trees) (one : Option ℕ × Tree) (others : Option ℕ × Trees) → Keeps one t → Keeps others ts
    → Keeps (or_behind one ts others) (tree t ts)
keeps_behind t ts one others first rest =
    cond_both (is_some one.0) (one.0, tree one.1 ts) (behind one.1 others) (λ (told : Option ℕ × Trees). Keeps told (tree t ts))
    (λ held none. absurd (true≢false (sym held ∙ ap is_some none)))
    (λ failed none. ap₂ tree (first (none_from one.0 failed)) (rest none))

keeps_either : (ts : Trees) (one other : Option ℕ × Trees) → Keeps one ts → Keeps other ts → Keeps (or_else one other) ts
keeps_either ts one other first second =
    cond_both (is_some one.0) one other (λ (told : Option ℕ × Trees). Keeps told ts) (λ _. first) (λ _. second)

keeps_name : (t : Tree) → Keeps (taken_of_name t) t
keeps_name (named path value) = λ none. ap (named path) (keeps_value value none)
keeps_name other = λ none. refl

keeps_names : (ts : Trees) → Keeps (taken_of_names ts) ts
keeps_names no_trees = λ none. refl
keeps_names (tree t ts) =
    cond_both (is_address t) ((taken_of_name t).0, tree (taken_of_name t).1 ts) (behind t (taken_of_names ts))
    (λ (told : Option ℕ × Trees). Keeps told (tree t ts))
    (λ held none. ap (λ (left : Tree). tree left ts) (keeps_name t none)) (λ failed none. ap (tree t) (keeps_names ts none))

pub keeps_device : (t : Tree) → Keeps (taken_of_device t) t
keeps_device (device path ts) =
    cond_both (is_beside (codes "VGEN") path) (taken_of_names ts) (None, ts)
    (λ (told : Option ℕ × Trees). Keeps (in_device path told) (device path ts))
    (λ held none. ap (device path) (keeps_names ts none)) (λ failed none. refl)
keeps_device other = λ none. refl

pub keeps_devices : (ts : Trees) → Keeps (taken_of_devices ts) ts
keeps_devices no_trees = λ none. refl
keeps_devices (tree t ts) = keeps_behind t ts (taken_of_device t) (taken_of_devices ts) (keeps_device t) (keeps_devices ts)

pub keeps_bus : (path : Path) (ts : Trees) → Keeps (taken_of_bus path ts) ts
keeps_bus path ts =
    cond_both (is_system_bus path) (taken_of_devices ts) (None, ts) (λ (told : Option ℕ × Trees). Keeps told ts) (λ _. keeps_devices ts) (λ _ _. refl)

mutual
  pub keeps_inside : (t : Tree) → Keeps (taken_inside t) t
  keeps_inside (scope path ts) none =
      ap (scope path) (keeps_either ts (taken_of_bus path ts) (taken ts) (keeps_bus path ts) (keeps ts) none)
  keeps_inside (device path ts) none = ap (device path) (keeps ts none)
  keeps_inside other none = refl

  pub keeps : (ts : Trees) → Keeps (taken ts) ts
  keeps no_trees = λ none. refl
  keeps (tree t ts) = keeps_behind t ts (taken_inside t) (taken ts) (keeps_inside t) (keeps ts)
