-- Terms without their address tell 0 there, and stay as they are.
use Rattle.std.proofs.Common.{◌≡◌, ℕ, Bool, true, false, cond, codes, is_some, Option, Some, None, refl, sym, ap, ap₂, subst, ◌∙◌}
use Rattle.std.proofs.lemmas.Bool.{cond-true, cond-false, cond_both}
use Rattle.std.proofs.lemmas.Option.{none-some}
use Rattle.std.specs.Option.{option_or}
use Rattle.aml_terms.specs.declared.term.Path.{Path}
use Rattle.aml_terms.specs.Trees.{Tree, Trees, named, scope, device, no_trees, tree}
use Rattle.aml_terms.specs.OneSegment.{is_beside, is_system_bus}
use Rattle.aml_generation.specs.Generation.{address_of, zeros, taken_of_value, behind, or_behind, taken_of_names, in_device}
use Rattle.aml_generation.specs.Generation.{in_scope, taken_of_device, taken_of_devices, taken_of_bus, or_else, taken_inside, taken}
use Rattle.aml_generation.specs.Candidates.{address_among}
use Rattle.aml_generation.proofs.Kept.{Keeps, none_from, keeps_device, keeps_inside}
use Rattle.aml_generation.proofs.Told.{told_behind, names_told}

-- where an address is told, what is left tells 0, and is left as it is
abbrev pub Leaves : {A : Type 0} → (A → Option ℕ × A) → Option ℕ × A → Type 0
Leaves {A} take told = (address : ℕ) → told.0 ≡ Some address → ◌≡◌ {A = Option ℕ × A} (take told.1) (Some 0, told.1)

leaves_behind : (one : Tree → Option ℕ × Tree) (all : Trees → Option ℕ × Trees)
    → ((t : Tree) (ts : Trees) → all (tree t ts) ≡ or_behind (one t) ts (all ts))
    → (t : Tree) (ts : Trees) → Keeps (one t) t → Leaves one (one t) → Leaves all (all ts) → Leaves all (or_behind (one t) ts (all ts))
leaves_behind one all each t ts kept first others =
    cond_both (is_some (one t).0) ((one t).0, tree (one t).1 ts) (behind (one t).1 (all ts)) (λ (told : Option ℕ × Trees). Leaves all told)
    (λ held address told. each (one t).1 ts ∙ ap (λ (left : Option ℕ × Tree). or_behind left ts (all ts)) (first address told))
    (λ failed address told.
    let none : (one t).0 ≡ None = none_from (one t).0 failed in
    let same : (one t).1 ≡ t = kept none in
    each (one t).1 (all ts).1
    ∙ ap (λ (left : Option ℕ × Tree). or_behind left (all ts).1 (all (all ts).1)) (ap one same ∙ ap₂ (λ (a : Option ℕ) (u : Tree). (a, u)) none refl)
    ∙ ap (behind (one t).1) (others address told))

leaves_names : (ts : Trees) → Leaves taken_of_names (taken_of_names ts)
leaves_names no_trees = λ address told. absurd (none-some address told)
leaves_names (tree (named path value) ts) =
    cond_both (is_beside (codes "ADDR") path) ((taken_of_value value).0, tree (named path (taken_of_value value).1) ts)
    (behind (named path value) (taken_of_names ts)) (λ (told : Option ℕ × Trees). Leaves taken_of_names told)
    (λ held address told.
    let left : (taken_of_value value).1 ≡ zeros = cond-true (is_some (address_of value)) zeros value (ap is_some told) in
    subst (λ (v : Tree). ◌≡◌ {A = Option ℕ × Trees} (taken_of_names (tree (named path v) ts)) (Some 0, tree (named path v) ts)) (sym left)
    (cond-true (is_beside (codes "ADDR") path) (Some 0, tree (named path zeros) ts) (behind (named path zeros) (taken_of_names ts)) held))
    (λ failed address told.
    let rest : Trees = (taken_of_names ts).1 in
    cond-false (is_beside (codes "ADDR") path) ((taken_of_value value).0, tree (named path (taken_of_value value).1) rest)
    (behind (named path value) (taken_of_names rest)) failed
    ∙ ap (behind (named path value)) (leaves_names ts address told))
leaves_names (tree other ts) = λ address told. ap (behind other) (leaves_names ts address told)

leaves_device : (t : Tree) → Leaves taken_of_device (taken_of_device t)
leaves_device (device path ts) =
    cond_both (is_beside (codes "VGEN") path) (taken_of_names ts) (None, ts)
    (λ (told : Option ℕ × Trees). Leaves taken_of_device (in_device path told))
    (λ held address told.
    let rest : Trees = (taken_of_names ts).1 in
    ap (in_device path) (cond-true (is_beside (codes "VGEN") path) (taken_of_names rest) (None, rest) held ∙ leaves_names ts address told))
    (λ failed address told. absurd (none-some address told))
leaves_device other = λ address told. absurd (none-some address told)

leaves_devices : (ts : Trees) → Leaves taken_of_devices (taken_of_devices ts)
leaves_devices no_trees = λ address told. absurd (none-some address told)
leaves_devices (tree t ts) =
    leaves_behind taken_of_device taken_of_devices (λ u us. refl) t ts (keeps_device t) (leaves_device t) (leaves_devices ts)

leaves_bus : (path : Path) (ts : Trees) → Leaves (taken_of_bus path) (taken_of_bus path ts)
leaves_bus path ts =
    cond_both (is_system_bus path) (taken_of_devices ts) (None, ts) (λ (told : Option ℕ × Trees). Leaves (taken_of_bus path) told)
    (λ held address told.
    let rest : Trees = (taken_of_devices ts).1 in
    cond-true (is_system_bus path) (taken_of_devices rest) (None, rest) held ∙ leaves_devices ts address told)
    (λ failed address told. absurd (none-some address told))

-- what is taken further inside changes no name that is directly there, and so not what the devices there tell
names_stay : (ts : Trees) → address_among (taken ts).1 ≡ address_among ts
names_stay no_trees = refl
names_stay (tree (scope path inner) ts) =
    cond_both (is_some (taken_inside (scope path inner)).0) ((taken_inside (scope path inner)).0, tree (taken_inside (scope path inner)).1 ts)
    (behind (taken_inside (scope path inner)).1 (taken ts)) (λ (told : Option ℕ × Trees). address_among told.1 ≡ address_among ts)
    (λ _. refl) (λ _. names_stay ts)
names_stay (tree (device path inner) ts) =
    cond_both (is_some (taken_inside (device path inner)).0) ((taken_inside (device path inner)).0, tree (taken_inside (device path inner)).1 ts)
    (behind (taken_inside (device path inner)).1 (taken ts)) (λ (told : Option ℕ × Trees). address_among told.1 ≡ address_among ts)
    (λ _. refl) (λ _. names_stay ts)
names_stay (tree (named path value) ts) = ap (cond (is_beside (codes "ADDR") path) (address_of value)) (names_stay ts)
names_stay (tree other ts) = names_stay ts

same_device : (b : Bool) (ts : Trees) → (cond b (taken_of_names (taken ts).1) (None, (taken ts).1)).0 ≡ (cond b (taken_of_names ts) (None, ts)).0
same_device true ts = names_told (taken ts).1 ∙ names_stay ts ∙ sym (names_told ts)
same_device false ts = refl

device_stays : (t : Tree) → (taken_of_device (taken_inside t).1).0 ≡ (taken_of_device t).0
device_stays (device path ts) = same_device (is_beside (codes "VGEN") path) ts
device_stays other = refl

devices_stay : (ts : Trees) → (taken_of_devices (taken ts).1).0 ≡ (taken_of_devices ts).0
devices_stay no_trees = refl
devices_stay (tree t ts) =
    cond_both (is_some (taken_inside t).0) ((taken_inside t).0, tree (taken_inside t).1 ts) (behind (taken_inside t).1 (taken ts))
    (λ (told : Option ℕ × Trees). (taken_of_devices told.1).0 ≡ (taken_of_devices (tree t ts)).0)
    (λ _. told_behind (taken_of_device (taken_inside t).1) ts (taken_of_devices ts)
    ∙ ap (λ (told : Option ℕ). option_or told (taken_of_devices ts).0) (device_stays t)
    ∙ sym (told_behind (taken_of_device t) ts (taken_of_devices ts)))
    (λ _. told_behind (taken_of_device (taken_inside t).1) (taken ts).1 (taken_of_devices (taken ts).1)
    ∙ ap₂ option_or (device_stays t) (devices_stay ts)
    ∙ sym (told_behind (taken_of_device t) ts (taken_of_devices ts)))

same_bus : (b : Bool) (ts us : Trees) → (taken_of_devices ts).0 ≡ (taken_of_devices us).0
    → (cond b (taken_of_devices ts) (None, ts)).0 ≡ (cond b (taken_of_devices us) (None, us)).0
same_bus true ts us same = same
same_bus false ts us same = refl

-- of a scope: its own devices tell 0, or they still tell nothing
leaves_either : (path : Path) (ts : Trees) → Leaves taken (taken ts)
    → Leaves (λ (us : Trees). or_else (taken_of_bus path us) (taken us)) (or_else (taken_of_bus path ts) (taken ts))
leaves_either path ts deeper =
    cond_both (is_some (taken_of_bus path ts).0) (taken_of_bus path ts) (taken ts)
    (λ (told : Option ℕ × Trees). Leaves (λ (us : Trees). or_else (taken_of_bus path us) (taken us)) told)
    (λ held address told.
    let rest : Trees = (taken_of_bus path ts).1 in
    ap (λ (first : Option ℕ × Trees). or_else first (taken rest)) (leaves_bus path ts address told))
    (λ failed address told.
    let rest : Trees = (taken ts).1 in
    let still : (taken_of_bus path rest).0 ≡ None =
    same_bus (is_system_bus path) rest ts (devices_stay ts) ∙ none_from (taken_of_bus path ts).0 failed in
    cond-false (is_some (taken_of_bus path rest).0) (taken_of_bus path rest) (taken rest) (ap is_some still) ∙ deeper address told)

mutual
  leaves_inside : (t : Tree) → Leaves taken_inside (taken_inside t)
  leaves_inside (scope path ts) address told = ap (in_scope path) (leaves_either path ts (leaves ts) address told)
  leaves_inside (device path ts) address told = ap (in_device path) (leaves ts address told)
  leaves_inside other address told = absurd (none-some address told)

  pub leaves : (ts : Trees) → Leaves taken (taken ts)
  leaves no_trees = λ address told. absurd (none-some address told)
  leaves (tree t ts) = leaves_behind taken_inside taken (λ u us. refl) t ts (keeps_inside t) (leaves_inside t) (leaves ts)
