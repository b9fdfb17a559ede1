-- The address that is taken is that of the first device that tells one.
use Rattle.std.proofs.Common.{◌≡◌, ℕ, Bool, true, false, cond, codes, List, [], ◌∷◌, ◌++◌, map, Option, Some, None, refl, sym, ap, ap₂, ◌∙◌}
use Rattle.std.specs.List.{flat_map}
use Rattle.std.specs.Option.{option_or}
use Rattle.std.proofs.lemmas.List.{map-append}
use Rattle.std.proofs.lemmas.List.Concat.{flat_map-append}
use Rattle.aml_terms.specs.declared.term.Path.{Path}
use Rattle.aml_terms.specs.Trees.{Tree, Trees, named, scope, device, no_trees, tree}
use Rattle.aml_terms.specs.OneSegment.{is_beside, is_system_bus}
use Rattle.aml_generation.specs.Generation.{address_of, taken_of_value, behind, or_behind, taken_of_names}
use Rattle.aml_generation.specs.Generation.{taken_of_device, taken_of_devices, taken_of_bus, or_else, taken_inside, taken}
use Rattle.aml_generation.specs.Candidates.{buses_inside, buses, device_terms, devices_among, address_among, first_some}

-- of two that may tell, the first that does
behind_told : (told : Option ℕ) (left : Tree) (ts : Trees) (others : Option ℕ × Trees) → (or_behind (told, left) ts others).0 ≡ option_or told others.0
behind_told None left ts others = refl
behind_told (Some address) left ts others = refl

pub told_behind : (one : Option ℕ × Tree) (ts : Trees) (others : Option ℕ × Trees) → (or_behind one ts others).0 ≡ option_or one.0 others.0
told_behind one ts others = behind_told one.0 one.1 ts others

either_told : (told : Option ℕ) (ts : Trees) (other : Option ℕ × Trees) → (or_else (told, ts) other).0 ≡ option_or told other.0
either_told None ts other = refl
either_told (Some address) ts other = refl

-- of a list of what may be told
or_none : (told : Option ℕ) → option_or told None ≡ told
or_none None = refl
or_none (Some address) = refl

or_assoc : (a b c : Option ℕ) → option_or a (option_or b c) ≡ option_or (option_or a b) c
or_assoc None b c = refl
or_assoc (Some address) b c = refl

first-append : (xs ys : List (Option ℕ)) → first_some (xs ++ ys) ≡ option_or (first_some xs) (first_some ys)
first-append [] ys = refl
first-append (x ∷ xs) ys = ap (option_or x) (first-append xs ys) ∙ or_assoc x (first_some xs) (first_some ys)

-- what the first of devices tells, by their terms, and the first of those directly in scopes
abbrev first_told : List Trees → Option ℕ
first_told devices = first_some (map address_among devices)

abbrev told_in : List Trees → Option ℕ
told_in scopes = first_told (flat_map devices_among scopes)

first_told-append : (xs ys : List Trees) → first_told (xs ++ ys) ≡ option_or (first_told xs) (first_told ys)
first_told-append xs ys = ap first_some (map-append address_among xs ys) ∙ first-append (map address_among xs) (map address_among ys)

told_in-append : (xs ys : List Trees) → told_in (xs ++ ys) ≡ option_or (told_in xs) (told_in ys)
told_in-append xs ys =
    ap first_told (flat_map-append devices_among xs ys) ∙ first_told-append (flat_map devices_among xs) (flat_map devices_among ys)

-- of the names of a device
named_told : (b : Bool) (path : Path) (value : Tree) (ts : Trees) → (taken_of_names ts).0 ≡ address_among ts
    → (cond b ((taken_of_value value).0, tree (named path (taken_of_value value).1) ts) (behind (named path value) (taken_of_names ts))).0
    ≡ cond b (address_of value) (address_among ts)
named_told true path value ts others = refl
named_told false path value ts others = others

pub names_told : (ts : Trees) → (taken_of_names ts).0 ≡ address_among ts
names_told no_trees = refl
names_told (tree (named path value) ts) = named_told (is_beside (codes "ADDR") path) path value ts (names_told ts)
names_told (tree other ts) = names_told ts

-- of a device, and of those among terms
one_told : (b : Bool) (ts : Trees) → (cond b (taken_of_names ts) (None, ts)).0 ≡ first_told (cond b (ts ∷ []) [])
one_told true ts = names_told ts ∙ sym (or_none (address_among ts))
one_told false ts = refl

device_told : (t : Tree) → (taken_of_device t).0 ≡ first_told (device_terms t)
device_told (device path ts) = one_told (is_beside (codes "VGEN") path) ts
device_told other = refl

devices_told : (ts : Trees) → (taken_of_devices ts).0 ≡ first_told (devices_among ts)
devices_told no_trees = refl
devices_told (tree t ts) =
    told_behind (taken_of_device t) ts (taken_of_devices ts) ∙ ap₂ option_or (device_told t) (devices_told ts)
    ∙ sym (first_told-append (device_terms t) (devices_among ts))

-- of a scope, and of all terms
bus_told : (b : Bool) (ts : Trees) → (cond b (taken_of_devices ts) (None, ts)).0 ≡ told_in (cond b (ts ∷ []) [])
bus_told true ts = devices_told ts ∙ sym (or_none (first_told (devices_among ts))) ∙ sym (first_told-append (devices_among ts) [])
bus_told false ts = refl

mutual
  inside_told : (t : Tree) → (taken_inside t).0 ≡ told_in (buses_inside t)
  inside_told (scope path ts) =
      either_told (taken_of_bus path ts).0 (taken_of_bus path ts).1 (taken ts) ∙ ap₂ option_or (bus_told (is_system_bus path) ts) (terms_told ts)
      ∙ sym (told_in-append (cond (is_system_bus path) (ts ∷ []) []) (buses ts))
  inside_told (device path ts) = terms_told ts
  inside_told other = refl

  pub terms_told : (ts : Trees) → (taken ts).0 ≡ told_in (buses ts)
  terms_told no_trees = refl
  terms_told (tree t ts) =
      told_behind (taken_inside t) ts (taken ts) ∙ ap₂ option_or (inside_told t) (terms_told ts) ∙ sym (told_in-append (buses_inside t) (buses ts))
