-- The terms on the system bus, and what stands with a name among terms (ACPI 6.5, 5.3 and 20.2.5).
use Rattle.std.specs.Prelude.{ℕ, List, [], ◌∷◌, Option, Some, None, if◌then◌else◌}
use Rattle.std.specs.List.{flat_map}
use Rattle.std.specs.Option.{option_or}
use Rattle.aml_terms.specs.Trees.{Tree, Trees, named, scope, device, no_trees, tree}
use Rattle.aml_terms.specs.OneSegment.{is_system_bus, is_beside}

-- trees, one after the other
abbrev pub each_of : Trees → List Tree
each_of no_trees = []
each_of (tree t ts) = t ∷ each_of ts

-- what stands directly in a scope of the system bus
abbrev pub in_bus : Tree → List Tree
in_bus (scope path terms) = if is_system_bus path then each_of terms else []
in_bus t = []

-- the same of all such scopes that stand at the top, in order
abbrev pub bus_terms : List Tree → List Tree
bus_terms terms = flat_map in_bus terms

-- what is told of the first of some of which anything is
abbrev pub first_told : {A X : Type 0} → (A → Option X) → List A → Option X
first_told told [] = None
first_told told (a ∷ more) = option_or (told a) (first_told told more)

-- what stands in a device of this name
abbrev pub in_device : List ℕ → Tree → Option (List Tree)
in_device name (device path terms) = if is_beside name path then Some (each_of terms) else None
in_device name t = None

-- the value of this name
abbrev pub value_in : List ℕ → Tree → Option Tree
value_in name (named path value) = if is_beside name path then Some value else None
value_in name t = None
