-- The devices that may tell where the id of a machine's generation is, in the order in which they are asked.
use Rattle.std.specs.Prelude.{ℕ, List, [], ◌∷◌, ◌++◌, codes, Option, None, map, if◌then◌else◌}
use Rattle.std.specs.List.{flat_map}
use Rattle.std.specs.Option.{option_or}
use Rattle.aml_terms.specs.Trees.{Tree, Trees, named, scope, device, no_trees, tree}
use Rattle.aml_terms.specs.OneSegment.{is_beside, is_system_bus}
use Rattle.aml_generation.specs.Generation.{address_of}

-- the terms of each scope of the system bus, however deep, in the order in which the scopes begin
abbrev mutual
  pub buses_inside : Tree → List Trees
  buses_inside (scope path ts) = (if is_system_bus path then ts ∷ [] else []) ++ buses ts
  buses_inside (device path ts) = buses ts
  buses_inside other = []

  pub buses : Trees → List Trees
  buses no_trees = []
  buses (tree t ts) = buses_inside t ++ buses ts

-- the terms of each device `VGEN` directly among terms
abbrev pub device_terms : Tree → List Trees
device_terms (device path ts) = if is_beside (codes "VGEN") path then ts ∷ [] else []
device_terms other = []

abbrev pub devices_among : Trees → List Trees
devices_among no_trees = []
devices_among (tree t ts) = device_terms t ++ devices_among ts

-- the terms of each device that may tell the address
abbrev pub candidates : Trees → List Trees
candidates ts = flat_map devices_among (buses ts)

-- the address that the terms of a device tell: that of the first name `ADDR`
abbrev pub address_among : Trees → Option ℕ
address_among no_trees = None
address_among (tree (named path value) ts) = if is_beside (codes "ADDR") path then address_of value else address_among ts
address_among (tree other ts) = address_among ts

-- the first of what may be there
abbrev pub first_some : List (Option ℕ) → Option ℕ
first_some [] = None
first_some (one ∷ others) = option_or one (first_some others)

-- the address that terms tell: that of the first of these devices that tells one
abbrev pub address_told : Trees → Option ℕ
address_told ts = first_some (map address_among (candidates ts))
