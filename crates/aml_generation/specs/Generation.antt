-- Where terms lead to the id of the machine's generation (Microsoft, Virtual Machine Generation ID; QEMU, docs/specs/vmgenid.rst), and the
-- terms without that address.
use Rattle.std.specs.Prelude.{ℕ, ◌+◌, ◌*◌, ◌^◌, Bool, false, ◌&&◌, nat_lt, is_some, codes, Option, Some, None, if◌then◌else◌}
use Rattle.aml_terms.specs.declared.term.Path.{Path}
use Rattle.aml_terms.specs.OneSegment.{is_system_bus, is_beside}
use Rattle.aml_terms.specs.Trees.{Tree, Trees, int, fixed, pack, named, scope, device, no_trees, tree}

-- the integer that a value is, in either of its spellings
abbrev pub integer_of : Tree → Option ℕ
integer_of (int n) = Some n
integer_of (fixed n) = Some n
integer_of other = None

-- two integers of 32 bits as the halves of an address
abbrev pub joined : Option ℕ → Option ℕ → Option ℕ
joined (Some low) (Some high) = if nat_lt low (2 ^ 32) && nat_lt high (2 ^ 32) then Some (low + 2 ^ 32 * high) else None
joined low high = None

-- the address that a value tells: it is a package of its two halves, the low one first
abbrev pub address_of : Tree → Option ℕ
address_of (pack (tree low (tree high no_trees))) = joined (integer_of low) (integer_of high)
address_of other = None

-- the package that tells the address 0
abbrev pub zeros : Tree
zeros = pack (tree (int 0) (tree (int 0) no_trees))

-- What is told, and what stays: terms that tell an address have zeros in its place, and terms that tell none are as they were. First of a
-- value.
abbrev pub taken_of_value : Tree → Option ℕ × Tree
taken_of_value value = (address_of value, if is_some (address_of value) then zeros else value)

-- where nothing is told of one term, what is told of those behind it
abbrev pub behind : Tree → Option ℕ × Trees → Option ℕ × Trees
behind t others = (others.0, tree t others.1)

abbrev pub or_behind : Option ℕ × Tree → Trees → Option ℕ × Trees → Option ℕ × Trees
or_behind one ts others = if is_some one.0 then (one.0, tree one.1 ts) else behind one.1 others

-- a name `ADDR`, and what is told of its value
abbrev pub is_address : Tree → Bool
is_address (named path value) = is_beside (codes "ADDR") path
is_address other = false

abbrev pub taken_of_name : Tree → Option ℕ × Tree
taken_of_name (named path value) = ((taken_of_value value).0, named path (taken_of_value value).1)
taken_of_name other = (None, other)

-- Of the terms in a device: its first name `ADDR` tells the address, or nothing does.
abbrev pub taken_of_names : Trees → Option ℕ × Trees
taken_of_names no_trees = (None, no_trees)
taken_of_names (tree t ts) = if is_address t then ((taken_of_name t).0, tree (taken_of_name t).1 ts) else behind t (taken_of_names ts)

-- a device and a scope, with what is told of the terms inside
abbrev pub in_device : Path → Option ℕ × Trees → Option ℕ × Tree
in_device path inside = (inside.0, device path inside.1)

abbrev pub in_scope : Path → Option ℕ × Trees → Option ℕ × Tree
in_scope path inside = (inside.0, scope path inside.1)

-- of a term that may be the device `VGEN`
abbrev pub taken_of_device : Tree → Option ℕ × Tree
taken_of_device (device path ts) = in_device path (if is_beside (codes "VGEN") path then taken_of_names ts else (None, ts))
taken_of_device other = (None, other)

-- of the terms directly in a scope: the first such device that tells an address
abbrev pub taken_of_devices : Trees → Option ℕ × Trees
taken_of_devices no_trees = (None, no_trees)
taken_of_devices (tree t ts) = or_behind (taken_of_device t) ts (taken_of_devices ts)

-- of the terms in a scope that may be the system bus: its own devices alone
abbrev pub taken_of_bus : Path → Trees → Option ℕ × Trees
taken_of_bus path ts = if is_system_bus path then taken_of_devices ts else (None, ts)

-- of the same terms, in one way or else in another
abbrev pub or_else : Option ℕ × Trees → Option ℕ × Trees → Option ℕ × Trees
or_else one other = if is_some one.0 then one else other

-- Of all terms: in the order in which they begin, of a scope of the system bus first its own devices, and then the scopes inside it; of
-- another scope, and of a device, the scopes inside it.
abbrev mutual
  pub taken_inside : Tree → Option ℕ × Tree
  taken_inside (scope path ts) = in_scope path (or_else (taken_of_bus path ts) (taken ts))
  taken_inside (device path ts) = in_device path (taken ts)
  taken_inside other = (None, other)

  pub taken : Trees → Option ℕ × Trees
  taken no_trees = (None, no_trees)
  taken (tree t ts) = or_behind (taken_inside t) ts (taken ts)
