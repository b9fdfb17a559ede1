-- What the rules say of an accepted machine's nodes.
use Rattle.std.proofs.Common.{◌≡◌, ℕ, ◌*◌, ◌^◌, ◌<◌, ◌≤◌, ◌==◌, ◌&&◌, true, List, [], ◌∷◌, length, map, nat_le, Option, Some, None, IfSome}
use Rattle.std.proofs.Common.{arith, ap, subst}
use Rattle.std.proofs.lemmas.Bool.{and_parts, leb-true, ltb-true, eqb-true}
use Rattle.std.specs.List.{list_all, enumerate_from, AllByRecursion}
use Rattle.std.specs.Option.{option_map_or}
use Rattle.vt_bytes.proofs.Each.{each_weaker, each_from, each_front, each_back}
use Rattle.machine_desc.specs.declared.machine.Machine.{Machine}
use Rattle.machine_desc.specs.declared.acpi_parts.Numa.{Numa}
use Rattle.machine_desc.specs.declared.smbios_parts.MemRange.{MemRange}
use Rattle.machine_desc.specs.Fields.{IsFittingCpu, IsFittingRange, HasFittingFields}
use Rattle.machine_desc.specs.Rules.{is_node, node_count, nodes_of, is_lawful_distance, is_lawful_numa, IsAccepted}
use Rattle.machine_desc.proofs.Accepted.{few_at, fitting_ranges, nodes_are_there, lawful_numa}
use Rattle.acpi_model.proofs.MachineSrats.{FitsRange, node_of_cpu, node_of_range}
use Rattle.acpi_model.proofs.MachineSlits.{most_numa, IsSquare}

-- there are few nodes, with a distance for each two of them
is_square : (n : Numa) → is_lawful_numa n ≡ true → IsSquare n
is_square n lawful =
    let square = length n.distance == n.nodes * n.nodes in
    let distances = list_all (is_lawful_distance n.nodes) (enumerate_from 0 n.distance) in
    let whole = and_parts (nat_le 1 n.nodes && nat_le n.nodes 64 && square) distances lawful in
    let sizes = and_parts (nat_le 1 n.nodes && nat_le n.nodes 64) square whole.0 in
    record {
      few = leb-true n.nodes 64 (and_parts (nat_le 1 n.nodes) (nat_le n.nodes 64) sizes.0).1;
      square = eqb-true (length n.distance) (n.nodes * n.nodes) sizes.1;
    }

square_at : (part : Option Numa) → option_map_or is_lawful_numa part true ≡ true → IfSome part IsSquare
square_at None lawful = tt
square_at (Some n) lawful = is_square n lawful

pub accepted_numa : (m : Machine) → IsAccepted m → IfSome m.numa IsSquare
accepted_numa m accepted = square_at m.numa (lawful_numa m accepted)

few_nodes_at : (part : Option Numa) → IfSome part IsSquare → node_count part ≤ most_numa
few_nodes_at None square = omega arith
few_nodes_at (Some n) square = square.few

-- the most processors and ranges of an accepted machine
abbrev pub most_cpus : ℕ
most_cpus = 4096

abbrev pub most_ranges : ℕ
most_ranges = 64

abbrev pub HasFewNodes : Machine → Type 0
HasFewNodes m = (length m.cpus ≤ most_cpus) × (length m.ranges ≤ most_ranges)

has_few : (m : Machine) → IsAccepted m → HasFewNodes m
has_few m accepted = (few_at m accepted 5, few_at m accepted 3)

-- each is on a node that is there
each_below : (count : ℕ) (nodes : List ℕ) → list_all (is_node count) nodes ≡ true → AllByRecursion (λ node. node < count) nodes
each_below count [] there = tt
each_below count (node ∷ nodes) there =
    let both = and_parts (is_node count node) (list_all (is_node count) nodes) there in
    (ltb-true node count both.0, each_below count nodes both.1)

each_of : {A : Type 0} (P : ℕ → Type 0) (node : A → ℕ) (elements : List A) → AllByRecursion P (map node elements) → AllByRecursion (λ a. P (node a)) elements
each_of P node [] each = tt
each_of P node (a ∷ more) each = (each.0, each_of P node more each.1)

pub record AreBelow (count : ℕ) (m : Machine) : Type 0 where
  pub cpus : AllByRecursion (λ cpu. node_of_cpu cpu < count) m.cpus
  pub ranges : AllByRecursion (λ range. node_of_range range < count) m.ranges

below : (m : Machine) → IsAccepted m → AreBelow (node_count m.numa) m
below m accepted =
    let count : ℕ = node_count m.numa in
    let each = each_below count (nodes_of m) (nodes_are_there m accepted) in
    let on_cpus : List ℕ = map node_of_cpu m.cpus in
    let on_ranges : List ℕ = map node_of_range m.ranges in
    record {
      cpus = each_of (λ node. node < count) node_of_cpu m.cpus (each_front (λ node. node < count) on_cpus on_ranges each);
      ranges = each_of (λ node. node < count) node_of_range m.ranges (each_back (λ node. node < count) on_cpus on_ranges each);
    }

-- which has 8 bits
pub small_nodes : (m : Machine) → IsAccepted m → AreBelow (2 ^ 8) m
small_nodes m accepted =
    let count : ℕ = node_count m.numa in
    let few = few_nodes_at m.numa (accepted_numa m accepted) in
    let there = below m accepted in
    record {
      cpus = each_weaker (λ cpu. node_of_cpu cpu < count) (λ cpu. node_of_cpu cpu < 2 ^ 8) (λ cpu less. omega (arith, few, less)) m.cpus there.cpus;
      ranges = each_weaker (λ range. node_of_range range < count) (λ range. node_of_range range < 2 ^ 8) (λ range less. omega (arith, few, less)) m.ranges
          there.ranges;
    }

-- without nodes, all is on node 0
pub record AreZero (m : Machine) : Type 0 where
  pub cpus : AllByRecursion (λ cpu. node_of_cpu cpu ≡ 0) m.cpus
  pub ranges : AllByRecursion (λ range. node_of_range range ≡ 0) m.ranges

pub nodes_zero : (m : Machine) → IsAccepted m → m.numa ≡ None → AreZero m
nodes_zero m accepted none =
    let one : AreBelow 1 m = subst (λ count. AreBelow count m) (ap node_count none) (below m accepted) in
    record {
      cpus = each_weaker (λ cpu. node_of_cpu cpu < 1) (λ cpu. node_of_cpu cpu ≡ 0) (λ cpu less. omega (arith, less)) m.cpus one.cpus;
      ranges = each_weaker (λ range. node_of_range range < 1) (λ range. node_of_range range ≡ 0) (λ range less. omega (arith, less)) m.ranges one.ranges;
    }

-- the numbers of processors and ranges fit their fields
abbrev pub FitsNodes : Machine → Type 0
FitsNodes m = HasFewNodes m × AllByRecursion IsFittingCpu m.cpus × AllByRecursion FitsRange m.ranges

ranges_fit : (ranges : List MemRange) → AllByRecursion IsFittingRange ranges → AllByRecursion (λ range. node_of_range range < 2 ^ 8) ranges
    → AllByRecursion FitsRange ranges
ranges_fit ranges fit small =
    each_from IsFittingRange (λ range. node_of_range range < 2 ^ 8) FitsRange
    (λ range fits node. record { base_mib = fits.base_mib; size_mib = fits.size_mib; node = node }) ranges fit small

nodes_fit : (m : Machine) → HasFittingFields m → IsAccepted m → FitsNodes m
nodes_fit m fit accepted = (
  has_few m accepted,
  fit.cpus,
  ranges_fit m.ranges (fitting_ranges m accepted) (small_nodes m accepted).ranges,
)

-- what is known is known whichever part there is
pub whichever : {A : Type 0} (P : Type 0) (part : Option A) → P → IfSome part (λ a. P)
whichever P None p = tt
whichever P (Some a) p = p

pub few_nodes : {A : Type 0} (m : Machine) (part : Option A) → IsAccepted m → IfSome part (λ a. HasFewNodes m)
few_nodes m part accepted = whichever (HasFewNodes m) part (has_few m accepted)

pub fits_nodes : (m : Machine) → HasFittingFields m → IsAccepted m → IfSome m.numa (λ numa. FitsNodes m)
fits_nodes m fit accepted = whichever (FitsNodes m) m.numa (nodes_fit m fit accepted)
