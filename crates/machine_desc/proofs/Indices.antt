-- The index at which a machine breaks a rule is a small number.
use Rattle.std.proofs.Common.{◌≡◌, ℕ, ◌+◌, ◌<◌, ◌≤◌, Bool, true, false, ◌&&◌, List, [], ◌∷◌, length, get_or, drop, map, Option, Some, None, refl, ◌∙◌}
use Rattle.std.proofs.Common.{subst, arith, is_some, if◌then◌else◌}
use Rattle.std.proofs.lemmas.List.{at_drop_more, length-map, length-append}
use Rattle.std.proofs.lemmas.List.FromFn.{length-enumerate_from}
use Rattle.std.proofs.lemmas.Option.{same_Some}
use Rattle.std.proofs.lemmas.Bool.{leb-true}
use Rattle.std.specs.List.{zip, enumerate_from}
use Rattle.std.specs.Option.{option_map_or}
use Rattle.machine_desc.specs.declared.machine.Machine.{Machine}
use Rattle.machine_desc.specs.declared.machine.Acpi.{Acpi}
use Rattle.machine_desc.specs.declared.machine.Broken.{Broken}
use Rattle.machine_desc.proofs.Kept.{each_is_kept}
use Rattle.machine_desc.proofs.Passing.{failing_within, all_pass, passing_at, ◌⨾◌}
use Rattle.machine_desc.specs.Rules.{first_broken, only_at, first_failing, is_padded_text, breach_of_acpi, breaches_of_sizes, breaches_of_parts}
use Rattle.machine_desc.specs.Rules.{breaches_of_acpi_parts, breaches_of_devices, counts, is_within, with_ends, end_of, is_own_if_given, uuids_of}
use Rattle.machine_desc.specs.Rules.{is_some_text, is_lawful_socket, is_lawful_dimm, is_lawful_range, is_lawful_slot, is_met, parts_on_acpi}
use Rattle.machine_desc.specs.Rules.{parts_on_power, lists_on_apic}
use Rattle.machine_desc.specs.Rules.{is_new, first_refused, is_lawful_cpu, apic_id, is_lawful_io_apic, io_apic_id, is_lawful_override, irq_of}
use Rattle.machine_desc.specs.Rules.{is_lawful_nmi, is_node, node_count, nodes_of}
use Rattle.machine_desc.specs.Rules.{windows_of, routes_of, is_lawful_window, is_lawful_route, pair_of, is_lawful_uart}

-- the rule at a place is the first broken one of those that are left
pub broken_here : (rules : List (ℕ × Option ℕ)) (i index : ℕ) (d : ℕ × Option ℕ) → i < length rules → (get_or rules i d).1 ≡ Some index
    → first_broken (drop i rules) ≡ Some (record { rule = (get_or rules i d).0; index = index })
broken_here rules i index d within is = at_drop_more first_broken rules i d within ∙ rw is refl

-- an index, if there is one, is less than a number
abbrev IsBelow : ℕ → Option ℕ → Type 0
IsBelow most breach = (index : ℕ) → breach ≡ Some index → index < most

abbrev AreBelow : ℕ → List (ℕ × Option ℕ) → Type 0
AreBelow most [] = Unit {0}
AreBelow most (rule ∷ rules) = IsBelow most rule.1 × AreBelow most rules

nothing_below : (most : ℕ) → IsBelow most None
nothing_below most index is = absurd (cc)

only_below : (most at : ℕ) (holds : Bool) → at < most → IsBelow most (only_at at holds)
only_below most at true small index is = absurd (cc)
only_below most at false small index is = subst (λ n. n < most) (same_Some at index is) small

either_below : (most : ℕ) (test : Bool) (a b : Option ℕ) → IsBelow most a → IsBelow most b → IsBelow most (if test then a else b)
either_below most true a b first second = first
either_below most false a b first second = second

failing_below : {A : Type 0} (most : ℕ) (test : A → Bool) (xs : List A) → length xs ≤ most → IsBelow most (first_failing test xs)
failing_below most test xs short index is = omega (arith, failing_within test xs index is)

acpi_below : (acpi : Option Acpi) → IsBelow 8192 (breach_of_acpi acpi)
acpi_below None = nothing_below 8192
acpi_below (Some acpi) =
    either_below 8192 (is_padded_text 6 acpi.oem_id) (only_at 1 (is_padded_text 8 acpi.oem_table_id)) (Some 0)
    (only_below 8192 1 (is_padded_text 8 acpi.oem_table_id) (omega arith)) (only_below 8192 0 false (omega arith))

zip_short : {A B : Type 0} (xs : List A) (ys : List B) → length (zip xs ys) ≤ length ys
zip_short [] ys = omega arith
zip_short (x ∷ xs) [] = omega arith
zip_short (x ∷ xs) (y ∷ ys) = omega (arith, zip_short xs ys)

index_is : (rule index : ℕ) (broken : Broken) → Some (record { rule = rule; index = index }) ≡ Some broken → index ≡ broken.index
index_is rule index broken is = cc

no_rule : (broken : Broken) → first_broken [] ≡ Some broken → ⊥
no_rule broken is = cc

-- the first rule that is broken
first_below : (most rule : ℕ) (breach : Option ℕ) (others : Option Broken) (broken : Broken) → IsBelow most breach
    → (breach ≡ None → others ≡ Some broken → broken.index < most)
    → option_map_or (λ index. Some (record { rule = rule; index = index })) breach others ≡ Some broken → broken.index < most
first_below most rule None others broken small next is = next refl is
first_below most rule (Some index) others broken small next is = subst (λ n. n < most) (index_is rule index broken is) (small index refl)

some_below : (most : ℕ) (rules : List (ℕ × Option ℕ)) (broken : Broken) → AreBelow most rules → first_broken rules ≡ Some broken → broken.index < most
some_below most [] broken small is = absurd (no_rule broken is)
some_below most (rule ∷ rules) broken small is =
    first_below most rule.0 rule.1 (first_broken rules) broken small.0 (λ none. some_below most rules broken small.1) is

-- the list of an index of the rule on their lengths has at most so many elements
pub within : (m : Machine) (index : ℕ) → first_failing is_within (counts m) ≡ None → (get_or (counts m) index (0, 0)).0 ≤ (get_or (counts m) index (0, 0)).1
within m index none =
    let count : ℕ × ℕ = get_or (counts m) index (0, 0) in
    leb-true count.0 count.1 (passing_at is_within (counts m) index (0, 0) (all_pass is_within (counts m) none) refl)

refused_below : {A : Type 0} (most : ℕ) (test : A → Bool) (number : A → ℕ) (xs : List A) → length xs ≤ most → IsBelow most (first_refused test number xs)
refused_below most test number xs short =
    let same : length (enumerate_from 0 xs) ≡ length xs = length-enumerate_from 0 xs in
    failing_below most (λ e. test e.1 && is_new number xs e) (enumerate_from 0 xs) (omega (arith, short, same))

nodes_few : (m : Machine) → length m.cpus ≤ 4096 → length m.ranges ≤ 64 → length (nodes_of m) ≤ 8192
nodes_few m few_cpus few_ranges =
    let all : length (nodes_of m) ≡ length (map (λ c. c.node) m.cpus) + length (map (λ r. r.node) m.ranges) = length-append _ _ in
    let cpus : length (map (λ c. c.node) m.cpus) ≡ length m.cpus = length-map m.cpus (λ c. c.node) in
    let ranges : length (map (λ r. r.node) m.ranges) ≡ length m.ranges = length-map m.ranges (λ r. r.node) in
    omega (arith, all, cpus, ranges, few_cpus, few_ranges)

only_first : (holds : Bool) → IsBelow 8192 (only_at 0 holds)
only_first holds = only_below 8192 0 holds (omega arith)

-- where no rule on sizes is broken
parts_below : (m : Machine) → first_failing is_within (counts m) ≡ None → AreBelow 8192 (breaches_of_parts m)
parts_below m short =
    only_first _
    ⨾ failing_below 8192 is_own_if_given (uuids_of m) (omega arith)
    ⨾ failing_below 8192 is_some_text m.oem_strings (omega (arith, within m 0 short))
    ⨾ only_first _
    ⨾ failing_below 8192 is_lawful_socket m.sockets (omega (arith, within m 1 short))
    ⨾ failing_below 8192 is_lawful_dimm m.dimms (omega (arith, within m 2 short))
    ⨾ only_first _
    ⨾ failing_below 8192 is_lawful_range (with_ends m.ranges) (omega (arith, zip_short (0 ∷ map end_of m.ranges) m.ranges, within m 3 short))
    ⨾ only_first _
    ⨾ failing_below 8192 is_lawful_slot m.slots (omega (arith, within m 4 short))
    ⨾ tt

acpi_parts_below : (m : Machine) → first_failing is_within (counts m) ≡ None → AreBelow 8192 (breaches_of_acpi_parts m)
acpi_parts_below m short =
    failing_below 8192 (is_met (is_some m.acpi)) (parts_on_acpi m) (omega arith)
    ⨾ failing_below 8192 (is_met (is_some m.power)) (parts_on_power m) (omega arith)
    ⨾ failing_below 8192 (is_met (is_some m.apic)) (lists_on_apic m) (omega arith)
    ⨾ acpi_below m.acpi
    ⨾ only_first _
    ⨾ only_first _
    ⨾ refused_below 8192 is_lawful_cpu apic_id m.cpus (omega (arith, within m 5 short))
    ⨾ refused_below 8192 is_lawful_io_apic io_apic_id m.io_apics (omega (arith, within m 6 short))
    ⨾ refused_below 8192 is_lawful_override irq_of m.overrides (omega (arith, within m 7 short))
    ⨾ failing_below 8192 (is_lawful_nmi (length m.cpus)) m.nmis (omega (arith, within m 8 short))
    ⨾ only_first _
    ⨾ failing_below 8192 (is_node (node_count m.numa)) (nodes_of m) (nodes_few m (within m 5 short) (within m 3 short))
    ⨾ tt

devices_below : (m : Machine) → first_failing is_within (counts m) ≡ None → AreBelow 8192 (breaches_of_devices m)
devices_below m short =
    only_first _
    ⨾ failing_below 8192 is_lawful_window (windows_of m.bridge) (omega (arith, within m 10 short))
    ⨾ refused_below 8192 is_lawful_route pair_of (routes_of m.bridge) (omega (arith, within m 11 short))
    ⨾ failing_below 8192 is_lawful_uart m.uarts (omega (arith, within m 9 short))
    ⨾ tt

-- the index at which a rule of each list is broken first

pub index_of_size : (m : Machine) (broken : Broken) → first_broken (breaches_of_sizes m) ≡ Some broken → broken.index < 8192
index_of_size m broken is =
    some_below 8192 (breaches_of_sizes m) broken (only_first _ ⨾ failing_below 8192 is_within (counts m) (omega arith) ⨾ tt) is

pub index_of_part : (m : Machine) (broken : Broken) → first_broken (breaches_of_sizes m) ≡ None → first_broken (breaches_of_parts m) ≡ Some broken
    → broken.index < 8192
index_of_part m broken none is =
    some_below 8192 (breaches_of_parts m) broken (parts_below m (each_is_kept 2 (breaches_of_sizes m) none)) is

pub index_of_acpi_part : (m : Machine) (broken : Broken) → first_broken (breaches_of_sizes m) ≡ None
    → first_broken (breaches_of_acpi_parts m) ≡ Some broken → broken.index < 8192
index_of_acpi_part m broken none is =
    some_below 8192 (breaches_of_acpi_parts m) broken (acpi_parts_below m (each_is_kept 2 (breaches_of_sizes m) none)) is

pub index_of_device : (m : Machine) (broken : Broken) → first_broken (breaches_of_sizes m) ≡ None → first_broken (breaches_of_devices m) ≡ Some broken
    → broken.index < 8192
index_of_device m broken none is =
    some_below 8192 (breaches_of_devices m) broken (devices_below m (each_is_kept 2 (breaches_of_sizes m) none)) is
