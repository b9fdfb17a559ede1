-- What the rules say of the parts of an accepted machine, one by one.
use Rattle.std.proofs.Common.{◌≡◌, ℕ, ◌+◌, ◌<◌, ◌≤◌, ◌^◌, Bool, true, ◌&&◌, List, [], ◌∷◌, map, Option, Some, None, nat_le, refl, sym, ◌∙◌, arith}
use Rattle.std.specs.Prelude.{IfSome}
use Rattle.std.specs.List.{list_all, flat_map, enumerate_from, AllByRecursion}
use Rattle.std.specs.Option.{option_map_or}
use Rattle.std.proofs.lemmas.Bool.{and_parts, leb-true, ltb-true}
use Rattle.std.proofs.lemmas.List.Folds.{list_all-append, list_all-map}
use Rattle.vt_outside.proofs.Each.{each_true}
use Rattle.machine_desc.specs.declared.machine.Machine.{Machine}
use Rattle.machine_desc.specs.declared.acpi_parts.Cpu.{Cpu}
use Rattle.machine_desc.specs.declared.acpi_parts.Numa.{Numa}
use Rattle.machine_desc.specs.declared.smbios_parts.MemRange.{MemRange}
use Rattle.machine_desc.specs.Rules.{IsAccepted, is_text, texts_if, is_new, irq_of}
use Rattle.machine_desc.specs.Rules.{is_lawful_override, is_lawful_numa, node_count, is_node, pair_of, routes_of, is_lawful_route}
use Rattle.machine_desc.proofs.Accepted.{kept, each_kept, holds_where_kept, nodes_are_there, lawful_numa}
use Rattle.machine_desc.proofs.AllTexts.{all_of_each}
use Rattle.desc_toml.proofs.Valued.{each_holds}
use Rattle.desc_toml.proofs.ValuedDevices.{few_nodes}

pub if_true : {X : Type 0} (test : X → Bool) (given : Option X) → option_map_or test given true ≡ true → IfSome given (λ x. test x ≡ true)
if_true test None is = tt
if_true test (Some x) is = is

pub if_text : {X : Type 0} (texts_of : X → List (List ℕ)) (given : Option X) → list_all is_text (texts_if texts_of given) ≡ true
    → IfSome given (λ x. list_all is_text (texts_of x) ≡ true)
if_text texts_of None is = tt
if_text texts_of (Some x) is = is

pub each_text : {X : Type 0} (texts_of : X → List (List ℕ)) (xs : List X) → list_all is_text (flat_map texts_of xs) ≡ true
    → AllByRecursion (λ x. list_all is_text (texts_of x) ≡ true) xs
each_text texts_of xs all = each_true (λ x. list_all is_text (texts_of x)) xs (sym (all_of_each is_text texts_of xs) ∙ all)

-- those that aren't refused pass the test
each_taken : {X : Type 0} (test : X → Bool) (number : X → ℕ) (all : List X) (place : ℕ) (xs : List X)
    → list_all (λ (e : ℕ × X). test e.1 && is_new number all e) (enumerate_from place xs) ≡ true → AllByRecursion (λ x. test x ≡ true) xs
each_taken test number all place [] taken = tt
each_taken test number all place (x ∷ xs) taken =
    let Taken = λ (e : ℕ × _). test e.1 && is_new number all e in
    let both = and_parts (Taken (place, x)) (list_all Taken (enumerate_from (place + 1) xs)) taken in
    ((and_parts (test x) (is_new number all (place, x)) both.0).0, each_taken test number all (place + 1) xs both.1)

pub small_top : (m : Machine) → IsAccepted m → m.top_mib ≤ 3072
small_top m accepted =
    let lawful = holds_where_kept 0 (nat_le 64 m.top_mib && nat_le m.top_mib 3072) (kept m accepted 1) in
    leb-true m.top_mib 3072 (and_parts (nat_le 64 m.top_mib) (nat_le m.top_mib 3072) lawful).1

pub lawful_overrides : (m : Machine) → IsAccepted m → AllByRecursion (λ o. is_lawful_override o ≡ true) m.overrides
lawful_overrides m accepted =
    each_taken is_lawful_override irq_of m.overrides 0 m.overrides
    (each_kept m accepted 21 (λ e. is_lawful_override e.1 && is_new irq_of m.overrides e) (enumerate_from 0 m.overrides) refl)

pub lawful_routes : (m : Machine) → IsAccepted m → AllByRecursion (λ r. is_lawful_route r ≡ true) (routes_of m.bridge)
lawful_routes m accepted =
    let all = routes_of m.bridge in
    each_taken is_lawful_route pair_of all 0 all (each_kept m accepted 27 (λ e. is_lawful_route e.1 && is_new pair_of all e) (enumerate_from 0 all) refl)

-- the nodes are few, so that the number of one has 8 bits

count_few : (numa : Option Numa) → option_map_or is_lawful_numa numa true ≡ true → node_count numa ≤ 64
count_few None lawful = omega arith
count_few (Some n) lawful = few_nodes n lawful

pub small_nodes : (m : Machine) → IsAccepted m → AllByRecursion (λ (r : MemRange). r.node < 2 ^ 8) m.ranges
small_nodes m accepted =
    let count = node_count m.numa in
    let few = count_few m.numa (lawful_numa m accepted) in
    let of_cpus = map (λ (c : Cpu). c.node) m.cpus in
    let of_ranges = map (λ (r : MemRange). r.node) m.ranges in
    let both = and_parts (list_all (is_node count) of_cpus) (list_all (is_node count) of_ranges)
    (sym (list_all-append (is_node count) of_cpus of_ranges) ∙ nodes_are_there m accepted) in
    let on = each_true (λ (r : MemRange). is_node count r.node) m.ranges (sym (list_all-map (is_node count) (λ (r : MemRange). r.node) m.ranges) ∙ both.1) in
    each_holds (λ (r : MemRange). is_node count r.node ≡ true) (λ (r : MemRange). r.node < 2 ^ 8)
    (λ r is. omega (arith, ltb-true r.node count is, few)) m.ranges on
