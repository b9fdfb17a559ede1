-- What the rules say of an accepted machine: each is kept, so lists are short, texts are lawful, and the numbers of ranges fit.
use Rattle.std.proofs.Common.{◌≡◌, ℕ, ◌^◌, ◌≤◌, Bool, true, false, ◌&&◌, ◌||◌, List, [], ◌∷◌, get_or, map, filter, None, IsSome, is_some, cond, nat_le}
use Rattle.std.proofs.Common.{◌==◌, ⊎_elim, refl, sym, ◌∙◌, arith}
use Rattle.std.proofs.lemmas.Bool.{and_parts, leb-true, lt-ltb, cases_lt}
use Rattle.std.specs.List.{list_all, zip, AllByRecursion}
use Rattle.std.specs.Option.{option_map_or}
use Rattle.machine_desc.specs.declared.machine.Machine.{Machine}
use Rattle.machine_desc.specs.declared.smbios_parts.MemRange.{MemRange}
use Rattle.machine_desc.specs.Rules.{first_failing, only_at, is_text, text_parts, texts_of, counts, is_own_if_given, uuids_of, parts_on_power, end_of}
use Rattle.machine_desc.specs.Rules.{with_ends, is_lawful_range}
use Rattle.machine_desc.specs.Rules.{is_low, is_empty, are_joined, is_memory, is_met, parts_on_acpi, breaches, breach_of, IsAccepted}
use Rattle.machine_desc.specs.Rules.{is_node, node_count, nodes_of, is_lawful_numa}
use Rattle.machine_desc.specs.Fields.{IsFittingRange}
use Rattle.machine_desc.proofs.Addresses.{joined_up}
use Rattle.machine_desc.proofs.AllTexts.{all_of_each}
use Rattle.machine_desc.proofs.Indices.{within}
use Rattle.machine_desc.proofs.Kept.{each_is_kept}
use Rattle.machine_desc.proofs.Passing.{all_pass, passing_at}

pub kept : (m : Machine) → IsAccepted m → (number : ℕ) → breach_of number m ≡ None
kept m accepted number = each_is_kept number (breaches m) accepted

-- a rule that isn't broken holds
pub holds_where_kept : (index : ℕ) (holds : Bool) → only_at index holds ≡ None → holds ≡ true
holds_where_kept index true none = refl
holds_where_kept index false none = absurd (cc)

-- each element of a list that a rule speaks of passes its test
pub each_kept : {A : Type 0} (m : Machine) → IsAccepted m → (number : ℕ) (test : A → Bool) (elements : List A)
    → breach_of number m ≡ first_failing test elements → list_all test elements ≡ true
each_kept m accepted number test elements is = all_pass test elements (sym is ∙ kept m accepted number)

-- the list of an index of the rule on their lengths has at most so many elements
pub few_at : (m : Machine) → IsAccepted m → (index : ℕ) → (get_or (counts m) index (0, 0)).0 ≤ (get_or (counts m) index (0, 0)).1
few_at m accepted index = within m index (kept m accepted 2)

-- the texts of the part at a place
pub texts_at : (m : Machine) → IsAccepted m → (place : ℕ) → list_all is_text (get_or (text_parts m) place []) ≡ true
texts_at m accepted place =
    let all : list_all is_text (texts_of m) ≡ true = holds_where_kept 0 (list_all is_text (texts_of m)) (kept m accepted 3) in
    passing_at (list_all is_text) (text_parts m) place [] (rw (all_of_each is_text (λ texts. texts) (text_parts m)) at all) refl

own_uuids : (m : Machine) → IsAccepted m → list_all is_own_if_given (uuids_of m) ≡ true
own_uuids m accepted = each_kept m accepted 4 is_own_if_given (uuids_of m) refl

pub own_uuid : (m : Machine) → IsAccepted m → is_own_if_given m.system.uuid ≡ true
own_uuid m accepted = passing_at is_own_if_given (uuids_of m) 0 None (own_uuids m accepted) refl

-- what a part needs is there where the part is
met : (needed there : Bool) → is_met needed there ≡ true → there ≡ true → needed ≡ true
met true there is here = refl
met false true is here = absurd (cc)
met false false is here = absurd (cc)

-- a machine with a part that needs ACPI tables, at the part's index in the rule, has them
pub needs_acpi : (m : Machine) → IsAccepted m → (index : ℕ) → get_or (parts_on_acpi m) index false ≡ true → IsSome m.acpi
needs_acpi m accepted index there =
    let all = each_kept m accepted 13 (is_met (is_some m.acpi)) (parts_on_acpi m) refl in
    met (is_some m.acpi) (get_or (parts_on_acpi m) index false) (passing_at (is_met (is_some m.acpi)) (parts_on_acpi m) index false all refl) there

pub power_needs_acpi : (m : Machine) → IsAccepted m → IsSome m.power → IsSome m.acpi
power_needs_acpi m accepted some = needs_acpi m accepted 0 some

pub hpet_needs_acpi : (m : Machine) → IsAccepted m → IsSome m.hpet → IsSome m.acpi
hpet_needs_acpi m accepted some = needs_acpi m accepted 1 some

pub apic_needs_acpi : (m : Machine) → IsAccepted m → IsSome m.apic → IsSome m.acpi
apic_needs_acpi m accepted some = needs_acpi m accepted 2 some

pub numa_needs_acpi : (m : Machine) → IsAccepted m → IsSome m.numa → IsSome m.acpi
numa_needs_acpi m accepted some = needs_acpi m accepted 3 some

-- a machine with an id of its generation has power management
pub generation_needs_power : (m : Machine) → IsAccepted m → IsSome m.generation → IsSome m.power
generation_needs_power m accepted some =
    let all = each_kept m accepted 14 (is_met (is_some m.power)) (parts_on_power m) refl in
    met (is_some m.power) (is_some m.generation) (passing_at (is_met (is_some m.power)) (parts_on_power m) 2 false all refl) some

-- the nodes of processors and ranges are there
pub nodes_are_there : (m : Machine) → IsAccepted m → list_all (is_node (node_count m.numa)) (nodes_of m) ≡ true
nodes_are_there m accepted = each_kept m accepted 24 (is_node (node_count m.numa)) (nodes_of m) refl

pub lawful_numa : (m : Machine) → IsAccepted m → option_map_or is_lawful_numa m.numa true ≡ true
lawful_numa m accepted = holds_where_kept 0 (option_map_or is_lawful_numa m.numa true) (kept m accepted 23)

-- where a range ends that begins below 4 GiB, and those behind it are joined
record IsJoined (r : MemRange) (top : ℕ) (others : List MemRange) : Type 0 where
  pub ends : is_low r ≡ true → end_of r ≤ top
  pub from : ℕ
  pub joined : are_joined from top others ≡ true

joined_at : (low : Bool) (from top : ℕ) (r : MemRange) (others : List MemRange) → is_low r ≡ low
    → are_joined from top (cond low (r ∷ others) others) ≡ true → IsJoined r top others
joined_at true from top r others is joined =
    let parts = and_parts (r.base_mib == from) (are_joined (end_of r) top others) joined in
    record { ends = λ low. joined_up (end_of r) top others parts.1; from = end_of r; joined = parts.1 }
joined_at false from top r others is joined = record { ends = λ low. absurd (cc); from = from; joined = joined }

range_fits : (r : MemRange) (top : ℕ) → 1 ≤ r.size_mib → end_of r ≤ 2 ^ 32 → (is_low r ≡ true → end_of r ≤ top) → top ≤ 3072 → IsFittingRange r
range_fits r top some ends low few = record {
  base_mib = omega arith;
  size_mib = ⊎_elim (λ below. omega (arith, low (lt-ltb r.base_mib 4096 below))) (λ above. omega arith) (cases_lt r.base_mib 4096);
}

-- the numbers of lawful ranges of which those below 4 GiB are joined
all_fit : (end from top : ℕ) (ranges : List MemRange) → list_all is_lawful_range (zip (end ∷ map end_of ranges) ranges) ≡ true
    → are_joined from top (filter is_low ranges) ≡ true → top ≤ 3072 → AllByRecursion IsFittingRange ranges
all_fit end from top [] lawful memory few = tt
all_fit end from top (r ∷ ranges) lawful memory few =
    let parts = and_parts (is_lawful_range (end, r)) (list_all is_lawful_range (zip (map end_of (r ∷ ranges)) ranges)) lawful in
    let bounds = and_parts (nat_le 1 r.size_mib && nat_le (end_of r) (2 ^ 32)) (nat_le end r.base_mib) parts.0 in
    let sizes = and_parts (nat_le 1 r.size_mib) (nat_le (end_of r) (2 ^ 32)) bounds.0 in
    let here = joined_at (is_low r) from top r (filter is_low ranges) refl memory in (
      range_fits r top (leb-true 1 r.size_mib sizes.0) (leb-true (end_of r) (2 ^ 32) sizes.1) here.ends few,
      all_fit (end_of r) here.from top ranges parts.1 here.joined few,
    )

ranges_fit : (top : ℕ) (ranges : List MemRange) → list_all is_lawful_range (with_ends ranges) ≡ true → (is_empty ranges || is_memory top ranges) ≡ true
    → top ≤ 3072 → AllByRecursion IsFittingRange ranges
ranges_fit top [] lawful memory few = tt
ranges_fit top (r ∷ ranges) lawful memory few = all_fit 0 0 top (r ∷ ranges) lawful memory few

pub fitting_ranges : (m : Machine) → IsAccepted m → AllByRecursion IsFittingRange m.ranges
fitting_ranges m accepted =
    let top = holds_where_kept 0 (nat_le 64 m.top_mib && nat_le m.top_mib 3072) (kept m accepted 1) in
    ranges_fit m.top_mib m.ranges (each_kept m accepted 10 is_lawful_range (with_ends m.ranges) refl)
    (holds_where_kept 0 (is_empty m.ranges || is_memory m.top_mib m.ranges) (kept m accepted 11))
    (leb-true m.top_mib 3072 (and_parts (nat_le 64 m.top_mib) (nat_le m.top_mib 3072) top).1)

-- the ends of lawful ranges
pub lawful_ends : (from : ℕ) (ranges : List MemRange) → list_all is_lawful_range (zip (from ∷ map end_of ranges) ranges) ≡ true
    → AllByRecursion (λ (r : MemRange). end_of r ≤ 2 ^ 32) ranges
lawful_ends from [] lawful = tt
lawful_ends from (r ∷ ranges) lawful =
    let parts = and_parts (is_lawful_range (from, r)) (list_all is_lawful_range (zip (map end_of (r ∷ ranges)) ranges)) lawful in
    let bounds = and_parts (nat_le 1 r.size_mib && nat_le (end_of r) (2 ^ 32)) (nat_le from r.base_mib) parts.0 in (
      leb-true (end_of r) (2 ^ 32) (and_parts (nat_le 1 r.size_mib) (nat_le (end_of r) (2 ^ 32)) bounds.0).1,
      lawful_ends (end_of r) ranges parts.1,
    )
