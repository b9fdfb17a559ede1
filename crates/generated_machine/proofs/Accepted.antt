-- The machine of 1 to 4,096 processors keeps each rule whose lists or numbers depend on how many processors there are.
use Rattle.std.proofs.Common.{◌≡◌, ℕ, zero, suc, ◌+◌, ◌-◌, ◌*◌, ◌/◌, ◌%◌, ◌^◌, ◌<◌, ◌≤◌, Bool, true, false, not, ◌&&◌, List, [], ◌∷◌, ◌++◌, length}
use Rattle.std.proofs.Common.{map, replicate, min, Option, None, codes, decimal, nat_le, refl, ap, ◌∙◌, subst, arith}
use Rattle.std.proofs.lemmas.Bool.{and_from, le-leb, lt-ltb, ne_eqb}
use Rattle.std.proofs.lemmas.Fmt.{decimal_by_steps, length-decimal-le}
use Rattle.std.proofs.lemmas.List.{length-append, length-replicate}
use Rattle.std.proofs.lemmas.List.Folds.{list_all-append, list_all-map}
use Rattle.std.proofs.lemmas.List.FromFn.{length-map-range_with_len, get_or-range_with_len}
use Rattle.std.specs.List.{list_all, flat_map, range_with_len, AllByRecursion}
use Rattle.vt_outside.specs.Name.{is_printable}
use Rattle.machine_desc.specs.declared.acpi_parts.Cpu.{Cpu}
use Rattle.machine_desc.specs.Rules.{first_failing, first_refused, first_unmet, only_at, first_broken, breaches, IsAccepted, is_met, is_within}
use Rattle.machine_desc.specs.Rules.{counts, is_text, texts_of, socket_texts, dimm_texts, acpi_texts}
use Rattle.machine_desc.specs.Rules.{is_lawful_socket, is_lawful_dimm, is_empty, is_lawful_range, with_ends, is_lawful_cpu, apic_id, is_lawful_route}
use Rattle.machine_desc.specs.Rules.{pair_of, is_lawful_numa, is_node}
use Rattle.machine_desc.proofs.AllTexts.{all_of_each}
use Rattle.machine_desc.proofs.Passing.{passing_at, ◌⨾◌}
use Rattle.generated_machine.specs.Generated.{node_count, cpu_at, cpus, socket_at, sockets, dimm, dimms, ranges, numa, routes, generated, acpi}
use Rattle.generated_machine.proofs.Lists.{none_fails, each_passes, copies_pass}
use Rattle.generated_machine.proofs.Taken.{all_taken}

-- where no rule of a list is broken, the first broken one is none
none_broken : (rules : List (ℕ × Option ℕ)) → AllByRecursion (λ rule. rule.1 ≡ None) rules → first_broken rules ≡ None
none_broken [] kept = refl
none_broken (rule ∷ rules) kept =
    let here : rule.1 ≡ None = kept.0 in
    rw here (none_broken rules kept.1)

-- a rule that holds isn't broken
holds : (index : ℕ) (test : Bool) → test ≡ true → only_at index test ≡ None
holds index test is = rw is refl

-- how many elements lists have

few_sockets : (processors : ℕ) → processors ≤ 4096 → nat_le (length (sockets processors)) 256 ≡ true
few_sockets processors few =
    let count = (processors + 63) / 64 in
    let same : length (sockets processors) ≡ count = length-map-range_with_len (socket_at processors) 0 count in
    le-leb (length (sockets processors)) 256 (omega arith)

few_dimms : (processors : ℕ) → nat_le (length (dimms processors)) 256 ≡ true
few_dimms processors =
    let same : length (dimms processors) ≡ node_count processors = length-replicate (node_count processors) (dimm processors) in
    le-leb (length (dimms processors)) 256 (omega arith)

few_cpus : (processors : ℕ) → processors ≤ 4096 → nat_le (length (cpus processors)) 4096 ≡ true
few_cpus processors few =
    let same : length (cpus processors) ≡ processors = length-map-range_with_len (cpu_at (node_count processors)) 0 processors in
    le-leb (length (cpus processors)) 4096 (omega arith)

-- texts: digits are printable, and there are at most 64 sockets, so that a position has at most two

digits_pass : (n : ℕ) → n < 2 ^ 64 → list_all is_printable (decimal n) ≡ true
digits_pass n small =
    let digit = λ (d : ℕ). λ (below : d < 10).
    and_from (nat_le 0x20 (48 + d)) (nat_le (48 + d) 0x7E) (le-leb 0x20 (48 + d) (omega arith)) (le-leb (48 + d) 0x7E (omega arith))
    in
    decimal_by_steps (λ _ digits. list_all is_printable digits ≡ true) (λ d below. and_from (is_printable (48 + d)) true (digit d below) refl)
    (λ m digits above all. list_all-append is_printable digits ((48 + m % 10) ∷ [])
    ∙ and_from (list_all is_printable digits) (list_all is_printable ((48 + m % 10) ∷ [])) all
    (and_from (is_printable (48 + m % 10)) true (digit (m % 10) (omega arith)) refl)) n small

-- a position whose socket has a processor
position_below : (processors position : ℕ) → position < (processors + 63) / 64 → 64 * position < processors
position_below processors position below = omega arith

socket_text : (processors position : ℕ) → position < 64 → list_all is_text (socket_texts (socket_at processors position)) ≡ true
socket_text processors position below =
    let text = codes "CPU" ++ decimal position in
    let short : length (decimal position) ≤ 2 = length-decimal-le 2 position (omega arith) (omega arith) (omega arith) in
    let size : length text ≡ 3 + length (decimal position) = length-append (codes "CPU") (decimal position) in
    and_from (is_text text) true
    (and_from (nat_le (length text) 64) (list_all is_printable text) (le-leb (length text) 64 (omega arith)) (digits_pass position (omega arith))) refl

socket_texts_pass : (processors : ℕ) → processors ≤ 4096 → list_all is_text (flat_map socket_texts (sockets processors)) ≡ true
socket_texts_pass processors few =
    all_of_each is_text socket_texts (sockets processors)
    ∙ (each_passes (λ s. list_all is_text (socket_texts s)) (socket_at processors) 0 ((processors + 63) / 64)
    (λ position behind below. socket_text processors position (omega arith)))

dimm_texts_pass : (processors : ℕ) → list_all is_text (flat_map dimm_texts (dimms processors)) ≡ true
dimm_texts_pass processors =
    all_of_each is_text dimm_texts (dimms processors)
    ∙ (copies_pass (λ d. list_all is_text (dimm_texts d)) (node_count processors) (dimm processors) refl)

-- sockets and modules

lawful_socket : (processors position : ℕ) → position < (processors + 63) / 64 → is_lawful_socket (socket_at processors position) ≡ true
lawful_socket processors position below =
    let cores = min 64 (processors - 64 * position) in
    let some : 64 * position < processors = position_below processors position below in
    and_from (nat_le 1 cores && nat_le cores cores) (nat_le cores 65534)
    (and_from (nat_le 1 cores) (nat_le cores cores) (le-leb 1 cores (omega arith)) (le-leb cores cores (omega arith))) (le-leb cores 65534 (omega arith))

lawful_sockets : (processors : ℕ) → first_failing is_lawful_socket (sockets processors) ≡ None
lawful_sockets processors =
    none_fails is_lawful_socket (sockets processors)
    (each_passes is_lawful_socket (socket_at processors) 0 ((processors + 63) / 64)
    (λ position behind below. lawful_socket processors position (omega arith)))

lawful_dimms : (processors : ℕ) → 1 ≤ processors → processors ≤ 4096 → first_failing is_lawful_dimm (dimms processors) ≡ None
lawful_dimms processors some few =
    let size = 1024 * processors in
    none_fails is_lawful_dimm (dimms processors)
    (copies_pass is_lawful_dimm (node_count processors) (dimm processors)
    (and_from (nat_le 1 size && nat_le size 16777216) true
    (and_from (nat_le 1 size) (nat_le size 16777216) (le-leb 1 size (omega arith)) (le-leb size 16777216 (omega arith))) refl))

copies_are_some : {A : Type 0} (count : ℕ) (x : A) → 1 ≤ count → is_empty (replicate count x) ≡ false
copies_are_some zero x some = absurd (omega arith)
copies_are_some (suc count) x some = refl

some_dimms : (processors : ℕ) → 1 ≤ processors → is_empty (dimms processors) ≡ false
some_dimms processors some = copies_are_some (node_count processors) (dimm processors) (omega arith)

lawful_ranges : (processors : ℕ) → 1 ≤ processors → processors ≤ 4096 → first_failing is_lawful_range (with_ends (ranges processors)) ≡ None
lawful_ranges processors some few =
    let size = 1024 * processors in
    none_fails is_lawful_range (with_ends (ranges processors))
    (and_from (nat_le 1 size && nat_le (4096 + size) (2 ^ 32) && true) true
    (and_from (nat_le 1 size && nat_le (4096 + size) (2 ^ 32)) true
    (and_from (nat_le 1 size) (nat_le (4096 + size) (2 ^ 32)) (le-leb 1 size (omega arith)) (le-leb (4096 + size) (2 ^ 32) (omega arith))) refl) refl)

-- processors

own_apics : (processors : ℕ) → processors ≤ 4096 → first_refused is_lawful_cpu apic_id (cpus processors) ≡ None
own_apics processors few =
    all_taken is_lawful_cpu apic_id (cpu_at (node_count processors)) processors
    (λ i below. ap not (ne_eqb i 0xFFFFFFFF (λ same. absurd (omega arith))))
    (λ i j before below. ne_eqb j i (λ same. absurd (omega arith)))

-- what needs interrupt controllers has them
is_met_here : (there : Bool) → is_met true there ≡ true
is_met_here true = refl
is_met_here false = refl

lists_met : (processors : ℕ) → first_unmet true (not (is_empty (cpus processors)) ∷ true ∷ false ∷ false ∷ []) ≡ None
lists_met processors =
    none_fails (is_met true) (not (is_empty (cpus processors)) ∷ true ∷ false ∷ false ∷ [])
    (and_from (is_met true (not (is_empty (cpus processors)))) true (is_met_here (not (is_empty (cpus processors)))) refl)

-- nodes, of which there are 1 to 4

lawful_numas : list_all (λ nodes. is_lawful_numa (numa nodes)) (range_with_len 1 4) ≡ true
lawful_numas = refl

lawful_nodes : (processors : ℕ) → 1 ≤ processors → is_lawful_numa (numa (node_count processors)) ≡ true
lawful_nodes processors some =
    let nodes = node_count processors in
    let counts = range_with_len 1 4 in
    let last : 1 + (nodes - 1) ≡ nodes = omega arith in
    subst (λ n. is_lawful_numa (numa n) ≡ true) (get_or-range_with_len 1 4 (nodes - 1) 1 (omega arith) ∙ last)
    (passing_at (λ n. is_lawful_numa (numa n)) counts (nodes - 1) 1 lawful_numas refl)

nodes_are_there : (processors : ℕ) → 1 ≤ processors
    → first_failing (is_node (node_count processors)) (map (λ c. c.node) (cpus processors) ++ map (λ r. r.node) (ranges processors)) ≡ None
nodes_are_there processors some =
    let nodes = node_count processors in
    let test = is_node nodes in
    let on_cpus = map (λ (c : Cpu). c.node) (cpus processors) in
    let on_ranges = 0 ∷ (nodes - 1) ∷ [] in
    none_fails test (on_cpus ++ on_ranges)
    (list_all-append test on_cpus on_ranges
    ∙ and_from (list_all test on_cpus) (list_all test on_ranges)
    (list_all-map test (λ (c : Cpu). c.node) (cpus processors)
    ∙ each_passes (λ (c : Cpu). test c.node) (cpu_at nodes) 0 processors (λ i behind below. lt-ltb (i % nodes) nodes (omega arith)))
    (and_from (test 0) (test (nodes - 1) && true) (lt-ltb 0 nodes (omega arith))
    (and_from (test (nodes - 1)) true (lt-ltb (nodes - 1) nodes (omega arith)) refl)))

-- routes, which are the same of each machine
own_routes : first_refused is_lawful_route pair_of routes ≡ None
own_routes = refl

-- the machine as a whole

short_lists : (processors : ℕ) → processors ≤ 4096 → first_failing is_within (counts (generated processors)) ≡ None
unfolding generated
short_lists processors few =
    let sockets_few = few_sockets processors few in
    let dimms_few = few_dimms processors in
    let cpus_few = few_cpus processors few in
    none_fails is_within (counts (generated processors)) (rw (sockets_few, dimms_few, cpus_few) refl)

lawful_texts : (processors : ℕ) → processors ≤ 4096 → list_all is_text (texts_of (generated processors)) ≡ true
unfolding generated
lawful_texts processors few =
    let on_sockets = flat_map socket_texts (sockets processors) in
    let on_dimms = flat_map dimm_texts (dimms processors) in
    let others = acpi_texts acpi ++ [] in
    list_all-append is_text on_sockets (on_dimms ++ others)
    ∙ and_from (list_all is_text on_sockets) (list_all is_text (on_dimms ++ others)) (socket_texts_pass processors few)
    (list_all-append is_text on_dimms others
    ∙ and_from (list_all is_text on_dimms) (list_all is_text others) (dimm_texts_pass processors) refl)

-- rule after rule, in their order: those that speak of nothing that depends on how many processors there are compute
pub accepted : (processors : ℕ) → 1 ≤ processors → processors ≤ 4096 → IsAccepted (generated processors)
unfolding generated
accepted processors some few =
    let m = generated processors in
    none_broken (breaches m)
    (refl
    ⨾ short_lists processors few
    ⨾ holds 0 (list_all is_text (texts_of m)) (lawful_texts processors few)
    ⨾ refl
    ⨾ refl
    ⨾ refl
    ⨾ lawful_sockets processors
    ⨾ lawful_dimms processors some few
    ⨾ (let some_are = some_dimms processors some in rw some_are refl)
    ⨾ lawful_ranges processors some few
    ⨾ refl
    ⨾ refl
    ⨾ refl
    ⨾ refl
    ⨾ lists_met processors
    ⨾ refl
    ⨾ refl
    ⨾ refl
    ⨾ own_apics processors few
    ⨾ refl
    ⨾ refl
    ⨾ refl
    ⨾ holds 0 (is_lawful_numa (numa (node_count processors))) (lawful_nodes processors some)
    ⨾ nodes_are_there processors some
    ⨾ refl
    ⨾ refl
    ⨾ own_routes
    ⨾ refl
    ⨾ tt)
