-- The SRAT of a machine: its entries can stand in a table, are few and fit their rows, and the nodes are got back from them.
use Rattle.std.proofs.Common.{◌≡◌, ℕ, ◌+◌, ◌*◌, ◌<◌, ◌≤◌, ◌^◌, Bool, true, false, List, [], ◌∷◌, length, map, nat_le, nat_lt, cond}
use Rattle.std.proofs.Common.{if◌then◌else◌, arith, refl, ap, ◌∙◌}
use Rattle.std.proofs.lemmas.Bool.{leb-true, lt-ltb}
use Rattle.std.specs.List.{AllByRecursion}
use Rattle.vt_layout.specs.declared.row.Row.{Row}
use Rattle.vt_layout.specs.Rows.{size, IsRow}
use Rattle.vt_layout.specs.Entries.{entry_rows, entries_rows}
use Rattle.vt_layout.proofs.Sizes.{size-append}
use Rattle.machine_desc.specs.declared.machine.Machine.{Machine}
use Rattle.machine_desc.specs.declared.machine.Acpi.{Acpi}
use Rattle.machine_desc.specs.declared.acpi_parts.Cpu.{Cpu}
use Rattle.machine_desc.specs.declared.smbios_parts.MemRange.{MemRange}
use Rattle.machine_desc.specs.Fields.{IsFittingCpu}
use Rattle.machine_desc.specs.Rules.{apic_id}
use Rattle.acpi_records.specs.declared.srat_entry.SratEntry.{SratEntry}
use Rattle.acpi_records.specs.declared.srat_entry.SratEntry.TheVariants.{Apic, X2Apic}
use Rattle.acpi_records.specs.SratEntries.{srat_entry_of, IsSratEntry, IsFittingSratEntry}
use Rattle.acpi_records.proofs.EntryLists.{list_rows}
use Rattle.acpi_records.proofs.EachSratEntry.{srat_entry_fits}
use Rattle.acpi_model.specs.Kinds.{rows_behind}
use Rattle.acpi_model.specs.SratKind.{srat_layout}
use Rattle.acpi_model.specs.MachineSrat.{cpu_affinity, range_affinity, affinities, srat_of_machine}
use Rattle.acpi_model.specs.MachineSrat.{apic_node, x2apic_node, cpu_node, range_node, nodes_told, cpu_nodes, range_nodes}

-- what holds of both kinds of a processor's entry holds of the one that it has
either_kind : (P : SratEntry → Type 0) (cpu : Cpu) → (cpu.apic ≤ 254 → P (Apic (record { node = cpu.node; apic = cpu.apic; flags = 1 })))
    → P (X2Apic (record { node = cpu.node; apic = cpu.apic; flags = 1 })) → P (cpu_affinity cpu)
either_kind P cpu short long = at (nat_le cpu.apic 254) refl
  where
    at : (is : Bool) → nat_le cpu.apic 254 ≡ is
        → P (if is then Apic (record { node = cpu.node; apic = cpu.apic; flags = 1 }) else X2Apic (record { node = cpu.node; apic = cpu.apic; flags = 1 }))
    at true is = short (leb-true cpu.apic 254 is)
    at false is = long

-- the rows of entries
abbrev rows_of : List SratEntry → List Row
rows_of entries = entries_rows (map srat_entry_of entries)

-- each of them can stand in a table
pub affinities_stand : (cpus : List Cpu) (ranges : List MemRange) → AllByRecursion IsSratEntry (affinities cpus ranges)
affinities_stand (cpu ∷ cpus) ranges = (either_kind IsSratEntry cpu (λ short. tt) tt, affinities_stand cpus ranges)
affinities_stand [] (range ∷ ranges) = (tt, affinities_stand [] ranges)
affinities_stand [] [] = tt

-- a processor's has at most 24 bytes, and a range's 40
size_cpu : (cpu : Cpu) → size (entry_rows (srat_entry_of (cpu_affinity cpu))) ≤ 24
size_cpu cpu = either_kind (λ entry. size (entry_rows (srat_entry_of entry)) ≤ 24) cpu (λ short. omega arith) (omega arith)

pub size_affinities : (cpus : List Cpu) (ranges : List MemRange) → size (rows_of (affinities cpus ranges)) ≤ 24 * length cpus + 40 * length ranges
size_affinities (cpu ∷ cpus) ranges =
    omega (arith, size_cpu cpu, size_affinities cpus ranges, size-append (entry_rows (srat_entry_of (cpu_affinity cpu))) (rows_of (affinities cpus ranges)))
size_affinities [] (range ∷ ranges) =
    omega (arith, size_affinities [] ranges, size-append (entry_rows (srat_entry_of (range_affinity range))) (rows_of (affinities [] ranges)))
size_affinities [] [] = omega arith

-- a range whose numbers fit their fields
pub record FitsRange (range : MemRange) : Type 0 where
  pub base_mib : range.base_mib < 2 ^ 32
  pub size_mib : range.size_mib < 2 ^ 32
  pub node : range.node < 2 ^ 8

cpu_entry_fits : (cpu : Cpu) → IsFittingCpu cpu → IsFittingSratEntry (cpu_affinity cpu)
cpu_entry_fits cpu fit =
    either_kind IsFittingSratEntry cpu (λ short. (omega (arith, fit.node), omega (arith, short), omega arith))
    (omega (arith, fit.node), fit.apic, omega arith)

affinities_fit : (cpus : List Cpu) (ranges : List MemRange) → AllByRecursion IsFittingCpu cpus → AllByRecursion FitsRange ranges
    → AllByRecursion IsFittingSratEntry (affinities cpus ranges)
affinities_fit (cpu ∷ cpus) ranges fit fits = (cpu_entry_fits cpu fit.0, affinities_fit cpus ranges fit.1 fits)
affinities_fit [] (range ∷ ranges) fit fits = (
  (omega (arith, fits.0.node), omega (arith, fits.0.base_mib), omega (arith, fits.0.size_mib), omega arith),
  affinities_fit [] ranges fit fits.1,
)
affinities_fit [] [] fit fits = tt

pub srat_rows_fit : (m : Machine) (acpi : Acpi) → AllByRecursion IsFittingCpu m.cpus → AllByRecursion FitsRange m.ranges
    → AllByRecursion IsRow (rows_behind (srat_layout (srat_of_machine m acpi)))
srat_rows_fit m acpi fit fits = (
  (omega arith, omega arith),
  (
    tt,
    list_rows srat_entry_of IsRow IsFittingSratEntry srat_entry_fits (affinities m.cpus m.ranges) (affinities_fit m.cpus m.ranges fit fits),
  ),
)

-- the node of a processor, and of a range
abbrev pub node_of_cpu : Cpu → ℕ
node_of_cpu cpu = cpu.node

abbrev pub node_of_range : MemRange → ℕ
node_of_range range = range.node

-- each is read from the entry at its place
fitted-node : (n : ℕ) → n < 2 ^ 8 → (if nat_lt n (2 ^ 8) then n else 0) ≡ n
fitted-node n small = ap (λ is. cond is n 0) (lt-ltb n (2 ^ 8) small)

cpu_back : (cpu : Cpu) → cpu.node < 2 ^ 8 → cpu_node cpu.apic (cpu_affinity cpu) ≡ cpu.node
cpu_back cpu small = at (nat_le cpu.apic 254)
  where
    at : (is : Bool)
        → (if is
        then apic_node (if is then Apic (record { node = cpu.node; apic = cpu.apic; flags = 1 }) else X2Apic
        (record { node = cpu.node; apic = cpu.apic; flags = 1 }))
        else x2apic_node (if is then Apic (record { node = cpu.node; apic = cpu.apic; flags = 1 }) else X2Apic
        (record { node = cpu.node; apic = cpu.apic; flags = 1 })))
        ≡ cpu.node
    at true = fitted-node cpu.node small
    at false = fitted-node cpu.node small

pub cpu_nodes_back : (cpus : List Cpu) (ranges : List MemRange) → AllByRecursion (λ cpu. node_of_cpu cpu < 2 ^ 8) cpus
    → cpu_nodes (map apic_id cpus) (affinities cpus ranges) ≡ map node_of_cpu cpus
cpu_nodes_back [] ranges small = refl
cpu_nodes_back (cpu ∷ cpus) ranges small =
    ap (λ node. node ∷ cpu_nodes (map apic_id cpus) (affinities cpus ranges)) (cpu_back cpu small.0)
    ∙ ap (λ nodes. cpu.node ∷ nodes) (cpu_nodes_back cpus ranges small.1)

-- those of ranges stand behind the processors'
nodes_behind : (ranges : List MemRange) → AllByRecursion (λ range. node_of_range range < 2 ^ 8) ranges
    → nodes_told (λ range. range_node) ranges (map range_affinity ranges) ≡ map node_of_range ranges
nodes_behind [] small = refl
nodes_behind (range ∷ ranges) small =
    ap (λ node. node ∷ nodes_told (λ r. range_node) ranges (map range_affinity ranges)) (fitted-node range.node small.0)
    ∙ ap (λ nodes. range.node ∷ nodes) (nodes_behind ranges small.1)

pub range_nodes_back : (cpus : List Cpu) (ranges : List MemRange) → AllByRecursion (λ range. node_of_range range < 2 ^ 8) ranges
    → range_nodes (length cpus) ranges (affinities cpus ranges) ≡ map node_of_range ranges
range_nodes_back [] ranges small = nodes_behind ranges small
range_nodes_back (cpu ∷ cpus) ranges small = range_nodes_back cpus ranges small
