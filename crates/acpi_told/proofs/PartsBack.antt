-- The parts of an accepted machine are got back from its tables.
use Rattle.std.proofs.Common.{◌≡◌, ℕ, ◌^◌, cond, [], length, drop, map, Option, Some, None, IfSome, option_map, option_and_then, arith, refl}
use Rattle.std.proofs.Common.{sym, ap, ap₂, ◌∙◌}
use Rattle.std.proofs.lemmas.Bool.{lt-ltb}
use Rattle.std.proofs.lemmas.List.{drop_all}
use Rattle.machine_desc.specs.declared.machine.Machine.{Machine}
use Rattle.machine_desc.specs.declared.machine.Acpi.{Acpi}
use Rattle.machine_desc.specs.declared.machine.Hpet.{Hpet as HpetPart}
use Rattle.machine_desc.specs.declared.acpi_parts.Apic.{Apic as ApicPart}
use Rattle.machine_desc.specs.declared.acpi_parts.Numa.{Numa}
use Rattle.machine_desc.specs.declared.acpi_parts.Power.{Power}
use Rattle.machine_desc.specs.declared.device_parts.Bridge.{Bridge}
use Rattle.machine_desc.specs.declared.smbios_parts.MemRange.{MemRange}
use Rattle.machine_desc.specs.Rules.{IsAccepted, apic_id}
use Rattle.machine_desc.specs.Fields.{HasFittingFields, IsFittingHpet, IsFittingPower}
use Rattle.machine_desc.proofs.Accepted.{power_needs_acpi, hpet_needs_acpi, apic_needs_acpi, numa_needs_acpi}
use Rattle.acpi_records.specs.Hpet.{hpet_of, hpet_in}
use Rattle.acpi_model.specs.declared.acpi.Table.TheVariants.{Fadt, Madt as MadtVariant, Srat as SratVariant, Slit, Mcfg, Hpet}
use Rattle.acpi_model.specs.HpetKind.{hpet_kind, as_hpet}
use Rattle.acpi_model.specs.FadtKind.{fadt_kind, as_fadt}
use Rattle.acpi_model.specs.MadtKind.{madt_kind, as_madt}
use Rattle.acpi_model.specs.SratKind.{srat_kind, as_srat}
use Rattle.acpi_model.specs.SlitKind.{slit_kind, as_slit}
use Rattle.acpi_model.specs.McfgKind.{mcfg_kind, as_mcfg}
use Rattle.acpi_model.specs.MachineFadt.{fadt_of, fadt_links}
use Rattle.acpi_model.specs.MachineMadt.{madt_of_machine, without_node}
use Rattle.acpi_model.specs.MachineSrat.{srat_of_machine, cpu_node}
use Rattle.acpi_model.specs.MachineSlit.{slit_of_machine, numa_in}
use Rattle.acpi_model.specs.MachineMcfg.{mapped, mcfg_of_bridge}
use Rattle.acpi_model.specs.Acpi.{facs_place, dsdt_place, acpi_of}
use Rattle.acpi_model.proofs.AcceptedAcpi.{accepted_padded, no_part, no_list, no_bridge}
use Rattle.acpi_model.proofs.AcceptedNodes.{nodes_zero}
use Rattle.acpi_model.proofs.MachineFadts.{power_back}
use Rattle.acpi_model.proofs.MachineSrats.{node_of_cpu as node_of, node_of_range as range_node_of}
use Rattle.acpi_model.proofs.MachineTables.{of_part}
use Rattle.acpi_model.proofs.MadtsBack.{apic_back, cpus_back, io_apics_back, overrides_back, nmis_back}
use Rattle.acpi_model.proofs.Maker.{acpi_back}
use Rattle.acpi_model.proofs.NodesBack.{machine_cpu_nodes, machine_range_nodes, machine_numa}
use Rattle.acpi_model.proofs.EcamBack.{ecam_back}
use Rattle.dsdt_terms.specs.Dsdt.{has_clock, has_keyboard, without_ecam}
use Rattle.acpi_told.specs.Nodes.{on_nodes, on_told_nodes, node_of_cpu, cpu_on, node_of_range, range_on}
use Rattle.acpi_told.specs.Parts.{power_told, bridge_told, affinities_of, controllers_told, parts_in, affinities_in, fadt_of as fadt_among}
use Rattle.acpi_told.specs.Parts.{mcfg_of as mcfg_among}
use Rattle.acpi_told.proofs.NodesBack.{on_own, told_alike, none_told}

-- a part is got back from its record
part_back : {Part T : Type 0} (of : Part → T) (back : T → Part) (part : Option Part) → IfSome part (λ p. back (of p) ≡ p)
    → option_map back (option_map of part) ≡ part
part_back of back None is = refl
part_back of back (Some p) is = ap Some is

-- where all have what it takes
if_all : {Part : Type 0} (P Q : Part → Type 0) → ((p : Part) → P p → Q p) → (part : Option Part) → IfSome part P → IfSome part Q
if_all P Q weaker None is = tt
if_all P Q weaker (Some p) is = weaker p is

hpet_with : ℕ → HpetPart → HpetPart
hpet_with address h = record h { address = address }

hpet_back : (acpi : Acpi) (h : HpetPart) → IsFittingHpet h → hpet_in (hpet_of acpi h) ≡ h
unfolding hpet_with
hpet_back acpi h fits = ap (λ low. hpet_with (cond low h.address 0) h) (lt-ltb h.address (2 ^ 32) fits.address)

bare_range : MemRange → MemRange
bare_range r = record r { node = 0 }

-- processors on the nodes that a machine's SRAT tells, or none where it has none
cpus_on : (m : Machine) (acpi : Acpi) (numa : Option Numa) → m.numa ≡ numa → IsAccepted m
    → on_told_nodes node_of_cpu cpu_on (affinities_of (option_map (λ (n : Numa). srat_of_machine m acpi) numa)) (map without_node m.cpus) ≡ m.cpus
cpus_on m acpi None has accepted =
    ap (λ nodes. on_nodes cpu_on nodes (map without_node m.cpus)) (none_told node_of_cpu without_node node_of m.cpus (nodes_zero m accepted has).cpus)
    ∙ on_own cpu_on without_node node_of (λ c. refl) m.cpus
cpus_on m acpi (Some numa) has accepted =
    let entries = (srat_of_machine m acpi).entries in
    ap (λ nodes. on_nodes cpu_on nodes (map without_node m.cpus))
    (told_alike without_node node_of_cpu node_of_cpu (λ c e. refl) m.cpus entries
    ∙ sym (told_alike apic_id cpu_node node_of_cpu (λ c e. refl) m.cpus entries) ∙ machine_cpu_nodes m acpi accepted)
    ∙ on_own cpu_on without_node node_of (λ c. refl) m.cpus

ranges_on : (m : Machine) (acpi : Acpi) (numa : Option Numa) → m.numa ≡ numa → IsAccepted m
    → on_told_nodes node_of_range range_on (drop (length m.cpus) (affinities_of (option_map (λ (n : Numa). srat_of_machine m acpi) numa)))
    (map bare_range m.ranges) ≡ m.ranges
unfolding bare_range
ranges_on m acpi None has accepted =
    ap (λ entries. on_told_nodes node_of_range range_on entries (map bare_range m.ranges)) (none_left (length m.cpus))
    ∙ ap (λ nodes. on_nodes range_on nodes (map bare_range m.ranges))
    (none_told node_of_range bare_range range_node_of m.ranges (nodes_zero m accepted has).ranges)
    ∙ on_own range_on bare_range range_node_of (λ r. refl) m.ranges
  where
    none_left : (n : ℕ) → drop n (affinities_of None) ≡ []
    none_left n = drop_all n [] (omega arith)
ranges_on m acpi (Some numa) has accepted =
    let entries = drop (length m.cpus) (srat_of_machine m acpi).entries in
    ap (λ nodes. on_nodes range_on nodes (map bare_range m.ranges))
    (told_alike bare_range node_of_range node_of_range (λ r e. refl) m.ranges entries ∙ machine_range_nodes m acpi accepted)
    ∙ on_own range_on bare_range range_node_of (λ r. refl) m.ranges

-- what a machine's MADT and its SRAT tell
controllers_back : (m : Machine) (acpi : Acpi) (apic : Option ApicPart) → m.apic ≡ apic → IsAccepted m
    → controllers_told (option_map (madt_of_machine m acpi) apic) (option_map (λ (n : Numa). srat_of_machine m acpi) m.numa)
    ≡ record { apic = m.apic; cpus = m.cpus; io_apics = m.io_apics; overrides = m.overrides; nmis = m.nmis }
controllers_back m acpi None has accepted =
    let cpus : m.cpus ≡ [] = no_list m m.cpus 0 accepted has refl in
    let told : on_told_nodes node_of_cpu cpu_on (affinities_of (option_map (λ (n : Numa). srat_of_machine m acpi) m.numa)) [] ≡ m.cpus =
    ap (λ those. on_told_nodes node_of_cpu cpu_on (affinities_of (option_map (λ (n : Numa). srat_of_machine m acpi) m.numa)) (map without_node those))
    (sym cpus)
    ∙ cpus_on m acpi m.numa refl accepted in
    rw (
      told,
      has,
      no_list m m.io_apics 1 accepted has refl,
      no_list m m.overrides 2 accepted has refl,
      no_list m m.nmis 3 accepted has refl,
    ) refl
controllers_back m acpi (Some apic) has accepted =
    let cpus = ap (on_told_nodes node_of_cpu cpu_on (affinities_of (option_map (λ (n : Numa). srat_of_machine m acpi) m.numa))) (cpus_back m acpi apic)
    ∙ cpus_on m acpi m.numa refl accepted in
    rw (cpus, has, apic_back m acpi apic, io_apics_back m acpi apic, overrides_back m acpi apic, nmis_back m acpi apic) refl

parts_at : (m : Machine) (acpi : Option Acpi) → m.acpi ≡ acpi → IsAccepted m → HasFittingFields m
    → parts_in (option_map (acpi_of m) acpi)
    ≡ record {
      acpi = m.acpi;
      hpet = m.hpet;
      controllers = record { apic = m.apic; cpus = m.cpus; io_apics = m.io_apics; overrides = m.overrides; nmis = m.nmis };
      numa = m.numa;
    }
parts_at m None has accepted fits =
    let apic = no_part m m.apic (apic_needs_acpi m accepted) has in
    rw (
      has,
      no_part m m.hpet (hpet_needs_acpi m accepted) has,
      apic,
      no_list m m.cpus 0 accepted apic refl,
      no_list m m.io_apics 1 accepted apic refl,
      no_list m m.overrides 2 accepted apic refl,
      no_list m m.nmis 3 accepted apic refl,
      no_part m m.numa (numa_needs_acpi m accepted) has,
    ) refl
parts_at m (Some acpi) has accepted fits =
    let padded = accepted_padded m acpi accepted has in
    let hpet = ap (option_map hpet_in) (of_part m acpi hpet_kind as_hpet Hpet (hpet_of acpi) (λ t. refl) m.hpet refl)
    ∙ part_back (hpet_of acpi) hpet_in m.hpet (if_all IsFittingHpet (λ h. hpet_in (hpet_of acpi h) ≡ h) (hpet_back acpi) m.hpet fits.hpet) in
    let numa = ap (option_map numa_in) (of_part m acpi slit_kind as_slit Slit (slit_of_machine acpi) (λ t. refl) m.numa refl)
    ∙ part_back (slit_of_machine acpi) numa_in m.numa (machine_numa m acpi accepted) in
    let controllers = ap₂ controllers_told (of_part m acpi madt_kind as_madt MadtVariant (madt_of_machine m acpi) (λ t. refl) m.apic refl)
    (of_part m acpi srat_kind as_srat SratVariant (λ (n : Numa). srat_of_machine m acpi) (λ t. refl) m.numa refl)
    ∙ controllers_back m acpi m.apic refl accepted in
    rw (acpi_back acpi padded.oem_id padded.oem_table_id, hpet, controllers, numa, has) refl

pub parts_back : (m : Machine) → IsAccepted m → HasFittingFields m
    → parts_in (option_map (acpi_of m) m.acpi)
    ≡ record {
      acpi = m.acpi;
      hpet = m.hpet;
      controllers = record { apic = m.apic; cpus = m.cpus; io_apics = m.io_apics; overrides = m.overrides; nmis = m.nmis };
      numa = m.numa;
    }
parts_back m = parts_at m m.acpi refl

-- the nodes of ranges
ranges_at : (m : Machine) (acpi : Option Acpi) → m.acpi ≡ acpi → IsAccepted m
    → on_told_nodes node_of_range range_on (drop (length m.cpus) (affinities_in (option_map (acpi_of m) acpi))) (map bare_range m.ranges) ≡ m.ranges
ranges_at m None has accepted =
    let acpi : Acpi = record { oem_id = []; oem_table_id = [] } in
    let numa = no_part m m.numa (numa_needs_acpi m accepted) has in
    ranges_on m acpi None numa accepted
ranges_at m (Some acpi) has accepted =
    ap (λ srat. on_told_nodes node_of_range range_on (drop (length m.cpus) (affinities_of srat)) (map bare_range m.ranges))
    (of_part m acpi srat_kind as_srat SratVariant (λ (n : Numa). srat_of_machine m acpi) (λ t. refl) m.numa refl)
    ∙ ranges_on m acpi m.numa refl accepted

pub ranges_back : (m : Machine) → IsAccepted m
    → on_told_nodes node_of_range range_on (drop (length m.cpus) (affinities_in (option_map (acpi_of m) m.acpi)))
    (map (λ (r : MemRange). record r { node = 0 }) m.ranges) ≡ m.ranges
unfolding bare_range
ranges_back m = ranges_at m m.acpi refl

-- power management, with the clock and the keyboard of the machine
keyboard_with : Power → Power → Power
keyboard_with told p = record told { keyboard = p.keyboard }

power_from : (acpi : Acpi) (power : Option Power) → IfSome power IsFittingPower
    → option_map (power_told (has_clock power) (has_keyboard power)) (option_map (fadt_of acpi) power) ≡ power
unfolding keyboard_with
power_from acpi None fits = refl
power_from acpi (Some p) fits = ap (λ told. Some (keyboard_with told p)) (power_back acpi p fits)

power_at : (m : Machine) (acpi : Option Acpi) → m.acpi ≡ acpi → IsAccepted m → HasFittingFields m
    → option_map (power_told (has_clock m.power) (has_keyboard m.power)) (option_and_then fadt_among (option_map (acpi_of m) acpi)) ≡ m.power
power_at m None has accepted fits = sym (no_part m m.power (power_needs_acpi m accepted) has)
power_at m (Some acpi) has accepted fits =
    ap (option_map (power_told (has_clock m.power) (has_keyboard m.power)))
    (of_part m acpi fadt_kind as_fadt (λ t. Fadt t (fadt_links facs_place dsdt_place)) (fadt_of acpi) (λ t. refl) m.power refl)
    ∙ power_from acpi m.power fits.power

pub machine_power : (m : Machine) → IsAccepted m → HasFittingFields m
    → option_map (power_told (has_clock m.power) (has_keyboard m.power)) (option_and_then fadt_among (option_map (acpi_of m) m.acpi)) ≡ m.power
machine_power m = power_at m m.acpi refl

-- a bridge, with the configuration space that its MCFG tells
bridge_with : ℕ → Bridge → Bridge
bridge_with ecam b = record b { ecam = ecam }

bridge_from : (acpi : Acpi) (bridge : Option Bridge)
    → option_map (bridge_told (option_map (mcfg_of_bridge acpi) (mapped bridge))) (option_map without_ecam bridge) ≡ bridge
unfolding bridge_with
bridge_from acpi None = refl
bridge_from acpi (Some b) = ap (λ ecam. Some (bridge_with ecam b)) (ecam_back acpi b)

bridge_at : (m : Machine) (acpi : Option Acpi) → m.acpi ≡ acpi → IsAccepted m
    → option_map (bridge_told (option_and_then mcfg_among (option_map (acpi_of m) acpi))) (option_map without_ecam m.bridge) ≡ m.bridge
bridge_at m None has accepted =
    let none = no_bridge m accepted (no_part m m.power (power_needs_acpi m accepted) has) in
    ap (λ bridge. option_map (bridge_told None) (option_map without_ecam bridge)) none ∙ sym none
bridge_at m (Some acpi) has accepted =
    ap (λ mcfg. option_map (bridge_told mcfg) (option_map without_ecam m.bridge))
    (of_part m acpi mcfg_kind as_mcfg Mcfg (mcfg_of_bridge acpi) (λ t. refl) (mapped m.bridge) refl)
    ∙ bridge_from acpi m.bridge

pub machine_bridge : (m : Machine) → IsAccepted m
    → option_map (bridge_told (option_and_then mcfg_among (option_map (acpi_of m) m.acpi))) (option_map without_ecam m.bridge) ≡ m.bridge
machine_bridge m = bridge_at m m.acpi refl
