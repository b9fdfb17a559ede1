-- The parts of a machine are got back from its MADT: each list from the entries of its kind.
use Rattle.std.proofs.Common.{◌≡◌, ℕ, ◌+◌, ◌==◌, nat_le, ◌&&◌, Bool, true, false, List, [], ◌∷◌, ◌++◌, map, if◌then◌else◌}
use Rattle.std.proofs.Common.{Option, Some, None, arith, refl, ap, sym, ◌∙◌, append_assoc, append-nil}
use Rattle.std.proofs.lemmas.Bool.{leb-true}
use Rattle.std.proofs.lemmas.Bool.Decides.{nat_tests}
use Rattle.std.specs.List.{filter_map, cons_option, enumerate_from}
use Rattle.machine_desc.specs.declared.machine.Machine.{Machine}
use Rattle.machine_desc.specs.declared.machine.Acpi.{Acpi}
use Rattle.machine_desc.specs.declared.acpi_parts.Apic.{Apic}
use Rattle.machine_desc.specs.declared.acpi_parts.Cpu.{Cpu}
use Rattle.machine_desc.specs.declared.acpi_parts.Nmi.{Nmi}
use Rattle.acpi_records.specs.declared.madt_entry.LocalApicEntry.{LocalApicEntry}
use Rattle.acpi_records.specs.declared.madt_entry.LocalNmiEntry.{LocalNmiEntry}
use Rattle.acpi_records.specs.declared.madt_entry.X2ApicEntry.{X2ApicEntry}
use Rattle.acpi_records.specs.declared.madt_entry.X2ApicNmiEntry.{X2ApicNmiEntry}
use Rattle.acpi_records.specs.declared.madt_entry.MadtEntry.{MadtEntry}
use Rattle.acpi_records.specs.declared.madt_entry.MadtEntry.TheVariants.{LocalApic, LocalNmi, X2Apic, X2ApicNmi}
use Rattle.acpi_model.specs.MachineMadt.{cpu_flags, cpu_entry, cpu_entries, io_apic_entry, override_entry, nmi_entry_for, nmi_entry, entries_of}
use Rattle.acpi_model.specs.MachineMadt.{madt_of_machine}
use Rattle.acpi_model.specs.MachineMadt.{apic_in, cpu_in, io_apic_in, override_in, nmi_in, cpus_in, io_apics_in, overrides_in, nmis_in, without_node}

-- the entries that parts have are those that tell the parts
all_back : {X Part : Type 0} (part_in : MadtEntry → Option Part) (entry : X → MadtEntry) (back : X → Part)
    → ((x : X) → part_in (entry x) ≡ Some (back x)) → (xs : List X) (more : List MadtEntry)
    → filter_map part_in (map entry xs ++ more) ≡ map back xs ++ filter_map part_in more
all_back part_in entry back is [] more = refl
all_back part_in entry back is (x ∷ xs) more =
    ap (λ part. cons_option part (filter_map part_in (map entry xs ++ more))) (is x) ∙ ap (λ parts. back x ∷ parts) (all_back part_in entry back is xs more)

-- and the entries of other parts tell none
none_back : {X Part : Type 0} (part_in : MadtEntry → Option Part) (entry : X → MadtEntry) → ((x : X) → part_in (entry x) ≡ None)
    → (xs : List X) (more : List MadtEntry) → filter_map part_in (map entry xs ++ more) ≡ filter_map part_in more
none_back part_in entry none [] more = refl
none_back part_in entry none (x ∷ xs) more =
    ap (λ part. cons_option part (filter_map part_in (map entry xs ++ more))) (none x) ∙ none_back part_in entry none xs more

-- a truth is told by 1
flag_back : (is : Bool) → ((if is then 1 else 0) == 1) ≡ is
flag_back true = refl
flag_back false = refl

apic_from : ℕ → Bool → Apic
apic_from local legacy = record { local = local; legacy = legacy }

pub apic_back : (m : Machine) (acpi : Acpi) (apic : Apic) → apic_in (madt_of_machine m acpi apic) ≡ apic
unfolding apic_from
apic_back m acpi apic = ap (apic_from apic.local) (flag_back apic.legacy)

cpu_from : ℕ → Bool → Cpu
cpu_from apic enabled = record { apic = apic; node = 0; enabled = enabled }

cpu_back : (c : ℕ × Cpu) → cpu_in (cpu_entry c) ≡ Some (without_node c.1)
unfolding cpu_from
cpu_back c = either (nat_le c.0 254 && nat_le c.1.apic 254)
  where
    enabled : Some (cpu_from c.1.apic (cpu_flags c.1 == 1)) ≡ Some (without_node c.1)
    enabled = ap (λ is. Some (cpu_from c.1.apic is)) (flag_back c.1.enabled)

    either : (is : Bool) → cpu_in (if is then LocalApic (record { uid = c.0; apic = c.1.apic; flags = cpu_flags c.1 })
        else X2Apic (record { apic = c.1.apic; flags = cpu_flags c.1; uid = c.0 })) ≡ Some (without_node c.1)
    either true = enabled
    either false = enabled

nmi_from : Option ℕ → ℕ → ℕ → Nmi
nmi_from cpu flags lint = record { cpu = cpu; flags = flags; lint = lint }

nmi_for : (cpu : Option ℕ) (flags lint : ℕ) → nmi_in (nmi_entry_for cpu flags lint) ≡ Some (nmi_from cpu flags lint)
unfolding nmi_from
nmi_for None flags lint = refl
nmi_for (Some cpu) flags lint = either (nat_le cpu 254) refl
  where
    either : (is : Bool) → nat_le cpu 254 ≡ is
        → nmi_in (if is then LocalNmi (record { uid = cpu; flags = flags; lint = lint }) else X2ApicNmi (record { flags = flags; uid = cpu; lint = lint }))
        ≡ Some (nmi_from (Some cpu) flags lint)
    either true local =
        let few = leb-true cpu 254 local in
        let one : (cpu == 0xFF) ≡ false = grind (arith, nat_tests) in
        ap (λ all. Some (nmi_from (if all then None else Some cpu) flags lint)) one
    either false local = refl

nmi_back : (n : Nmi) → nmi_in (nmi_entry n) ≡ Some n
unfolding nmi_from
nmi_back n = nmi_for n.cpu n.flags n.lint

-- no processor's entry, and no NMI's, tells anything else
no_cpu : {Part : Type 0} (part_in : MadtEntry → Option Part) → ((e : LocalApicEntry) → part_in (LocalApic e) ≡ None)
    → ((e : X2ApicEntry) → part_in (X2Apic e) ≡ None) → (c : ℕ × Cpu) → part_in (cpu_entry c) ≡ None
no_cpu part_in local x2 c = either (nat_le c.0 254 && nat_le c.1.apic 254)
  where
    either : (is : Bool) → part_in (if is then LocalApic (record { uid = c.0; apic = c.1.apic; flags = cpu_flags c.1 })
        else X2Apic (record { apic = c.1.apic; flags = cpu_flags c.1; uid = c.0 })) ≡ None
    either true = local (record { uid = c.0; apic = c.1.apic; flags = cpu_flags c.1 })
    either false = x2 (record { apic = c.1.apic; flags = cpu_flags c.1; uid = c.0 })

no_nmi : {Part : Type 0} (part_in : MadtEntry → Option Part) → ((e : LocalNmiEntry) → part_in (LocalNmi e) ≡ None)
    → ((e : X2ApicNmiEntry) → part_in (X2ApicNmi e) ≡ None) → (n : Nmi) → part_in (nmi_entry n) ≡ None
no_nmi part_in local x2 n = by_cpu n.cpu
  where
    by_cpu : (cpu : Option ℕ) → part_in (nmi_entry_for cpu n.flags n.lint) ≡ None
    by_cpu None = local (record { uid = 0xFF; flags = n.flags; lint = n.lint })
    by_cpu (Some cpu) = either (nat_le cpu 254)
      where
        either : (is : Bool) → part_in (if is then LocalNmi (record { uid = cpu; flags = n.flags; lint = n.lint })
            else X2ApicNmi (record { flags = n.flags; uid = cpu; lint = n.lint })) ≡ None
        either true = local (record { uid = cpu; flags = n.flags; lint = n.lint })
        either false = x2 (record { flags = n.flags; uid = cpu; lint = n.lint })

-- the entries of a machine, list by list
in_turn : (m : Machine)
    → entries_of m ≡ cpu_entries m.cpus ++ (map io_apic_entry m.io_apics ++ (map override_entry m.overrides ++ (map nmi_entry m.nmis ++ [])))
in_turn m =
    let cpus : List MadtEntry = cpu_entries m.cpus in
    let io_apics : List MadtEntry = map io_apic_entry m.io_apics in
    let overrides : List MadtEntry = map override_entry m.overrides in
    let nmis : List MadtEntry = map nmi_entry m.nmis in
    ap (λ last. cpus ++ io_apics ++ overrides ++ last) (sym (append-nil nmis)) ∙ append_assoc (cpus ++ io_apics) overrides (nmis ++ [])
    ∙ append_assoc cpus io_apics (overrides ++ (nmis ++ []))

numbered_back : (position : ℕ) (cpus : List Cpu) → map (λ (c : ℕ × Cpu). without_node c.1) (enumerate_from position cpus) ≡ map without_node cpus
numbered_back position [] = refl
numbered_back position (c ∷ cpus) = ap (λ those. without_node c ∷ those) (numbered_back (position + 1) cpus)

-- a list of which nothing is changed
map_same : {X : Type 0} (xs : List X) → map (λ x. x) xs ≡ xs
map_same [] = refl
map_same (x ∷ xs) = ap (λ more. x ∷ more) (map_same xs)

module _ (m : Machine) (acpi : Acpi) (apic : Apic) where
  overrides_and_nmis : List MadtEntry
  overrides_and_nmis = map override_entry m.overrides ++ (map nmi_entry m.nmis ++ [])

  pub cpus_back : cpus_in (madt_of_machine m acpi apic) ≡ map without_node m.cpus
  unfolding overrides_and_nmis
  cpus_back =
      let those : List Cpu = map (λ (c : ℕ × Cpu). without_node c.1) (enumerate_from 0 m.cpus) in
      ap (filter_map cpu_in) (in_turn m)
      ∙ all_back cpu_in cpu_entry (λ c. without_node c.1) cpu_back (enumerate_from 0 m.cpus) (map io_apic_entry m.io_apics ++ overrides_and_nmis)
      ∙ ap (λ more. those ++ more) (none_back cpu_in io_apic_entry (λ a. refl) m.io_apics overrides_and_nmis
      ∙ none_back cpu_in override_entry (λ o. refl) m.overrides (map nmi_entry m.nmis ++ [])
      ∙ none_back cpu_in nmi_entry (no_nmi cpu_in (λ e. refl) (λ e. refl)) m.nmis [])
      ∙ append-nil those ∙ numbered_back 0 m.cpus

  pub io_apics_back : io_apics_in (madt_of_machine m acpi apic) ≡ m.io_apics
  unfolding overrides_and_nmis
  io_apics_back =
      ap (filter_map io_apic_in) (in_turn m)
      ∙ none_back io_apic_in cpu_entry (no_cpu io_apic_in (λ e. refl) (λ e. refl)) (enumerate_from 0 m.cpus)
      (map io_apic_entry m.io_apics ++ overrides_and_nmis)
      ∙ all_back io_apic_in io_apic_entry (λ a. a) (λ a. refl) m.io_apics overrides_and_nmis
      ∙ ap (λ more. map (λ a. a) m.io_apics ++ more) (none_back io_apic_in override_entry (λ o. refl) m.overrides (map nmi_entry m.nmis ++ [])
      ∙ none_back io_apic_in nmi_entry (no_nmi io_apic_in (λ e. refl) (λ e. refl)) m.nmis [])
      ∙ append-nil (map (λ a. a) m.io_apics) ∙ map_same m.io_apics

  pub overrides_back : overrides_in (madt_of_machine m acpi apic) ≡ m.overrides
  unfolding overrides_and_nmis
  overrides_back =
      ap (filter_map override_in) (in_turn m)
      ∙ none_back override_in cpu_entry (no_cpu override_in (λ e. refl) (λ e. refl)) (enumerate_from 0 m.cpus)
      (map io_apic_entry m.io_apics ++ overrides_and_nmis)
      ∙ none_back override_in io_apic_entry (λ a. refl) m.io_apics overrides_and_nmis
      ∙ all_back override_in override_entry (λ o. o) (λ o. refl) m.overrides (map nmi_entry m.nmis ++ [])
      ∙ ap (λ more. map (λ o. o) m.overrides ++ more) (none_back override_in nmi_entry (no_nmi override_in (λ e. refl) (λ e. refl)) m.nmis [])
      ∙ append-nil (map (λ o. o) m.overrides) ∙ map_same m.overrides

  pub nmis_back : nmis_in (madt_of_machine m acpi apic) ≡ m.nmis
  unfolding overrides_and_nmis
  nmis_back =
      ap (filter_map nmi_in) (in_turn m)
      ∙ none_back nmi_in cpu_entry (no_cpu nmi_in (λ e. refl) (λ e. refl)) (enumerate_from 0 m.cpus) (map io_apic_entry m.io_apics ++ overrides_and_nmis)
      ∙ none_back nmi_in io_apic_entry (λ a. refl) m.io_apics overrides_and_nmis
      ∙ none_back nmi_in override_entry (λ o. refl) m.overrides (map nmi_entry m.nmis ++ [])
      ∙ all_back nmi_in nmi_entry (λ n. n) nmi_back m.nmis [] ∙ append-nil (map (λ n. n) m.nmis) ∙ map_same m.nmis
