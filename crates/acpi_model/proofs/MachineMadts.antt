-- The MADT of a machine: its entries can stand in a table, are few, and their numbers fit their rows.
use Rattle.std.proofs.Common.{◌≡◌, ℕ, ◌+◌, ◌*◌, ◌<◌, ◌≤◌, ◌^◌, nat_le, nat_lt, ◌&&◌, Bool, true, false, List, [], ◌∷◌, ◌++◌, map, length, if◌then◌else◌}
use Rattle.std.proofs.Common.{Option, Some, None, IfSome, arith, refl, length-append}
use Rattle.std.proofs.lemmas.Bool.{and_parts, leb-true}
use Rattle.std.proofs.lemmas.List.{length-map}
use Rattle.std.proofs.lemmas.List.FromFn.{length-enumerate_from}
use Rattle.std.specs.List.{list_all, enumerate_from, AllByRecursion}
use Rattle.std.specs.Option.{option_map_or}
use Rattle.vt_outside.proofs.Each.{each_true}
use Rattle.vt_bytes.proofs.Each.{each_append, each_from, each_map, each_weaker}
use Rattle.vt_layout.specs.Rows.{IsRow, size}
use Rattle.vt_layout.specs.Entries.{entry_rows, entries_rows}
use Rattle.vt_layout.proofs.Sizes.{size-append}
use Rattle.machine_desc.specs.declared.machine.Machine.{Machine}
use Rattle.machine_desc.specs.declared.machine.Acpi.{Acpi}
use Rattle.machine_desc.specs.declared.acpi_parts.Apic.{Apic}
use Rattle.machine_desc.specs.declared.acpi_parts.Cpu.{Cpu}
use Rattle.machine_desc.specs.declared.acpi_parts.Override.{Override}
use Rattle.machine_desc.specs.declared.acpi_parts.Nmi.{Nmi}
use Rattle.machine_desc.specs.Rules.{is_new, irq_of, is_lawful_override, is_lawful_nmi, IsAccepted}
use Rattle.machine_desc.specs.Fields.{IsFittingApic, IsFittingCpu, IsFittingIoApic, IsFittingOverride, IsFittingNmi, HasFittingFields}
use Rattle.machine_desc.proofs.Accepted.{each_kept, few_at}
use Rattle.acpi_records.specs.declared.madt_entry.MadtEntry.{MadtEntry}
use Rattle.acpi_records.specs.declared.madt_entry.MadtEntry.TheVariants.{LocalApic, LocalNmi, X2Apic, X2ApicNmi, Other, IoApic as IoApicVariant}
use Rattle.acpi_records.specs.declared.madt_entry.MadtEntry.TheVariants.{Override as OverrideVariant}
use Rattle.acpi_records.specs.Header.{FitsHead, body_rows}
use Rattle.acpi_records.specs.Madt.{madt_front_fields, madt_front_of}
use Rattle.acpi_records.specs.MadtEntries.{madt_entry_of, IsMadtEntry, IsFittingMadtEntry}
use Rattle.acpi_records.proofs.EntryLists.{list_rows}
use Rattle.acpi_records.proofs.EachMadtEntry.{madt_entry_fits}
use Rattle.acpi_model.specs.declared.acpi.Table.TheVariants.{Madt}
use Rattle.acpi_model.specs.Kinds.{rows_behind}
use Rattle.acpi_model.specs.MadtKind.{madt_layout}
use Rattle.acpi_model.specs.MachineMadt.{cpu_flags, cpu_entry, cpu_entries, io_apic_entry, override_entry, nmi_entry_for, nmi_entry, entries_of}
use Rattle.acpi_model.specs.MachineMadt.{apic_flags, madt_of_machine}
use Rattle.acpi_model.specs.Acpi.{IsWritable, CanBePut}
use Rattle.acpi_model.proofs.Headers.{head_fits}
use Rattle.acpi_model.proofs.Madts.{size-madt, madt_writable}

-- an entry of a known type, which has at most 16 bytes
abbrev IsKnown : MadtEntry → Type 0
IsKnown (Other kind length) = ⊥
IsKnown entry = Unit {0}

known_kept : (e : MadtEntry) → IsKnown e → IsMadtEntry e
known_kept (LocalApic e) known = tt
known_kept (IoApicVariant e) known = tt
known_kept (OverrideVariant e) known = tt
known_kept (LocalNmi e) known = tt
known_kept (X2Apic e) known = tt
known_kept (X2ApicNmi e) known = tt
known_kept (Other kind length) known = absurd known

known_size : (e : MadtEntry) → IsKnown e → size (entry_rows (madt_entry_of e)) ≤ 16
known_size (LocalApic e) known = omega arith
known_size (IoApicVariant e) known = omega arith
known_size (OverrideVariant e) known = omega arith
known_size (LocalNmi e) known = omega arith
known_size (X2Apic e) known = omega arith
known_size (X2ApicNmi e) known = omega arith
known_size (Other kind length) known = absurd known

sizes_by_count : (entries : List MadtEntry) → AllByRecursion IsKnown entries → size (entries_rows (map madt_entry_of entries)) ≤ 16 * length entries
sizes_by_count [] known = omega arith
sizes_by_count (e ∷ entries) known =
    omega (arith, size-append (entry_rows (madt_entry_of e)) (entries_rows (map madt_entry_of entries)), known_size e known.0, sizes_by_count entries known.1)

-- the entries of a machine are
cpu_known : (c : ℕ × Cpu) → IsKnown (cpu_entry c)
cpu_known c = either (nat_le c.0 254 && nat_le c.1.apic 254)
  where
    either : (is : Bool) → IsKnown (if is then LocalApic (record { uid = c.0; apic = c.1.apic; flags = cpu_flags c.1 })
        else X2Apic (record { apic = c.1.apic; flags = cpu_flags c.1; uid = c.0 }))
    either true = tt
    either false = tt

nmi_known : (cpu : Option ℕ) (flags lint : ℕ) → IsKnown (nmi_entry_for cpu flags lint)
nmi_known None flags lint = tt
nmi_known (Some cpu) flags lint = either (nat_le cpu 254)
  where
    either : (is : Bool) → IsKnown (if is then LocalNmi (record { uid = cpu; flags = flags; lint = lint })
        else X2ApicNmi (record { flags = flags; uid = cpu; lint = lint }))
    either true = tt
    either false = tt

-- what holds of all entries of a machine holds of those of each list
each_entry : (P : MadtEntry → Type 0) (m : Machine) → AllByRecursion P (cpu_entries m.cpus) → AllByRecursion P (map io_apic_entry m.io_apics)
    → AllByRecursion P (map override_entry m.overrides) → AllByRecursion P (map nmi_entry m.nmis) → AllByRecursion P (entries_of m)
each_entry P m cpus io_apics overrides nmis =
    each_append P (cpu_entries m.cpus ++ map io_apic_entry m.io_apics ++ map override_entry m.overrides) (map nmi_entry m.nmis)
    (each_append P (cpu_entries m.cpus ++ map io_apic_entry m.io_apics) (map override_entry m.overrides)
    (each_append P (cpu_entries m.cpus) (map io_apic_entry m.io_apics) cpus io_apics) overrides) nmis

entries_known : (m : Machine) → AllByRecursion IsKnown (entries_of m)
entries_known m =
    each_entry IsKnown m (each_map IsKnown cpu_entry cpu_known (enumerate_from 0 m.cpus)) (each_map IsKnown io_apic_entry (λ a. tt) m.io_apics)
    (each_map IsKnown override_entry (λ o. tt) m.overrides) (each_map IsKnown nmi_entry (λ n. nmi_known n.cpu n.flags n.lint) m.nmis)

length-entries : (m : Machine) → length (entries_of m) ≡ length m.cpus + length m.io_apics + length m.overrides + length m.nmis
length-entries m =
    let cpus : List MadtEntry = cpu_entries m.cpus in
    let io_apics : List MadtEntry = map io_apic_entry m.io_apics in
    let overrides : List MadtEntry = map override_entry m.overrides in
    let nmis : List MadtEntry = map nmi_entry m.nmis in
    omega (
      arith,
      length-append (cpus ++ io_apics ++ overrides) nmis,
      length-append (cpus ++ io_apics) overrides,
      length-append cpus io_apics,
      length-map (enumerate_from 0 m.cpus) cpu_entry,
      length-enumerate_from 0 m.cpus,
      length-map m.io_apics io_apic_entry,
      length-map m.overrides override_entry,
      length-map m.nmis nmi_entry,
    )

-- the most bytes that the MADT of an accepted machine has behind its header
pub few_madt_bytes : (m : Machine) (acpi : Acpi) (apic : Apic) → IsAccepted m → size (rows_behind (madt_layout (madt_of_machine m acpi apic))) ≤ 66312
few_madt_bytes m acpi apic accepted =
    omega (
      arith,
      size-madt (madt_of_machine m acpi apic),
      sizes_by_count (entries_of m) (entries_known m),
      length-entries m,
      few_at m accepted 5,
      few_at m accepted 6,
      few_at m accepted 7,
      few_at m accepted 8,
    )

pub madt_written : (m : Machine) (acpi : Acpi) (apic : Apic) → IsAccepted m → IsWritable (Madt (madt_of_machine m acpi apic))
madt_written m acpi apic accepted =
    let few = few_madt_bytes m acpi apic accepted in
    madt_writable (madt_of_machine m acpi apic) (each_weaker IsKnown IsMadtEntry known_kept (entries_of m) (entries_known m)) (omega (arith, few))

-- the numbers of each entry
flag_fits : (is : Bool) → (if is then 1 else 0) < 2 ^ 32
flag_fits true = omega arith
flag_fits false = omega arith

cpu_fits : (c : ℕ × Cpu) → c.0 < 2 ^ 32 → c.1.apic < 2 ^ 32 → IsFittingMadtEntry (cpu_entry c)
cpu_fits c uid apic = either (nat_le c.0 254 && nat_le c.1.apic 254) refl
  where
    either : (is : Bool) → (nat_le c.0 254 && nat_le c.1.apic 254) ≡ is
        → IsFittingMadtEntry (if is then LocalApic (record { uid = c.0; apic = c.1.apic; flags = cpu_flags c.1 })
        else X2Apic (record { apic = c.1.apic; flags = cpu_flags c.1; uid = c.0 }))
    either true local =
        let both = and_parts (nat_le c.0 254) (nat_le c.1.apic 254) local in
        let short = leb-true c.0 254 both.0 in
        let also = leb-true c.1.apic 254 both.1 in
        (omega (arith, short), omega (arith, also), flag_fits c.1.enabled)
    either false local = (apic, flag_fits c.1.enabled, uid)

cpus_fit : (position : ℕ) (cpus : List Cpu) → position + length cpus ≤ 4096 → AllByRecursion IsFittingCpu cpus
    → AllByRecursion IsFittingMadtEntry (map cpu_entry (enumerate_from position cpus))
cpus_fit position [] few fit = tt
cpus_fit position (c ∷ cpus) few fit =
    (cpu_fits (position, c) (omega (arith, few)) fit.0.apic, cpus_fit (position + 1) cpus (omega (arith, few)) fit.1)

nmi_fits : (cpu : Option ℕ) (flags lint : ℕ) → IfSome cpu (λ position. position < 2 ^ 32) → flags ≤ 15 → lint ≤ 1
    → IsFittingMadtEntry (nmi_entry_for cpu flags lint)
nmi_fits None flags lint fit few one = (omega arith, omega (arith, few), omega (arith, one))
nmi_fits (Some cpu) flags lint fit few one = either (nat_le cpu 254) refl
  where
    either : (is : Bool) → nat_le cpu 254 ≡ is
        → IsFittingMadtEntry (if is then LocalNmi (record { uid = cpu; flags = flags; lint = lint })
        else X2ApicNmi (record { flags = flags; uid = cpu; lint = lint }))
    either true local =
        let short = leb-true cpu 254 local in
        (omega (arith, short), omega (arith, few), omega (arith, one))
    either false local = (omega (arith, few), fit, omega (arith, one))

-- what holds of each element of a list gives what holds of what each of them is turned into
each_into : {X Y : Type 0} (P : X → Type 0) (Q : Y → Type 0) (f : X → Y) → ((x : X) → P x → Q (f x)) → (xs : List X) → AllByRecursion P xs
    → AllByRecursion Q (map f xs)
each_into P Q f into [] p = tt
each_into P Q f into (x ∷ xs) p = (into x p.0, each_into P Q f into xs p.1)

-- each element of a list that no rule on own numbers refuses passes its test
each_lawful : {X : Type 0} (test : X → Bool) (number : X → ℕ) (whole : List X) (place : ℕ) (xs : List X)
    → list_all (λ e. test e.1 && is_new number whole e) (enumerate_from place xs) ≡ true → AllByRecursion (λ x. test x ≡ true) xs
each_lawful test number whole place [] all = tt
each_lawful test number whole place (x ∷ xs) all =
    let both = and_parts (test x && is_new number whole (place, x)) (list_all (λ e. test e.1 && is_new number whole e) (enumerate_from (place + 1) xs)) all in
    ((and_parts (test x) (is_new number whole (place, x)) both.0).0, each_lawful test number whole (place + 1) xs both.1)

override_fits : (o : Override) → is_lawful_override o ≡ true → IsFittingOverride o → IsFittingMadtEntry (override_entry o)
override_fits o lawful fit =
    let both = and_parts (nat_le o.irq 15) (nat_le o.flags 15) lawful in
    let irq = leb-true o.irq 15 both.0 in
    let flags = leb-true o.flags 15 both.1 in
    (omega arith, omega (arith, irq), fit, omega (arith, flags))

nmi_lawful : (cpus : ℕ) (n : Nmi) → is_lawful_nmi cpus n ≡ true → IsFittingNmi n → IsFittingMadtEntry (nmi_entry n)
nmi_lawful cpus n lawful fit =
    let outer = and_parts (option_map_or (λ cpu. nat_lt cpu cpus) n.cpu true && nat_le n.flags 15) (nat_le n.lint 1) lawful in
    let inner = and_parts (option_map_or (λ cpu. nat_lt cpu cpus) n.cpu true) (nat_le n.flags 15) outer.0 in
    nmi_fits n.cpu n.flags n.lint fit (leb-true n.flags 15 inner.1) (leb-true n.lint 1 outer.1)

entries_fit : (m : Machine) → HasFittingFields m → IsAccepted m → AllByRecursion IsFittingMadtEntry (entries_of m)
entries_fit m fit accepted =
    let few = few_at m accepted 5 in
    let overrides =
    each_lawful is_lawful_override irq_of m.overrides 0 m.overrides
    (each_kept m accepted 21 (λ e. is_lawful_override e.1 && is_new irq_of m.overrides e) (enumerate_from 0 m.overrides) refl) in
    let nmis = each_true (is_lawful_nmi (length m.cpus)) m.nmis (each_kept m accepted 22 (is_lawful_nmi (length m.cpus)) m.nmis refl) in
    each_entry IsFittingMadtEntry m (cpus_fit 0 m.cpus (omega (arith, few)) fit.cpus)
    (each_into IsFittingIoApic IsFittingMadtEntry io_apic_entry (λ a fits. (fits.id, fits.address, fits.gsi)) m.io_apics fit.io_apics)
    (each_into (λ o. IsFittingMadtEntry (override_entry o)) IsFittingMadtEntry override_entry (λ o fits. fits) m.overrides
    (each_from (λ o. is_lawful_override o ≡ true) IsFittingOverride (λ o. IsFittingMadtEntry (override_entry o)) override_fits m.overrides overrides
    fit.overrides))
    (each_into (λ n. IsFittingMadtEntry (nmi_entry n)) IsFittingMadtEntry nmi_entry (λ n fits. fits) m.nmis
    (each_from (λ n. is_lawful_nmi (length m.cpus) n ≡ true) IsFittingNmi (λ n. IsFittingMadtEntry (nmi_entry n)) (nmi_lawful (length m.cpus)) m.nmis nmis
    fit.nmis))

-- so it can be put into a file
pub madt_can : (m : Machine) (acpi : Acpi) → FitsHead acpi → HasFittingFields m → IsAccepted m → (apic : Apic) → IsFittingApic apic
    → CanBePut (Madt (madt_of_machine m acpi apic))
madt_can m acpi fits fit accepted apic local =
    let flags : apic_flags apic < 256 ^ 4 = omega (arith, flag_fits apic.legacy) in
    let address : apic.local < 256 ^ 4 = omega (arith, local) in
    record {
      writable = madt_written m acpi apic accepted;
      head = head_fits acpi 5 fits (omega arith);
      fit = each_append IsRow (body_rows (madt_front_fields (madt_front_of (madt_of_machine m acpi apic)))) (entries_rows (map madt_entry_of (entries_of m)))
          ((omega arith, address), ((omega arith, flags), tt))
          (list_rows madt_entry_of IsRow IsFittingMadtEntry madt_entry_fits (entries_of m) (entries_fit m fit accepted));
    }
