-- The tables that a machine's XSDT names. What is known of each kind stands here once, and in one list.
use Rattle.std.proofs.Common.{◌≡◌, ℕ, ◌+◌, ◌*◌, ◌^◌, ◌<◌, ◌≤◌, List, [], ◌∷◌, length, map, Option, Some, None, option_map, option_and_then, true}
use Rattle.std.proofs.Common.{arith, rules, refl, ap, ◌∙◌}
use Rattle.std.specs.Prelude.{IfSome}
use Rattle.std.specs.List.{AllByRecursion}
use Rattle.machine_desc.specs.declared.machine.Machine.{Machine}
use Rattle.machine_desc.specs.declared.machine.Acpi.{Acpi}
use Rattle.machine_desc.specs.declared.machine.Hpet.{Hpet as HpetPart}
use Rattle.machine_desc.specs.declared.acpi_parts.Power.{Power}
use Rattle.machine_desc.specs.declared.acpi_parts.Numa.{Numa}
use Rattle.machine_desc.specs.Fields.{IsFittingHpet, IsFittingPower, IsFittingApic, HasFittingFields}
use Rattle.machine_desc.specs.Rules.{IsAccepted}
use Rattle.vt_layout.specs.Rows.{size}
use Rattle.acpi_records.specs.declared.hpet.HpetTable.{HpetTable}
use Rattle.acpi_model.specs.declared.acpi.Table.{Table}
use Rattle.acpi_model.specs.declared.acpi.Table.TheVariants.{Fadt, Madt, Srat, Slit, Mcfg, Hpet}
use Rattle.acpi_records.specs.Header.{FitsHead}
use Rattle.acpi_model.specs.Kinds.{Kind, rows_behind}
use Rattle.acpi_model.specs.FadtKind.{fadt_kind}
use Rattle.acpi_model.specs.MachineFadt.{fadt_of, fadt_links}
use Rattle.acpi_model.specs.MadtKind.{madt_kind}
use Rattle.acpi_model.specs.MachineMadt.{madt_of_machine}
use Rattle.acpi_records.specs.Hpet.{hpet_of}
use Rattle.acpi_model.specs.SratKind.{srat_kind, srat_layout}
use Rattle.acpi_model.specs.SlitKind.{slit_kind}
use Rattle.acpi_model.specs.MachineSrat.{srat_of_machine}
use Rattle.acpi_model.specs.MachineSlit.{slit_of_machine}
use Rattle.acpi_model.specs.McfgKind.{mcfg_kind}
use Rattle.acpi_model.specs.MachineMcfg.{mapped, mcfg_of_bridge}
use Rattle.acpi_model.specs.HpetKind.{hpet_kind}
use Rattle.acpi_model.specs.Acpi.{kinds, layout_of, signature_of, linked_table, IsWritable, CanBePut, AreDistinct, bytes_behind, first_with, first_of}
use Rattle.acpi_model.specs.Acpi.{facs_place, dsdt_place, parts_of, present, tables_of}
use Rattle.acpi_model.proofs.Headers.{head_fits}
use Rattle.acpi_model.proofs.Fadts.{size-fadt, fadt_writable}
use Rattle.acpi_model.proofs.Srats.{size-srat, srat_writable}
use Rattle.acpi_model.proofs.MachineSrats.{affinities_stand, size_affinities, srat_rows_fit}
use Rattle.acpi_model.proofs.MachineSlits.{most_numa, IsSquare, size-slit-few, slit_written, slit_rows_fit}
use Rattle.acpi_model.proofs.AcceptedAcpi.{fits_power}
use Rattle.acpi_model.proofs.AcceptedNodes.{most_cpus, most_ranges, HasFewNodes, FitsNodes, whichever, few_nodes, fits_nodes, accepted_numa}
use Rattle.acpi_model.proofs.MachineFadts.{fadt_rows_fit}
use Rattle.acpi_model.proofs.MachineMadts.{few_madt_bytes, madt_written, madt_can}
use Rattle.acpi_model.proofs.Mcfgs.{IsLawfulBridge, mcfg_written, mcfg_can, size-mcfg, lawful_bridge}
use Rattle.acpi_model.proofs.Parts.{AreParts, length-present, AreSigned, all_differ, parts_weaker, each_present, part_of, first-present}
use Rattle.acpi_model.proofs.Parts.{distinct-present, distinct-linked}

-- the signatures of the known kinds, which differ
abbrev pub signatures : List (List ℕ)
signatures = map (λ (kind : Kind). kind.signature) kinds

pub signatures_differ : all_differ signatures ≡ true
signatures_differ = refl

-- What is known of a part of a machine, which can be written where the machine is lawful, and fits where its numbers fit their fields.
record IsPart (Lawful Fit : Type 0) (signature : List ℕ) (table : Table) : Type 0 where
  signed : signature_of table ≡ signature
  writable : Lawful → IsWritable table
  fits : Fit → CanBePut table

-- it is known of the part that is there, where it is known of each such part
is_part : {Part : Type 0} (Lawful Fit : Type 0) (signature : List ℕ) (table_of : Part → Table) (Keeps Fits : Part → Type 0)
    → ((part : Part) → signature_of (table_of part) ≡ signature) → ((part : Part) → Keeps part → IsWritable (table_of part))
    → (Fit → (part : Part) → Fits part → CanBePut (table_of part)) → (part : Option Part) → (Lawful → IfSome part Keeps)
    → (Fit → IfSome part Fits) → IfSome (option_map table_of part) (IsPart Lawful Fit signature)
is_part Lawful Fit signature table_of Keeps Fits signed writable can None keeps fits = tt
is_part Lawful Fit signature table_of Keeps Fits signed writable can (Some part) keeps fits =
    record { signed = signed part; writable = λ lawful. writable part (keeps lawful); fits = λ fit. can fit part (fits fit) }

-- of a part of which nothing is asked
abbrev Always : {Part : Type 0} → Part → Type 0
Always part = Unit {0}

always : {Part : Type 0} (part : Option Part) → IfSome part Always
always None = tt
always (Some part) = tt

-- the HPET
pub hpet_writable : (t : HpetTable) → IsWritable (Hpet t)
hpet_writable t = record {
  lawful = record { shaped = λ place_of view address held. refl; typed = λ place_of. refl; few = omega arith; rows = search rules };
  lead = tt;
}

hpet_can : (acpi : Acpi) → FitsHead acpi → (hpet : HpetPart) → IsFittingHpet hpet → CanBePut (Hpet (hpet_of acpi hpet))
hpet_can acpi fits hpet fit =
    let address : hpet.address < 256 ^ 8 = omega (arith, fit.address) in
    record {
      writable = hpet_writable (hpet_of acpi hpet);
      head = head_fits acpi 1 fits (omega arith);
      fit = search (rules, address, fit.block_id, fit.number, fit.min_tick);
    }

-- the FADT, whose pointers are those of a machine
fadt_written : (acpi : Acpi) (power : Power) → IsWritable (Fadt (fadt_of acpi power) (fadt_links facs_place dsdt_place))
fadt_written acpi power = fadt_writable (fadt_of acpi power) (fadt_links facs_place dsdt_place) (search rules)

-- what is known of the power of an accepted machine whose numbers fit their fields
abbrev FitsPower : Power → Type 0
FitsPower power = IsFittingPower power × (power.gpe_len ≤ 30)

fadt_can : (acpi : Acpi) → FitsHead acpi → (power : Power) → FitsPower power → CanBePut (Fadt (fadt_of acpi power) (fadt_links facs_place dsdt_place))
fadt_can acpi fits power fit = record {
  writable = fadt_written acpi power;
  head = head_fits acpi 6 fits (omega arith);
  fit = fadt_rows_fit acpi power fit.0 fit.1;
}

-- the SRAT, of so many processors and ranges as a machine may have
abbrev pub most_srat : ℕ
most_srat = 12 + 24 * most_cpus + 40 * most_ranges

pub size-srat-few : (m : Machine) (acpi : Acpi) → HasFewNodes m → size (rows_behind (srat_layout (srat_of_machine m acpi))) ≤ most_srat
size-srat-few m acpi few = omega (arith, few.0, few.1, size-srat (srat_of_machine m acpi), size_affinities m.cpus m.ranges)

pub srat_written : (m : Machine) (acpi : Acpi) → HasFewNodes m → IsWritable (Srat (srat_of_machine m acpi))
srat_written m acpi few =
    srat_writable (srat_of_machine m acpi) (affinities_stand m.cpus m.ranges) (omega (arith, size-srat-few m acpi few))

srat_can : (m : Machine) (acpi : Acpi) → FitsHead acpi → FitsNodes m → CanBePut (Srat (srat_of_machine m acpi))
srat_can m acpi fits fit = record {
  writable = srat_written m acpi fit.0;
  head = head_fits acpi 3 fits (omega arith);
  fit = srat_rows_fit m acpi fit.1 fit.2;
}

-- the SLIT
slit_can : (acpi : Acpi) → FitsHead acpi → (numa : Numa) → IsSquare numa → CanBePut (Slit (slit_of_machine acpi numa))
slit_can acpi fits numa is = record {
  writable = slit_written acpi numa is;
  head = head_fits acpi 1 fits (omega arith);
  fit = slit_rows_fit acpi numa is;
}

-- of each kind, in order
abbrev FitsAll : Machine → Acpi → Type 0
FitsAll m acpi = FitsHead acpi × HasFittingFields m × IsAccepted m

are_parts : (m : Machine) (acpi : Acpi) → AreParts (IsPart (IsAccepted m) (FitsAll m acpi)) signatures (parts_of m acpi)
are_parts m acpi =
    let fadt = is_part (IsAccepted m) (FitsAll m acpi) fadt_kind.signature (λ power. Fadt (fadt_of acpi power) (fadt_links facs_place dsdt_place))
    Always FitsPower
    (λ power. refl) (λ power keeps. fadt_written acpi power) (λ fit. fadt_can acpi fit.0) m.power (λ accepted. always m.power)
    (λ fit. fits_power m fit.1 fit.2) in
    let madt = is_part (IsAccepted m) (FitsAll m acpi) madt_kind.signature (λ apic. Madt (madt_of_machine m acpi apic)) (λ apic. IsAccepted m) IsFittingApic
    (λ apic. refl) (madt_written m acpi) (λ fit. madt_can m acpi fit.0 fit.1 fit.2) m.apic (whichever (IsAccepted m) m.apic) (λ fit. fit.1.apic) in
    let srat = is_part (IsAccepted m) (FitsAll m acpi) srat_kind.signature (λ numa. Srat (srat_of_machine m acpi)) (λ numa. HasFewNodes m)
    (λ numa. FitsNodes m) (λ numa. refl) (λ numa. srat_written m acpi) (λ fit numa. srat_can m acpi fit.0) m.numa
    (λ accepted. few_nodes m m.numa accepted) (λ fit. fits_nodes m fit.1 fit.2) in
    let slit = is_part (IsAccepted m) (FitsAll m acpi) slit_kind.signature (λ numa. Slit (slit_of_machine acpi numa)) IsSquare IsSquare (λ numa. refl)
    (slit_written acpi) (λ fit. slit_can acpi fit.0) m.numa (accepted_numa m) (λ fit. accepted_numa m fit.2) in
    let mcfg = is_part (IsAccepted m) (FitsAll m acpi) mcfg_kind.signature (λ bridge. Mcfg (mcfg_of_bridge acpi bridge)) Always IsLawfulBridge
    (λ bridge. refl) (λ bridge keeps. mcfg_written acpi bridge) (λ fit. mcfg_can acpi fit.0) (mapped m.bridge) (λ accepted. always (mapped m.bridge))
    (λ fit. lawful_bridge m fit.1 fit.2) in
    let hpet = is_part (IsAccepted m) (FitsAll m acpi) hpet_kind.signature (λ hpet. Hpet (hpet_of acpi hpet)) Always IsFittingHpet (λ hpet. refl)
    (λ hpet keeps. hpet_writable (hpet_of acpi hpet)) (λ fit. hpet_can acpi fit.0) m.hpet (λ accepted. always m.hpet) (λ fit. fit.1.hpet) in
    (fadt, (madt, (srat, (slit, (mcfg, (hpet, tt))))))

are_signed : (m : Machine) (acpi : Acpi) → AreSigned signatures (parts_of m acpi)
are_signed m acpi =
    parts_weaker (IsPart (IsAccepted m) (FitsAll m acpi)) (λ signature table. signature_of table ≡ signature) (λ signature table is. is.signed) signatures
    (parts_of m acpi) (are_parts m acpi)

-- so each table of an accepted machine can be written
pub machine_writable : (m : Machine) (acpi : Acpi) → IsAccepted m → AllByRecursion IsWritable (tables_of m acpi)
machine_writable m acpi accepted =
    each_present IsWritable signatures (parts_of m acpi)
    (parts_weaker (IsPart (IsAccepted m) (FitsAll m acpi)) (λ signature. IsWritable) (λ signature table is. is.writable accepted) signatures
    (parts_of m acpi) (are_parts m acpi))

-- and can be put into a file
pub machine_can : (m : Machine) (acpi : Acpi) → FitsHead acpi → HasFittingFields m → IsAccepted m → AllByRecursion CanBePut (tables_of m acpi)
machine_can m acpi fits fit accepted =
    each_present CanBePut signatures (parts_of m acpi)
    (parts_weaker (IsPart (IsAccepted m) (FitsAll m acpi)) (λ signature. CanBePut) (λ signature table is. is.fits (fits, fit, accepted)) signatures
    (parts_of m acpi) (are_parts m acpi))

-- they are few
pub machine_number : (m : Machine) (acpi : Acpi) → length (tables_of m acpi) ≤ 16
machine_number m acpi = omega (arith, length-present (parts_of m acpi))

-- How many bytes a part has behind its header, where it is there: at most so many, where each such part has no more.
abbrev part_bytes : Option Table → ℕ
part_bytes None = 0
part_bytes (Some table) = size (rows_behind (layout_of table))

abbrev parts_bytes : List (Option Table) → ℕ
parts_bytes [] = 0
parts_bytes (part ∷ parts) = part_bytes part + parts_bytes parts

bytes-present : (parts : List (Option Table)) → bytes_behind (present parts) ≡ parts_bytes parts
bytes-present [] = refl
bytes-present (None ∷ parts) = omega (arith, bytes-present parts)
bytes-present (Some table ∷ parts) = omega (arith, bytes-present parts)

part_short : {Part : Type 0} (table_of : Part → Table) (Keeps : Part → Type 0) (most : ℕ)
    → ((part : Part) → Keeps part → size (rows_behind (layout_of (table_of part))) ≤ most) → (part : Option Part) → IfSome part Keeps
    → part_bytes (option_map table_of part) ≤ most
part_short table_of Keeps most short None keeps = omega arith
part_short table_of Keeps most short (Some part) keeps = short part keeps

-- each kind has its most bytes, which an accepted machine's lists bound, and all of them are few
pub machine_bytes : (m : Machine) (acpi : Acpi) → IsAccepted m → bytes_behind (tables_of m acpi) ≤ 0x30000
machine_bytes m acpi accepted =
    let fadt = part_short (λ power. Fadt (fadt_of acpi power) (fadt_links facs_place dsdt_place)) Always 240
    (λ power keeps. omega (arith, size-fadt (fadt_of acpi power) (fadt_links facs_place dsdt_place))) m.power (always m.power) in
    let madt = part_short (λ apic. Madt (madt_of_machine m acpi apic)) (λ apic. IsAccepted m) 66312 (few_madt_bytes m acpi) m.apic
    (whichever (IsAccepted m) m.apic accepted) in
    let srat = part_short (λ numa. Srat (srat_of_machine m acpi)) (λ numa. HasFewNodes m) most_srat (λ numa. size-srat-few m acpi) m.numa
    (few_nodes m m.numa accepted) in
    let slit = part_short (λ numa. Slit (slit_of_machine acpi numa)) IsSquare (8 + most_numa * most_numa) (size-slit-few acpi) m.numa
    (accepted_numa m accepted) in
    let mcfg = part_short (λ bridge. Mcfg (mcfg_of_bridge acpi bridge)) Always 24 (λ bridge keeps. omega (arith, size-mcfg acpi bridge)) (mapped m.bridge)
    (always (mapped m.bridge)) in
    let hpet = part_short (λ hpet. Hpet (hpet_of acpi hpet)) Always 20 (λ hpet keeps. omega arith) m.hpet (always m.hpet) in
    omega (arith, bytes-present (parts_of m acpi), fadt, madt, srat, slit, mcfg, hpet)

-- no two have one signature, wherever their pointers lead
pub machine_distinct : (place_of : List ℕ → ℕ) (m : Machine) (acpi : Acpi) → AreDistinct (map (linked_table place_of) (tables_of m acpi))
machine_distinct place_of m acpi =
    distinct-linked place_of (tables_of m acpi) (distinct-present signatures (parts_of m acpi) (are_signed m acpi) signatures_differ)

-- the first table of a kind is the part at its place
pub first_part : (m : Machine) (acpi : Acpi) (kind : Kind)
    → first_with kind.signature (tables_of m acpi) ≡ part_of kind.signature signatures (parts_of m acpi)
first_part m acpi kind = first-present kind.signature signatures (parts_of m acpi) (are_signed m acpi) signatures_differ

-- a part's table as one of its kind
as_part : {Part T : Type 0} (as_kind : Table → Option T) (variant : T → Table) (of : Part → T) → ((t : T) → as_kind (variant t) ≡ Some t)
    → (part : Option Part) → option_and_then as_kind (option_map (λ p. variant (of p)) part) ≡ option_map of part
as_part as_kind variant of is None = refl
as_part as_kind variant of is (Some p) = is (of p)

-- the first table of a kind is that of the machine's part
pub of_part : {Part T : Type 0} (m : Machine) (acpi : Acpi) (kind : Kind) (as_kind : Table → Option T) (variant : T → Table) (of : Part → T)
    → ((t : T) → as_kind (variant t) ≡ Some t) → (part : Option Part)
    → part_of kind.signature signatures (parts_of m acpi) ≡ option_map (λ p. variant (of p)) part
    → first_of kind as_kind (tables_of m acpi) ≡ option_map of part
of_part m acpi kind as_kind variant of is part its_part =
    ap (option_and_then as_kind) (first_part m acpi kind ∙ its_part)
    ∙ as_part as_kind variant of is part
