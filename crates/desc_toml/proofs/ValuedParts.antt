-- The values of each part of a machine, where its texts are lawful and its numbers small.
use Rattle.std.proofs.Common.{◌≡◌, ℕ, ◌<◌, ◌^◌, true, ◌&&◌, List, [], ◌∷◌, ◌++◌, Option, Some, None, nat_le, nat_lt, refl, arith}
use Rattle.std.specs.Prelude.{IfSome}
use Rattle.std.specs.List.{list_all}
use Rattle.std.specs.Option.{option_map_or}
use Rattle.std.proofs.lemmas.Bool.{and_parts, leb-true, le-leb}
use Rattle.desc_schema.specs.declared.value.Value.{Value}
use Rattle.desc_schema.specs.Form.{Field}
use Rattle.desc_schema.specs.Form as forms
use Rattle.desc_schema.specs.Fits.{IsOne, FitsFields}
use Rattle.desc_schema.specs.Taken.{uuid_if, number_if}
use Rattle.machine_desc.specs.declared.machine.System.{System}
use Rattle.machine_desc.specs.declared.machine.Acpi.{Acpi}
use Rattle.machine_desc.specs.declared.machine.Hpet.{Hpet}
use Rattle.machine_desc.specs.declared.acpi_parts.Power.{Power}
use Rattle.machine_desc.specs.declared.acpi_parts.Apic.{Apic}
use Rattle.machine_desc.specs.declared.acpi_parts.Cpu.{Cpu}
use Rattle.machine_desc.specs.declared.acpi_parts.IoApic.{IoApic}
use Rattle.machine_desc.specs.declared.acpi_parts.Override.{Override}
use Rattle.machine_desc.specs.declared.acpi_parts.Nmi.{Nmi}
use Rattle.machine_desc.specs.declared.smbios_parts.Firmware.{Firmware}
use Rattle.machine_desc.specs.declared.smbios_parts.Chassis.{Chassis}
use Rattle.machine_desc.specs.declared.smbios_parts.Socket.{Socket}
use Rattle.machine_desc.specs.declared.smbios_parts.Dimm.{Dimm}
use Rattle.machine_desc.specs.declared.smbios_parts.MemRange.{MemRange}
use Rattle.machine_desc.specs.declared.smbios_parts.Slot.{Slot}
use Rattle.machine_desc.specs.Fields.{IsFittingFirmware, IsFittingSocket, IsFittingSlot, IsFittingRange, IsFittingPower, IsFittingHpet, IsFittingApic}
use Rattle.machine_desc.specs.Fields.{IsFittingCpu}
use Rattle.machine_desc.specs.Fields.{IsFittingIoApic, IsFittingOverride, IsFittingNmi}
use Rattle.machine_desc.specs.Rules.{is_text, system_texts, firmware_texts, chassis_texts, socket_texts, dimm_texts, slot_texts, acpi_texts}
use Rattle.machine_desc.specs.Rules.{is_lawful_chassis, is_lawful_socket, is_lawful_dimm, is_lawful_slot, is_lawful_override, is_lawful_nmi}
use Rattle.machine_desc.proofs.Passing.{◌⨾◌}
use Rattle.desc_toml.specs.Keys.{system_keys, firmware_keys, chassis_keys, socket_keys, dimm_keys, range_keys, slot_keys, acpi_keys, power_keys, hpet_keys}
use Rattle.desc_toml.specs.Keys.{apic_keys, cpu_keys, io_apic_keys, override_keys, nmi_keys}
use Rattle.desc_toml.specs.Values.{text_taken, system_taken, firmware_taken, chassis_taken, socket_taken, dimm_taken, range_taken, slot_taken, acpi_taken}
use Rattle.desc_toml.specs.Values.{power_taken, hpet_taken, apic_taken, cpu_taken, io_apic_taken, override_taken, nmi_taken, byte_taken}
use Rattle.desc_toml.specs.Printed.{uuid_or_nothing, number_or_nothing, text_values, number_values, system_values, firmware_values, chassis_values}
use Rattle.desc_toml.specs.Printed.{socket_values, dimm_values, range_values, slot_values, acpi_values, power_values, hpet_values, apic_values, cpu_values}
use Rattle.desc_toml.specs.Printed.{io_apic_values, override_values, nmi_values}
use Rattle.desc_toml.proofs.Valued.{IsGood, AreGood, IsValued, each_utf8, good_fits, good_texts, number_good, uuid_good}

-- a part of good values
pub part_good : {V : Type 0} (Inside : ℕ → List Value → Type 0) (keys : List Field) (taken : List Value → V × List Value) (values : List Value) (part : V)
    → AreGood keys values → ((more : List Value) → taken (values ++ more) ≡ (part, more)) → IsValued (FitsFields Inside keys) taken values part
part_good Inside keys taken values part good back = record { back = back; fits = good_fits Inside keys values good; texts = good_texts keys values good }

pub text_valued : (text : List ℕ) → is_text text ≡ true → IsValued (IsOne forms.Text) text_taken (text_values text) text
text_valued text lawful = record {
  back = λ more. refl;
  fits = (Value.Text text, refl, (text, refl));
  texts = ((each_utf8 (text ∷ []) (rw lawful refl)).0, tt);
}

pub uuid_back : (uuid : Option ℕ) → uuid_if (uuid_or_nothing uuid) ≡ uuid
uuid_back None = refl
uuid_back (Some n) = refl

pub system_valued : (Inside : ℕ → List Value → Type 0) (s : System) → list_all is_text (system_texts s) ≡ true → IfSome s.uuid (λ n. n < 2 ^ 128)
    → IsValued (FitsFields Inside system_keys) system_taken (system_values s) s
system_valued Inside s texts fits =
    let t = each_utf8 (system_texts s) texts in
    part_good Inside system_keys system_taken (system_values s) s
    (t.0 ⨾ t.1.0 ⨾ t.1.1.0 ⨾ t.1.1.1.0 ⨾ t.1.1.1.1.0 ⨾ t.1.1.1.1.1.0 ⨾ uuid_good s.uuid fits ⨾ tt)
    (λ more. rw (uuid_back s.uuid) refl)

pub firmware_valued : (Inside : ℕ → List Value → Type 0) (f : Firmware) → list_all is_text (firmware_texts f) ≡ true → IsFittingFirmware f
    → IsValued (FitsFields Inside firmware_keys) firmware_taken (firmware_values f) f
firmware_valued Inside f texts fits =
    let t = each_utf8 (firmware_texts f) texts in
    let major = number_good f.major 0xFF (omega arith) in
    let minor = number_good f.minor 0xFF (omega arith) in
    part_good Inside firmware_keys firmware_taken (firmware_values f) f (t.0 ⨾ t.1.0 ⨾ t.1.1.0 ⨾ major ⨾ minor ⨾ tt)
    (λ more. rw (major.1, minor.1) refl)

pub chassis_valued : (Inside : ℕ → List Value → Type 0) (c : Chassis) → list_all is_text (chassis_texts c) ≡ true → is_lawful_chassis c ≡ true
    → IsValued (FitsFields Inside chassis_keys) chassis_taken (chassis_values c) c
chassis_valued Inside c texts lawful =
    let t = each_utf8 (chassis_texts c) texts in
    let few = leb-true c.kind 127 (and_parts (nat_le 1 c.kind) (nat_le c.kind 127) lawful).1 in
    let kind = number_good c.kind 0xFF (omega (arith, few)) in
    part_good Inside chassis_keys chassis_taken (chassis_values c) c (t.0 ⨾ t.1.0 ⨾ t.1.1.0 ⨾ t.1.1.1.0 ⨾ t.1.1.1.1.0 ⨾ kind ⨾ tt)
    (λ more. rw kind.1 refl)

pub socket_valued : (Inside : ℕ → List Value → Type 0) (s : Socket) → list_all is_text (socket_texts s) ≡ true → is_lawful_socket s ≡ true
    → IsFittingSocket s → IsValued (FitsFields Inside socket_keys) socket_taken (socket_values s) s
socket_valued Inside s texts lawful fits =
    let t = each_utf8 (socket_texts s) texts in
    let both = and_parts (nat_le 1 s.cores && nat_le s.cores s.threads) (nat_le s.threads 65534) lawful in
    let fewer = leb-true s.cores s.threads (and_parts (nat_le 1 s.cores) (nat_le s.cores s.threads) both.0).1 in
    let few = leb-true s.threads 65534 both.1 in
    let cores = number_good s.cores 0xFFFF (omega (arith, fewer, few)) in
    let threads = number_good s.threads 0xFFFF (omega (arith, few)) in
    let mhz = number_good s.mhz 0xFFFF (omega arith) in
    part_good Inside socket_keys socket_taken (socket_values s) s
    (t.0 ⨾ t.1.0 ⨾ t.1.1.0 ⨾ t.1.1.1.0 ⨾ t.1.1.1.1.0 ⨾ t.1.1.1.1.1.0 ⨾ cores ⨾ threads ⨾ mhz ⨾ tt)
    (λ more. rw (cores.1, threads.1, mhz.1) refl)

pub dimm_valued : (Inside : ℕ → List Value → Type 0) (d : Dimm) → list_all is_text (dimm_texts d) ≡ true → is_lawful_dimm d ≡ true
    → IsValued (FitsFields Inside dimm_keys) dimm_taken (dimm_values d) d
dimm_valued Inside d texts lawful =
    let t = each_utf8 (dimm_texts d) texts in
    let both = and_parts (nat_le 1 d.size_mib && nat_le d.size_mib 16777216) (nat_le d.speed 65534) lawful in
    let small = leb-true d.size_mib 16777216 (and_parts (nat_le 1 d.size_mib) (nat_le d.size_mib 16777216) both.0).1 in
    let slow = leb-true d.speed 65534 both.1 in
    let size_mib = number_good d.size_mib 0xFFFFFFFF (omega (arith, small)) in
    let speed = number_good d.speed 0xFFFF (omega (arith, slow)) in
    part_good Inside dimm_keys dimm_taken (dimm_values d) d
    (t.0 ⨾ t.1.0 ⨾ t.1.1.0 ⨾ t.1.1.1.0 ⨾ t.1.1.1.1.0 ⨾ t.1.1.1.1.1.0 ⨾ size_mib ⨾ speed ⨾ tt)
    (λ more. rw (size_mib.1, speed.1) refl)

pub range_valued : (Inside : ℕ → List Value → Type 0) (r : MemRange) → IsFittingRange r → r.node < 2 ^ 8
    → IsValued (FitsFields Inside range_keys) range_taken (range_values r) r
range_valued Inside r fits on =
    let base_mib = number_good r.base_mib 0xFFFFFFFF (omega arith) in
    let size_mib = number_good r.size_mib 0xFFFFFFFF (omega arith) in
    let node = number_good r.node 0xFF (omega arith) in
    part_good Inside range_keys range_taken (range_values r) r (base_mib ⨾ size_mib ⨾ node ⨾ tt) (λ more. rw (base_mib.1, size_mib.1, node.1) refl)

pub slot_valued : (Inside : ℕ → List Value → Type 0) (s : Slot) → list_all is_text (slot_texts s) ≡ true → is_lawful_slot s ≡ true → IsFittingSlot s
    → IsValued (FitsFields Inside slot_keys) slot_taken (slot_values s) s
slot_valued Inside s texts lawful fits =
    let t = each_utf8 (slot_texts s) texts in
    let both = and_parts (nat_le 1 s.kind && nat_le 1 s.width && nat_le s.device 31) (nat_le s.function 7) lawful in
    let devices = leb-true s.device 31 (and_parts (nat_le 1 s.kind && nat_le 1 s.width) (nat_le s.device 31) both.0).1 in
    let functions = leb-true s.function 7 both.1 in
    let kind = number_good s.kind 0xFF (omega arith) in
    let width = number_good s.width 0xFF (omega arith) in
    let id = number_good s.id 0xFFFF (omega arith) in
    let bus = number_good s.bus 0xFF (omega arith) in
    let device = number_good s.device 0xFF (omega (arith, devices)) in
    let function = number_good s.function 0xFF (omega (arith, functions)) in
    part_good Inside slot_keys slot_taken (slot_values s) s (t.0 ⨾ kind ⨾ width ⨾ tt ⨾ id ⨾ bus ⨾ device ⨾ function ⨾ tt)
    (λ more. rw (kind.1, width.1, id.1, bus.1, device.1, function.1) refl)

pub acpi_valued : (Inside : ℕ → List Value → Type 0) (a : Acpi) → list_all is_text (acpi_texts a) ≡ true
    → IsValued (FitsFields Inside acpi_keys) acpi_taken (acpi_values a) a
acpi_valued Inside a texts =
    let t = each_utf8 (acpi_texts a) texts in
    part_good Inside acpi_keys acpi_taken (acpi_values a) a (t.0 ⨾ t.1.0 ⨾ tt) (λ more. refl)

pub power_valued : (Inside : ℕ → List Value → Type 0) (p : Power) → IsFittingPower p
    → IsValued (FitsFields Inside power_keys) power_taken (power_values p) p
power_valued Inside p fits =
    let sci = number_good p.sci 0xFFFF (omega arith) in
    let profile = number_good p.profile 0xFF (omega arith) in
    let event = number_good p.event 0xFFFF (omega arith) in
    let control = number_good p.control 0xFFFF (omega arith) in
    let timer = number_good p.timer 0xFFFF (omega arith) in
    let gpe = number_good p.gpe 0xFFFF (omega arith) in
    let gpe_len = number_good p.gpe_len 0xFF (omega arith) in
    let reset = number_good p.reset 0xFFFF (omega arith) in
    let reset_value = number_good p.reset_value 0xFF (omega arith) in
    let century = number_good p.century 0xFF (omega arith) in
    part_good Inside power_keys power_taken (power_values p) p
    (sci ⨾ profile ⨾ event ⨾ control ⨾ timer ⨾ gpe ⨾ gpe_len ⨾ reset ⨾ reset_value ⨾ century ⨾ tt ⨾ tt ⨾ tt)
    (λ more. rw (sci.1, profile.1, event.1, control.1, timer.1, gpe.1, gpe_len.1, reset.1, reset_value.1, century.1) refl)

pub hpet_valued : (Inside : ℕ → List Value → Type 0) (h : Hpet) → IsFittingHpet h → IsValued (FitsFields Inside hpet_keys) hpet_taken (hpet_values h) h
hpet_valued Inside h fits =
    let address = number_good h.address 0xFFFFFFFF (omega arith) in
    let block_id = number_good h.block_id 0xFFFFFFFF (omega arith) in
    let number = number_good h.number 0xFF (omega arith) in
    let min_tick = number_good h.min_tick 0xFFFF (omega arith) in
    part_good Inside hpet_keys hpet_taken (hpet_values h) h (address ⨾ block_id ⨾ number ⨾ min_tick ⨾ tt)
    (λ more. rw (address.1, block_id.1, number.1, min_tick.1) refl)

pub apic_valued : (Inside : ℕ → List Value → Type 0) (a : Apic) → IsFittingApic a → IsValued (FitsFields Inside apic_keys) apic_taken (apic_values a) a
apic_valued Inside a fits =
    let local = number_good a.local 0xFFFFFFFF (omega (arith, fits)) in
    part_good Inside apic_keys apic_taken (apic_values a) a (local ⨾ tt ⨾ tt) (λ more. rw local.1 refl)

pub cpu_valued : (Inside : ℕ → List Value → Type 0) (c : Cpu) → IsFittingCpu c → IsValued (FitsFields Inside cpu_keys) cpu_taken (cpu_values c) c
cpu_valued Inside c fits =
    let apic = number_good c.apic 0xFFFFFFFF (omega arith) in
    let node = number_good c.node 0xFF (omega arith) in
    part_good Inside cpu_keys cpu_taken (cpu_values c) c (apic ⨾ node ⨾ tt ⨾ tt) (λ more. rw (apic.1, node.1) refl)

pub io_apic_valued : (Inside : ℕ → List Value → Type 0) (a : IoApic) → IsFittingIoApic a
    → IsValued (FitsFields Inside io_apic_keys) io_apic_taken (io_apic_values a) a
io_apic_valued Inside a fits =
    let id = number_good a.id 0xFF (omega arith) in
    let address = number_good a.address 0xFFFFFFFF (omega arith) in
    let gsi = number_good a.gsi 0xFFFFFFFF (omega arith) in
    part_good Inside io_apic_keys io_apic_taken (io_apic_values a) a (id ⨾ address ⨾ gsi ⨾ tt) (λ more. rw (id.1, address.1, gsi.1) refl)

pub override_valued : (Inside : ℕ → List Value → Type 0) (o : Override) → is_lawful_override o ≡ true → IsFittingOverride o
    → IsValued (FitsFields Inside override_keys) override_taken (override_values o) o
override_valued Inside o lawful fits =
    let both = and_parts (nat_le o.irq 15) (nat_le o.flags 15) lawful in
    let irq = number_good o.irq 0xFF (omega (arith, leb-true o.irq 15 both.0)) in
    let gsi = number_good o.gsi 0xFFFFFFFF (omega (arith, fits)) in
    let flags = number_good o.flags 0xFFFF (omega (arith, leb-true o.flags 15 both.1)) in
    part_good Inside override_keys override_taken (override_values o) o (irq ⨾ gsi ⨾ flags ⨾ tt) (λ more. rw (irq.1, gsi.1, flags.1) refl)

-- the processor of an NMI, or all

cpu_good : (cpu : Option ℕ) → IfSome cpu (λ n. n < 2 ^ 32) → IsGood (forms.Number 0 0xFFFFFFFF) (Some Value.Nothing) (number_or_nothing cpu)
cpu_good None fits = refl
cpu_good (Some n) fits = number_good n 0xFFFFFFFF (omega (arith, fits))

cpu_back : (cpu : Option ℕ) → IfSome cpu (λ n. n < 2 ^ 32) → number_if 0xFFFFFFFF (number_or_nothing cpu) ≡ cpu
cpu_back None fits = refl
cpu_back (Some n) fits = rw (le-leb n 0xFFFFFFFF (omega (arith, fits))) refl

pub nmi_valued : (Inside : ℕ → List Value → Type 0) (cpus : ℕ) (n : Nmi) → is_lawful_nmi cpus n ≡ true → IsFittingNmi n
    → IsValued (FitsFields Inside nmi_keys) nmi_taken (nmi_values n) n
nmi_valued Inside cpus n lawful fits =
    let is_there = option_map_or (λ cpu. nat_lt cpu cpus) n.cpu true in
    let both = and_parts (is_there && nat_le n.flags 15) (nat_le n.lint 1) lawful in
    let flags = number_good n.flags 0xFFFF (omega (arith, leb-true n.flags 15 (and_parts is_there (nat_le n.flags 15) both.0).1)) in
    let lint = number_good n.lint 0xFF (omega (arith, leb-true n.lint 1 both.1)) in
    part_good Inside nmi_keys nmi_taken (nmi_values n) n (cpu_good n.cpu fits ⨾ flags ⨾ lint ⨾ tt)
    (λ more. rw (cpu_back n.cpu fits, flags.1, lint.1) refl)

-- a number of 8 bits alone
pub byte_valued : (n : ℕ) → n < 2 ^ 8 → IsValued (IsOne (forms.Number 0 0xFF)) byte_taken (number_values n) n
byte_valued n small =
    let byte = number_good n 0xFF (omega arith) in
    record { back = λ more. rw byte.1 refl; fits = (Value.Number n, refl, (n, refl, byte.0, leb-true n 0xFF byte.1)); texts = (tt, tt) }
