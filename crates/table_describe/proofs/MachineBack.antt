-- The candidate of an accepted machine's inventory is the machine.
use Rattle.std.proofs.Common.{◌≡◌, ℕ, ◌*◌, ◌/◌, ◌<◌, ◌^◌, List, [], length, map, Option, Some, None, IfSome, option_map, option_and_then, refl, arith}
use Rattle.std.proofs.Common.{sym, ap, ap₂, ◌∙◌}
use Rattle.machine_desc.specs.declared.machine.Machine.{Machine}
use Rattle.machine_desc.specs.declared.machine.Acpi.{Acpi}
use Rattle.machine_desc.specs.declared.acpi_parts.Power.{Power}
use Rattle.machine_desc.specs.declared.device_parts.Bridge.{Bridge}
use Rattle.machine_desc.specs.declared.device_parts.Uart.{Uart}
use Rattle.machine_desc.specs.declared.smbios_parts.MemRange.{MemRange}
use Rattle.machine_desc.specs.Uuids.{uuid_bytes}
use Rattle.machine_desc.specs.Rules.{IsAccepted}
use Rattle.machine_desc.specs.Fields.{HasFittingFields}
use Rattle.machine_desc.proofs.Accepted.{power_needs_acpi}
use Rattle.dsdt_terms.specs.Dsdt.{has_clock, has_keyboard, without_ecam}
use Rattle.acpi_model.specs.declared.acpi.AcpiTables.{AcpiTables}
use Rattle.acpi_model.specs.Acpi.{acpi_of, dsdt_of}
use Rattle.acpi_model.proofs.AcceptedAcpi.{no_part, no_bridge, no_uarts}
use Rattle.smbios_model.proofs.GotBack.{uuid_number}
use Rattle.table_model.specs.declared.inventory.Inventory.{Inventory}
use Rattle.table_model.specs.Inventory.{inventory_of}
use Rattle.smbios_told.specs.declared.parts.SmbiosParts.{SmbiosParts}
use Rattle.smbios_told.proofs.PartsBack.{parts_back as structures_back}
use Rattle.dsdt_devices.specs.declared.devices.DsdtDevices.{DsdtDevices}
use Rattle.dsdt_devices.proofs.DevicesBack.{devices_back}
use Rattle.acpi_told.specs.declared.parts.AcpiParts.{AcpiParts}
use Rattle.acpi_told.specs.Parts.{power_told, bridge_told}
use Rattle.acpi_told.proofs.PartsBack.{parts_back as tables_back, ranges_back, machine_power, machine_bridge}
use Rattle.inventory_items.specs.Items.{fadt_in, mcfg_in}
use Rattle.table_describe.specs.Candidate.{devices, devices_told, ranges_on_nodes, id_number, candidate_with, candidate}

-- the id of a generation is got back from its bytes
id_back : (id : Option ℕ) → IfSome id (λ number. number < 2 ^ 128) → option_map id_number (option_map uuid_bytes id) ≡ id
id_back None fits = refl
id_back (Some number) fits = ap Some (uuid_number number fits)

-- What the devices of a machine tell: its bridge but for its configuration space, its serial ports, and where it has power management its clock
-- and its keyboard.
record AreBack (m : Machine) (told : DsdtDevices) : Type 0 where
  bridge : told.bridge ≡ option_map without_ecam m.bridge
  uarts : told.uarts ≡ m.uarts
  power : option_map (power_told told.rtc told.keyboard) (fadt_in (inventory_of m)) ≡ m.power

-- where it has none, there are no devices, and no FADT whatever clock and keyboard are
nothing_of : {A B : Type 0} (f : A → B) (part : Option A) → option_map f part ≡ None → part ≡ None
nothing_of f None is = refl
nothing_of f (Some a) is = absurd (cc)

no_fadt : (m : Machine) → m.power ≡ None → IsAccepted m → HasFittingFields m → fadt_in (inventory_of m) ≡ None
no_fadt m none accepted fits =
    nothing_of (power_told (has_clock m.power) (has_keyboard m.power)) (fadt_in (inventory_of m)) (machine_power m accepted fits ∙ none)

none_back : (m : Machine) (told : DsdtDevices) → told.bridge ≡ None → told.uarts ≡ [] → m.power ≡ None → IsAccepted m → HasFittingFields m → AreBack m told
none_back m told bridge uarts none accepted fits = record {
  bridge = bridge ∙ sym (ap (option_map without_ecam) (no_bridge m accepted none));
  uarts = uarts ∙ sym (no_uarts m accepted none);
  power = ap (option_map (power_told told.rtc told.keyboard)) (no_fadt m none accepted fits) ∙ sym none;
}

some_back : (m : Machine) (told : DsdtDevices)
    → told ≡ record { bridge = option_map without_ecam m.bridge; uarts = m.uarts; rtc = has_clock m.power; keyboard = has_keyboard m.power }
    → IsAccepted m → HasFittingFields m → AreBack m told
some_back m told is accepted fits = record {
  bridge = ap (λ (d : DsdtDevices). d.bridge) is;
  uarts = ap (λ (d : DsdtDevices). d.uarts) is;
  power = ap (λ (d : DsdtDevices). option_map (power_told d.rtc d.keyboard) (fadt_in (inventory_of m))) is ∙ machine_power m accepted fits;
}

-- by its power management, and by its tables
with_tables : (m : Machine) (acpi : Acpi) (power : Option Power) → m.power ≡ power → IsAccepted m → HasFittingFields m
    → AreBack m (devices_told (option_map (λ (p : Power). dsdt_of m acpi) power))
with_tables m acpi None has accepted fits = none_back m (devices_told None) refl refl has accepted fits
with_tables m acpi (Some power) has accepted fits = some_back m (devices_told (Some (dsdt_of m acpi))) (devices_back m accepted fits) accepted fits

devices_at : (m : Machine) (acpi : Option Acpi) → m.acpi ≡ acpi → IsAccepted m → HasFittingFields m
    → AreBack m (devices_told (option_and_then (λ (t : AcpiTables). t.dsdt) (option_map (acpi_of m) acpi)))
devices_at m None has accepted fits =
    none_back m (devices_told None) refl refl (no_part m m.power (power_needs_acpi m accepted) has) accepted fits
devices_at m (Some acpi) has accepted fits = with_tables m acpi m.power refl accepted fits

-- a machine with these keys in place of its own
with_keys : Machine → ℕ → Option ℕ → List MemRange → Option Power → Option Bridge → List Uart → Machine
with_keys m top generation ranges power bridge uarts =
    record m { top_mib = top; generation = generation; ranges = ranges; power = power; bridge = bridge; uarts = uarts }

pub machine_back : (m : Machine) → IsAccepted m → HasFittingFields m → candidate (inventory_of m) ≡ m
unfolding with_keys candidate
machine_back m accepted fits =
    let i : Inventory = inventory_of m in
    let told : DsdtDevices = devices i in
    let back : AreBack m told = devices_at m m.acpi refl accepted fits in
    let top : m.top_mib * 0x100000 / 0x100000 ≡ m.top_mib = omega arith in
    let ranges : List MemRange = ranges_on_nodes (length m.cpus) i.acpi (map (λ (r : MemRange). record r { node = 0 }) m.ranges) in
    let power : Option Power = option_map (power_told told.rtc told.keyboard) (fadt_in i) in
    let bridge : Option Bridge = option_map (bridge_told (mcfg_in i)) told.bridge in
    ap₂ (λ (smbios : SmbiosParts) (acpi : AcpiParts).
    candidate_with i (record smbios { ranges = ranges_on_nodes (length acpi.controllers.cpus) i.acpi smbios.ranges }) acpi told)
    (structures_back m accepted fits.uuids) (tables_back m accepted fits)
    ∙ ap (λ n. with_keys m n (option_map id_number i.generation) ranges power bridge told.uarts) top
    ∙ ap (λ id. with_keys m m.top_mib id ranges power bridge told.uarts) (id_back m.generation fits.uuids.generation)
    ∙ ap (λ those. with_keys m m.top_mib m.generation those power bridge told.uarts) (ranges_back m accepted)
    ∙ ap (λ part. with_keys m m.top_mib m.generation m.ranges part bridge told.uarts) back.power
    ∙ ap (λ part. with_keys m m.top_mib m.generation m.ranges m.power part told.uarts)
    (ap (option_map (bridge_told (mcfg_in i))) back.bridge ∙ machine_bridge m accepted)
    ∙ ap (λ those. with_keys m m.top_mib m.generation m.ranges m.power m.bridge those) back.uarts

-- so no two machines have the same inventory
pub same_machine : (a b : Machine) → IsAccepted a → IsAccepted b → HasFittingFields a → HasFittingFields b → inventory_of a ≡ inventory_of b → a ≡ b
same_machine a b a_accepted b_accepted a_fits b_fits same =
    sym (machine_back a a_accepted a_fits) ∙ ap candidate same ∙ machine_back b b_accepted b_fits
