-- The values of an accepted machine, group by group: the machine is made of them again, they fit the schema, and their texts are UTF-8.
use Rattle.std.proofs.Common.{◌≡◌, inr, ℕ, ◌<◌, ◌^◌, true, List, [], ◌∷◌, ◌++◌, length, take, drop, Option, Some, None, refl, arith, append_assoc, append-nil}
use Rattle.std.specs.Prelude.{IfSome}
use Rattle.std.specs.List.{list_all, AllByRecursion}
use Rattle.std.specs.Option.{option_map_or}
use Rattle.vt_outside.proofs.Each.{each_true}
use Rattle.desc_schema.specs.declared.value.Value.{Value}
use Rattle.desc_schema.specs.Form.{Field}
use Rattle.desc_schema.specs.Form as forms
use Rattle.desc_schema.specs.Written.{AreTexts}
use Rattle.desc_schema.specs.Fits.{IsOne, FitsFields, FitsTable, Fits}
use Rattle.machine_desc.specs.declared.machine.Machine.{Machine}
use Rattle.machine_desc.specs.declared.acpi_parts.Numa.{Numa}
use Rattle.machine_desc.specs.declared.device_parts.Bridge.{Bridge}
use Rattle.machine_desc.specs.declared.smbios_parts.MemRange.{MemRange}
use Rattle.machine_desc.specs.Fields.{HasFittingFields, IsFittingFirmware, IsFittingSocket, IsFittingSlot, IsFittingRange, IsFittingPower, IsFittingHpet}
use Rattle.machine_desc.specs.Fields.{IsFittingApic, IsFittingCpu, IsFittingIoApic, IsFittingOverride, IsFittingNmi, IsFittingNuma, IsFittingBridge}
use Rattle.machine_desc.specs.Rules.{IsAccepted, is_text, firmware_texts, chassis_texts, socket_texts, dimm_texts, slot_texts, acpi_texts, windows_of}
use Rattle.machine_desc.specs.Rules.{routes_of}
use Rattle.machine_desc.specs.Rules.{is_lawful_chassis, is_lawful_socket, is_lawful_dimm, is_lawful_slot, is_lawful_override, is_lawful_nmi, is_lawful_numa}
use Rattle.machine_desc.specs.Rules.{has_lawful_ecam, is_lawful_window, is_lawful_route, is_lawful_uart}
use Rattle.machine_desc.proofs.Accepted.{kept, each_kept, holds_where_kept, texts_at, fitting_ranges, lawful_numa}
use Rattle.machine_desc.proofs.Passing.{◌⨾◌}
use Rattle.desc_toml.specs.declared.machine.Front.{Front}
use Rattle.desc_toml.specs.declared.machine.Arrays.{Arrays}
use Rattle.desc_toml.specs.declared.machine.Tables.{Tables}
use Rattle.desc_toml.specs.declared.machine.Entries.{Entries}
use Rattle.desc_toml.specs.declared.machine.Devices.{Devices}
use Rattle.desc_toml.specs.Keys.{schema, root_keys}
use Rattle.desc_toml.specs.Values.{text_taken, firmware_taken, chassis_taken, socket_taken, dimm_taken, range_taken, slot_taken, acpi_taken}
use Rattle.desc_toml.specs.Values.{power_taken, hpet_taken, apic_taken, cpu_taken, io_apic_taken, override_taken, nmi_taken, numa_taken, bridge_taken}
use Rattle.desc_toml.specs.Values.{uart_taken, front_of, arrays_of, tables_of, entries_of, acpi_parts_of, devices_of, behind_of, rest_of, machine_of}
use Rattle.desc_toml.specs.Printed.{part_values, list_values, uuid_or_nothing, text_values, system_values, firmware_values, chassis_values, socket_values}
use Rattle.desc_toml.specs.Printed.{dimm_values, range_values, slot_values, acpi_values, power_values, hpet_values, apic_values, cpu_values, io_apic_values}
use Rattle.desc_toml.specs.Printed.{override_values, nmi_values, numa_values, bridge_values, uart_values, front_values, array_values, table_values}
use Rattle.desc_toml.specs.Printed.{entry_values, device_values, values_of}
use Rattle.desc_toml.proofs.Valued.{IsValued, good_fits, good_texts, number_good, uuid_good, list_valued, part_valued, texts_append, first_key}
use Rattle.desc_toml.proofs.Valued.{last_key, keys_append, both_of_each, all_of_each, each_holds, given_holds, both_of_given}
use Rattle.desc_toml.proofs.ValuedParts.{uuid_back, text_valued, system_valued, firmware_valued, chassis_valued, socket_valued, dimm_valued, range_valued}
use Rattle.desc_toml.proofs.ValuedParts.{slot_valued, acpi_valued, power_valued, hpet_valued, apic_valued, cpu_valued, io_apic_valued, override_valued}
use Rattle.desc_toml.proofs.ValuedParts.{nmi_valued}
use Rattle.desc_toml.proofs.ValuedDevices.{numa_valued, bridge_valued, uart_valued}
use Rattle.desc_toml.proofs.LawfulParts.{if_true, if_text, each_text, small_top, lawful_overrides, lawful_routes, small_nodes}

-- the tables at the keys of the root, and the keys at those tables' keys
abbrev pub Root : ℕ → List Value → Type 0
Root = FitsTable schema 20

abbrev Inner : ℕ → List Value → Type 0
Inner = FitsTable schema 19

abbrev front_keys : List Field
front_keys = take 7 root_keys

abbrev array_keys : List Field
array_keys = take 4 (drop 7 root_keys)

-- the arrays

abbrev arrays : Machine → Arrays
arrays m = record { sockets = m.sockets; dimms = m.dimms; ranges = m.ranges; slots = m.slots }

arrays_valued : (m : Machine) → IsAccepted m → HasFittingFields m → IsValued (FitsFields Root array_keys) arrays_of (array_values m) (arrays m)
unfolding arrays_of array_values
arrays_valued m accepted fits =
    let sockets = list_valued (Root 4) socket_taken socket_values m.sockets
    (all_of_each (λ s. list_all is_text (socket_texts s) ≡ true) (λ s. is_lawful_socket s ≡ true) IsFittingSocket
    (λ s. IsValued (Root 4) socket_taken (socket_values s) s) (socket_valued Inner) m.sockets (each_text socket_texts m.sockets (texts_at m accepted 4))
    (each_true is_lawful_socket m.sockets (each_kept m accepted 7 is_lawful_socket m.sockets refl)) fits.sockets) in
    let dimms = list_valued (Root 5) dimm_taken dimm_values m.dimms
    (both_of_each (λ d. list_all is_text (dimm_texts d) ≡ true) (λ d. is_lawful_dimm d ≡ true)
    (λ d. IsValued (Root 5) dimm_taken (dimm_values d) d) (dimm_valued Inner) m.dimms (each_text dimm_texts m.dimms (texts_at m accepted 5))
    (each_true is_lawful_dimm m.dimms (each_kept m accepted 8 is_lawful_dimm m.dimms refl))) in
    let ranges = list_valued (Root 6) range_taken range_values m.ranges
    (both_of_each IsFittingRange (λ (r : MemRange). r.node < 2 ^ 8) (λ r. IsValued (Root 6) range_taken (range_values r) r) (range_valued Inner) m.ranges
    (fitting_ranges m accepted) (small_nodes m accepted)) in
    let slots = list_valued (Root 7) slot_taken slot_values m.slots
    (all_of_each (λ s. list_all is_text (slot_texts s) ≡ true) (λ s. is_lawful_slot s ≡ true) IsFittingSlot
    (λ s. IsValued (Root 7) slot_taken (slot_values s) s) (slot_valued Inner) m.slots (each_text slot_texts m.slots (texts_at m accepted 6))
    (each_true is_lawful_slot m.slots (each_kept m accepted 12 is_lawful_slot m.slots refl)) fits.slots) in
    let a = list_values socket_values m.sockets in
    let b = list_values dimm_values m.dimms in
    let c = list_values range_values m.ranges in
    let d = list_values slot_values m.slots in
    record {
      back = λ more.
          rw (
            append_assoc a (b ++ (c ++ d)) more,
            append_assoc b (c ++ d) more,
            append_assoc c d more,
            sockets.back (b ++ (c ++ (d ++ more))),
            dimms.back (c ++ (d ++ more)),
            ranges.back (d ++ more),
            slots.back more,
          ) refl;
      fits = first_key Root array_keys a (b ++ (c ++ d)) (inr sockets.fits)
          (first_key Root (drop 1 array_keys) b (c ++ d) (inr dimms.fits)
          (first_key Root (drop 2 array_keys) c d (inr ranges.fits) (last_key Root (drop 3 array_keys) d (inr slots.fits) refl)));
      texts = texts_append a (b ++ (c ++ d)) sockets.texts
          (texts_append b (c ++ d) dimms.texts (texts_append c d ranges.texts slots.texts));
    }

-- the tables that are about ACPI

abbrev table_keys : List Field
table_keys = take 4 (drop 11 root_keys)

abbrev tables : Machine → Tables
tables m = record { acpi = m.acpi; power = m.power; hpet = m.hpet; apic = m.apic }

tables_valued : (m : Machine) → IsAccepted m → HasFittingFields m → IsValued (FitsFields Root table_keys) tables_of (table_values m) (tables m)
unfolding tables_of table_values
tables_valued m accepted fits =
    let acpi = part_valued (Root 8) acpi_taken acpi_values m.acpi
    (given_holds (λ a. list_all is_text (acpi_texts a) ≡ true) (λ a. IsValued (Root 8) acpi_taken (acpi_values a) a) (acpi_valued Inner) m.acpi
    (if_text acpi_texts m.acpi (texts_at m accepted 7))) in
    let power = part_valued (Root 9) power_taken power_values m.power
    (given_holds IsFittingPower (λ p. IsValued (Root 9) power_taken (power_values p) p) (power_valued Inner) m.power fits.power) in
    let hpet = part_valued (Root 10) hpet_taken hpet_values m.hpet
    (given_holds IsFittingHpet (λ h. IsValued (Root 10) hpet_taken (hpet_values h) h) (hpet_valued Inner) m.hpet fits.hpet) in
    let apic = part_valued (Root 11) apic_taken apic_values m.apic
    (given_holds IsFittingApic (λ a. IsValued (Root 11) apic_taken (apic_values a) a) (apic_valued Inner) m.apic fits.apic) in
    let a = part_values acpi_values m.acpi in
    let b = part_values power_values m.power in
    let c = part_values hpet_values m.hpet in
    let d = part_values apic_values m.apic in
    record {
      back = λ more.
          rw (
            append_assoc a (b ++ (c ++ d)) more,
            append_assoc b (c ++ d) more,
            append_assoc c d more,
            acpi.back (b ++ (c ++ (d ++ more))),
            power.back (c ++ (d ++ more)),
            hpet.back (d ++ more),
            apic.back more,
          ) refl;
      fits = first_key Root table_keys a (b ++ (c ++ d)) acpi.fits
          (first_key Root (drop 1 table_keys) b (c ++ d) power.fits
          (first_key Root (drop 2 table_keys) c d hpet.fits (last_key Root (drop 3 table_keys) d apic.fits refl)));
      texts = texts_append a (b ++ (c ++ d)) acpi.texts (texts_append b (c ++ d) power.texts (texts_append c d hpet.texts apic.texts));
    }

-- the arrays that are about ACPI, and the table that has one

abbrev entry_keys : List Field
entry_keys = take 5 (drop 15 root_keys)

abbrev entries : Machine → Entries
entries m = record { cpus = m.cpus; io_apics = m.io_apics; overrides = m.overrides; nmis = m.nmis; numa = m.numa }

numa_if : (numa : Option Numa) → option_map_or is_lawful_numa numa true ≡ true → IfSome numa IsFittingNuma
    → IfSome numa (λ n. IsValued (Root 16) numa_taken (numa_values n) n)
numa_if None lawful fits = tt
numa_if (Some n) lawful fits = numa_valued Inner n lawful fits

entries_valued : (m : Machine) → IsAccepted m → HasFittingFields m → IsValued (FitsFields Root entry_keys) entries_of (entry_values m) (entries m)
unfolding entries_of entry_values
entries_valued m accepted fits =
    let cpus = list_valued (Root 12) cpu_taken cpu_values m.cpus
    (each_holds IsFittingCpu (λ c. IsValued (Root 12) cpu_taken (cpu_values c) c) (cpu_valued Inner) m.cpus fits.cpus) in
    let io_apics = list_valued (Root 13) io_apic_taken io_apic_values m.io_apics
    (each_holds IsFittingIoApic (λ a. IsValued (Root 13) io_apic_taken (io_apic_values a) a) (io_apic_valued Inner) m.io_apics fits.io_apics) in
    let overrides = list_valued (Root 14) override_taken override_values m.overrides
    (both_of_each (λ o. is_lawful_override o ≡ true) IsFittingOverride (λ o. IsValued (Root 14) override_taken (override_values o) o)
    (override_valued Inner) m.overrides (lawful_overrides m accepted) fits.overrides) in
    let is_lawful = is_lawful_nmi (length m.cpus) in
    let nmis = list_valued (Root 15) nmi_taken nmi_values m.nmis
    (both_of_each (λ n. is_lawful n ≡ true) IsFittingNmi (λ n. IsValued (Root 15) nmi_taken (nmi_values n) n) (nmi_valued Inner (length m.cpus)) m.nmis
    (each_true is_lawful m.nmis (each_kept m accepted 22 is_lawful m.nmis refl)) fits.nmis) in
    let numa = part_valued (Root 16) numa_taken numa_values m.numa (numa_if m.numa (lawful_numa m accepted) fits.numa) in
    let a = list_values cpu_values m.cpus in
    let b = list_values io_apic_values m.io_apics in
    let c = list_values override_values m.overrides in
    let d = list_values nmi_values m.nmis in
    let e = part_values numa_values m.numa in
    record {
      back = λ more.
          rw (
            append_assoc a (b ++ (c ++ (d ++ e))) more,
            append_assoc b (c ++ (d ++ e)) more,
            append_assoc c (d ++ e) more,
            append_assoc d e more,
            cpus.back (b ++ (c ++ (d ++ (e ++ more)))),
            io_apics.back (c ++ (d ++ (e ++ more))),
            overrides.back (d ++ (e ++ more)),
            nmis.back (e ++ more),
            numa.back more,
          ) refl;
      fits = first_key Root entry_keys a (b ++ (c ++ (d ++ e))) (inr cpus.fits)
          (first_key Root (drop 1 entry_keys) b (c ++ (d ++ e)) (inr io_apics.fits)
          (first_key Root (drop 2 entry_keys) c (d ++ e) (inr overrides.fits)
          (first_key Root (drop 3 entry_keys) d e (inr nmis.fits) (last_key Root (drop 4 entry_keys) e numa.fits refl))));
      texts = texts_append a (b ++ (c ++ (d ++ e))) cpus.texts
          (texts_append b (c ++ (d ++ e)) io_apics.texts
          (texts_append c (d ++ e) overrides.texts (texts_append d e nmis.texts numa.texts)));
    }

-- the devices

abbrev device_keys : List Field
device_keys = drop 20 root_keys

abbrev devices : Machine → Devices
devices m = record { bridge = m.bridge; uarts = m.uarts }

bridge_if : (bridge : Option Bridge) → option_map_or has_lawful_ecam bridge true ≡ true → list_all is_lawful_window (windows_of bridge) ≡ true
    → AllByRecursion (λ r. is_lawful_route r ≡ true) (routes_of bridge) → IfSome bridge IsFittingBridge
    → IfSome bridge (λ b. IsValued (Root 17) bridge_taken (bridge_values b) b)
bridge_if None ecam windows routes fits = tt
bridge_if (Some b) ecam windows routes fits = bridge_valued 18 b ecam windows routes fits

devices_valued : (m : Machine) → IsAccepted m → HasFittingFields m → IsValued (FitsFields Root device_keys) devices_of (device_values m) (devices m)
unfolding devices_of device_values
devices_valued m accepted fits =
    let bridge = part_valued (Root 17) bridge_taken bridge_values m.bridge
    (bridge_if m.bridge (holds_where_kept 0 (option_map_or has_lawful_ecam m.bridge true) (kept m accepted 25))
    (each_kept m accepted 26 is_lawful_window (windows_of m.bridge) refl) (lawful_routes m accepted) fits.bridge) in
    let uarts = list_valued (Root 20) uart_taken uart_values m.uarts
    (each_holds (λ u. is_lawful_uart u ≡ true) (λ u. IsValued (Root 20) uart_taken (uart_values u) u) (uart_valued Inner) m.uarts
    (each_true is_lawful_uart m.uarts (each_kept m accepted 28 is_lawful_uart m.uarts refl))) in
    let a = part_values bridge_values m.bridge in
    let b = list_values uart_values m.uarts in
    record {
      back = λ more. rw (append_assoc a b more, bridge.back (b ++ more), uarts.back more) refl;
      fits = first_key Root device_keys a b bridge.fits (last_key Root (drop 1 device_keys) b (inr uarts.fits) refl);
      texts = texts_append a b bridge.texts uarts.texts;
    }

-- what stands before the arrays

abbrev front : Machine → Front
front m = record {
  top_mib = m.top_mib;
  oem_strings = m.oem_strings;
  generation = m.generation;
  system = m.system;
  firmware = m.firmware;
  chassis = m.chassis;
}

front_valued : (m : Machine) → IsAccepted m → HasFittingFields m → IsValued (FitsFields Root front_keys) front_of (front_values m) (front m)
unfolding front_of front_values
front_valued m accepted fits =
    let top = number_good m.top_mib 0xFFFFFFFF (omega (arith, small_top m accepted)) in
    let strings = list_valued (IsOne forms.Text) text_taken text_values m.oem_strings
    (each_holds (λ text. is_text text ≡ true) (λ text. IsValued (IsOne forms.Text) text_taken (text_values text) text) text_valued m.oem_strings
    (each_true is_text m.oem_strings (texts_at m accepted 0))) in
    let generation = uuid_good m.generation fits.uuids.generation in
    let system = system_valued Inner m.system (texts_at m accepted 1) fits.uuids.system in
    let firmware = part_valued (Root 2) firmware_taken firmware_values m.firmware
    (both_of_given (λ f. list_all is_text (firmware_texts f) ≡ true) IsFittingFirmware (λ f. IsValued (Root 2) firmware_taken (firmware_values f) f)
    (firmware_valued Inner) m.firmware (if_text firmware_texts m.firmware (texts_at m accepted 2)) fits.firmware) in
    let chassis = part_valued (Root 3) chassis_taken chassis_values m.chassis
    (both_of_given (λ c. list_all is_text (chassis_texts c) ≡ true) (λ c. is_lawful_chassis c ≡ true)
    (λ c. IsValued (Root 3) chassis_taken (chassis_values c) c) (chassis_valued Inner) m.chassis
    (if_text chassis_texts m.chassis (texts_at m accepted 3))
    (if_true is_lawful_chassis m.chassis (holds_where_kept 0 (option_map_or is_lawful_chassis m.chassis true) (kept m accepted 6)))) in
    let first : List Value = Value.Number 1 ∷ Value.Number m.top_mib ∷ [] in
    let a = list_values text_values m.oem_strings in
    let id : List Value = uuid_or_nothing m.generation ∷ [] in
    let b = system_values m.system in
    let c = part_values firmware_values m.firmware in
    let d = part_values chassis_values m.chassis in
    let behind : List Value = Value.Count 1 ∷ (b ++ (c ++ d)) in
    record {
      back = λ more.
          rw (
            append_assoc a (id ++ behind) more,
            append_assoc c d more,
            strings.back (id ++ (Value.Count 1 ∷ (b ++ (c ++ (d ++ more))))),
            uuid_back m.generation,
            uuid_back m.system.uuid,
            firmware.back (d ++ more),
            chassis.back more,
            top.1,
          ) refl;
      fits = keys_append Root (take 2 front_keys) (drop 2 front_keys) first (a ++ (id ++ behind))
          (good_fits Root (take 2 front_keys) first ((omega arith, refl) ⨾ top ⨾ tt))
          (first_key Root (drop 2 front_keys) a (id ++ behind) (inr strings.fits)
          (keys_append Root (take 1 (drop 3 front_keys)) (drop 4 front_keys) id behind (good_fits Root (take 1 (drop 3 front_keys)) id (generation ⨾ tt))
          (first_key Root (drop 4 front_keys) (Value.Count 1 ∷ b) (c ++ d) (inr (b, refl, system.fits))
          (first_key Root (drop 5 front_keys) c d firmware.fits (last_key Root (drop 6 front_keys) d chassis.fits refl)))));
      texts = (
        tt,
        (
          tt,
          texts_append a (id ++ behind) strings.texts
              (texts_append id behind (good_texts (take 1 (drop 3 front_keys)) id (generation ⨾ tt))
              (tt, texts_append b (c ++ d) system.texts (texts_append c d firmware.texts chassis.texts))),
        ),
      );
    }

-- the whole machine

pub machine_back : (m : Machine) → IsAccepted m → HasFittingFields m → machine_of (values_of m) ≡ m
unfolding values_of machine_of rest_of behind_of acpi_parts_of
machine_back m accepted fits =
    let last : devices_of (device_values m) ≡ (devices m, []) = rw (append-nil (device_values m)) at ((devices_valued m accepted fits).back []) in
    rw (
      (front_valued m accepted fits).back (array_values m ++ (table_values m ++ (entry_values m ++ device_values m))),
      (arrays_valued m accepted fits).back (table_values m ++ (entry_values m ++ device_values m)),
      (tables_valued m accepted fits).back (entry_values m ++ device_values m),
      (entries_valued m accepted fits).back (device_values m),
      last,
    ) refl

pub values_fit : (m : Machine) → IsAccepted m → HasFittingFields m → Fits schema (values_of m)
unfolding values_of
values_fit m accepted fits =
    keys_append Root front_keys (drop 7 root_keys) (front_values m) _ (front_valued m accepted fits).fits
    (keys_append Root array_keys (drop 11 root_keys) (array_values m) _ (arrays_valued m accepted fits).fits
    (keys_append Root table_keys (drop 15 root_keys) (table_values m) _ (tables_valued m accepted fits).fits
    (keys_append Root entry_keys device_keys (entry_values m) (device_values m) (entries_valued m accepted fits).fits
    (devices_valued m accepted fits).fits)))

pub values_texts : (m : Machine) → IsAccepted m → HasFittingFields m → AreTexts (values_of m)
unfolding values_of
values_texts m accepted fits =
    texts_append (front_values m) _ (front_valued m accepted fits).texts
    (texts_append (array_values m) _ (arrays_valued m accepted fits).texts
    (texts_append (table_values m) _ (tables_valued m accepted fits).texts
    (texts_append (entry_values m) (device_values m) (entries_valued m accepted fits).texts (devices_valued m accepted fits).texts)))
