-- The terms of a machine lead to the id of its generation, and to nothing else.
use Rattle.std.proofs.Common.{◌≡◌, ℕ, ◌+◌, ◌<◌, ◌^◌, true, false, List, [], ◌∷◌, ◌++◌, codes, cond, Option, Some, None, option_map, is_some, IsSome}
use Rattle.std.proofs.Common.{◌&&◌, ◌==◌, map, refl, sym, ap, ap₂, ◌∙◌, subst, arith, lt-ltb}
use Rattle.std.specs.List.{AllByRecursion, enumerate_from}
use Rattle.std.specs.Str.{bytes_eq}
use Rattle.std.proofs.lemmas.Bool.{cond_both}
use Rattle.vt_bytes.proofs.Each.{each_append, each_map}
use Rattle.aml_terms.specs.declared.term.Term.{Term}
use Rattle.aml_terms.specs.declared.term.Term.TheVariants.{Int, Chars, Buffer, Package}
use Rattle.aml_terms.specs.Trees.{int, pack, named, scope, device as device_tree, no_trees, tree, view, views}
use Rattle.aml_generation.specs.Generation.{zeros, or_behind, or_else, in_device, in_scope, taken_of_names, taken_of_device, taken_of_devices}
use Rattle.aml_generation.specs.Generation.{taken_inside, taken}
use Rattle.machine_desc.specs.declared.machine.Machine.{Machine}
use Rattle.machine_desc.specs.declared.machine.Hpet.{Hpet}
use Rattle.machine_desc.specs.declared.acpi_parts.Cpu.{Cpu}
use Rattle.machine_desc.specs.declared.device_parts.Bridge.{Bridge}
use Rattle.machine_desc.specs.declared.device_parts.Uart.{Uart}
use Rattle.resource_items.specs.declared.resource_item.ResourceItem.{ResourceItem}
use Rattle.resource_items.specs.declared.resource_item.ResourceItem.TheVariants.{Memory}
use Rattle.resource_items.specs.Templates.{template_of}
use Rattle.dsdt_terms.specs.Names.{path_to, name, device, hardware_id, unique_id, resources}
use Rattle.dsdt_terms.specs.Names.{pci_bridge, pci_express_bridge, serial_port, real_time_clock, keyboard_controller, event_timer}
use Rattle.dsdt_terms.specs.Bridge.{bridge_items, route_term, bridge_ids, bridge_device}
use Rattle.dsdt_terms.specs.Devices.{port_item, irq_item, uart_device, clock_device, keyboard_device, timer_device, cpu_name, cpu_device, generation_device}
use Rattle.dsdt_terms.specs.Dsdt.{has_clock, has_keyboard, uart_devices, cpu_devices, front_devices, placeless_devices, generation_devices}
use Rattle.dsdt_terms.specs.Dsdt.{devices_with, system_bus, terms_at, kept_terms}
use Rattle.dsdt_terms.proofs.Views.{view-int, view-named, view-device}
use Rattle.dsdt_terms.proofs.DeviceLists.{if_each, option_each, bridge_list, clock_list, keyboard_list, timer_list}
use Rattle.dsdt_terms.proofs.LowHalf.{id_tree, kind_tree, generation_tree, view-generation, view-terms}

-- nothing is told inside a term
abbrev TellsNothing : Term → Type 0
TellsNothing t = taken_inside (view t) ≡ (None, view t)

-- nor by it
record IsPassed (t : Term) : Type 0 where
  inside : TellsNothing t
  directly : taken_of_device (view t) ≡ (None, view t)

name_tells_nothing : (segment : List ℕ) (value : Term) → TellsNothing (name segment value)
name_tells_nothing segment value = subst (λ t. taken_inside t ≡ (None, t)) (sym (view-named (path_to segment) value)) refl

nothing_told : (ts : List Term) → AllByRecursion TellsNothing ts → taken (views ts) ≡ (None, views ts)
nothing_told [] none = refl
nothing_told (t ∷ ts) none =
    ap₂ (λ one others. or_behind one (views ts) others) none.0 (nothing_told ts none.1)

-- a device of another name, with names alone in it, is passed over
passed_device : (segment : List ℕ) (values : List Term) → bytes_eq segment (codes "VGEN") ≡ false → AllByRecursion TellsNothing values
    → IsPassed (device segment values)
passed_device segment values other none =
    let seen = sym (view-device (path_to segment) values) in
    record {
      inside = subst (λ t. taken_inside t ≡ (None, t)) seen
          (ap (in_device (path_to segment)) (nothing_told values none));
      directly = subst (λ t. taken_of_device t ≡ (None, t)) seen
          (ap (λ is. in_device (path_to segment) (cond is (taken_of_names (views values)) (None, views values))) other);
    }

names_tell_nothing : (x : List ℕ) (a : Term) (y : List ℕ) (b : Term) → AllByRecursion TellsNothing (name x a ∷ name y b ∷ [])
names_tell_nothing x a y b = (name_tells_nothing x a, (name_tells_nothing y b, tt))

-- each of the placeless devices is passed over
bridge_ids_tell_nothing : (ecam : ℕ) → AllByRecursion TellsNothing (bridge_ids ecam)
bridge_ids_tell_nothing ecam =
    cond_both (ecam == 0) _ _ (AllByRecursion TellsNothing) (λ t. (name_tells_nothing (codes "_HID") (Int pci_bridge), tt))
    (λ t. names_tell_nothing (codes "_HID") (Int pci_express_bridge) (codes "_CID") (Int pci_bridge))

passed_bridge : (b : Bridge) → IsPassed (bridge_device b)
passed_bridge b =
    let others = unique_id 0 ∷ name (codes "_BBN") (Int 0) ∷ resources (bridge_items b) ∷ name (codes "_PRT") (Package (map route_term b.routes)) ∷ [] in
    passed_device (codes "PCI0") (bridge_ids b.ecam ++ others) refl
    (each_append TellsNothing (bridge_ids b.ecam) others (bridge_ids_tell_nothing b.ecam) (
      name_tells_nothing (codes "_UID") (Int 0),
      (
        name_tells_nothing (codes "_BBN") (Int 0),
        (
          name_tells_nothing (codes "_CRS") (Buffer (template_of (bridge_items b))),
          (name_tells_nothing (codes "_PRT") (Package (map route_term b.routes)), tt),
        ),
      ),
    ))

with_resources : (segment : List ℕ) (id : ℕ) (items : List ResourceItem) → bytes_eq segment (codes "VGEN") ≡ false
    → IsPassed (device segment (hardware_id id ∷ resources items ∷ []))
with_resources segment id items other =
    passed_device segment (hardware_id id ∷ resources items ∷ []) other (names_tell_nothing (codes "_HID") (Int id) (codes "_CRS") (Buffer (template_of items)))

passed_uart : (u : ℕ × Uart) → IsPassed (uart_device u)
passed_uart u =
    let items = port_item u.1.port 8 ∷ irq_item u.1.irq ∷ [] in
    passed_device (codes "COM" ++ (0x31 + u.0) ∷ []) (hardware_id serial_port ∷ unique_id (u.0 + 1) ∷ resources items ∷ []) refl
    (name_tells_nothing (codes "_HID") (Int serial_port), names_tell_nothing (codes "_UID") (Int (u.0 + 1)) (codes "_CRS") (Buffer (template_of items)))

passed_cpu : (number : ℕ) → IsPassed (cpu_device number)
passed_cpu number =
    passed_device (cpu_name number) (name (codes "_HID") (Chars (codes "ACPI0007")) ∷ unique_id number ∷ []) refl
    (names_tell_nothing (codes "_HID") (Chars (codes "ACPI0007")) (codes "_UID") (Int number))

placeless_passed : (m : Machine) → AllByRecursion IsPassed (placeless_devices m)
placeless_passed m =
    let timer = λ (hpet : Hpet). with_resources (codes "HPET") event_timer (Memory (record { base = hpet.address; length = 0x400 }) ∷ []) refl in
    let clock = with_resources (codes "RTC_") real_time_clock (port_item 0x70 2 ∷ irq_item 8 ∷ []) refl in
    let keyboard = with_resources (codes "KBD_") keyboard_controller (port_item 0x60 1 ∷ port_item 0x64 1 ∷ irq_item 1 ∷ []) refl in
    each_append IsPassed (front_devices m) (cpu_devices m.cpus)
    (each_append IsPassed (bridge_list m ++ uart_devices m.uarts ++ clock_list m ++ keyboard_list m) (timer_list m)
    (each_append IsPassed (bridge_list m ++ uart_devices m.uarts ++ clock_list m) (keyboard_list m)
    (each_append IsPassed (bridge_list m ++ uart_devices m.uarts) (clock_list m)
    (each_append IsPassed (bridge_list m) (uart_devices m.uarts) (option_each IsPassed bridge_device passed_bridge m.bridge)
    (each_map IsPassed uart_device passed_uart (enumerate_from 0 m.uarts)))
    (if_each IsPassed (has_clock m.power) clock_device clock)) (if_each IsPassed (has_keyboard m.power) keyboard_device keyboard))
    (option_each IsPassed timer_device timer m.hpet))
    (each_map IsPassed (λ (c : ℕ × Cpu). cpu_device c.0) (λ c. passed_cpu c.0) (enumerate_from 0 m.cpus))

-- devices that are passed over in front of others
devices_behind : (ts us those : List Term) (told : Option ℕ) → AllByRecursion IsPassed ts → taken_of_devices (views us) ≡ (told, views those)
    → taken_of_devices (views (ts ++ us)) ≡ (told, views (ts ++ those))
devices_behind [] us those told passed is = is
devices_behind (t ∷ ts) us those told passed is =
    ap₂ (λ one others. or_behind one (views (ts ++ us)) others) passed.0.directly (devices_behind ts us those told passed.1 is)

-- what the device of the id tells, and what stays of it
device_taken : (address : ℕ) → address < 2 ^ 32 → taken_of_device (generation_tree (int address)) ≡ (Some address, generation_tree (int 0))
device_taken address small =
    let whole : address + 0 ≡ address = omega arith in
    ap (λ below. let told : Option ℕ = cond (below && true) (Some (address + 0)) None in (
      told,
      device_tree (path_to (codes "VGEN")) (tree id_tree (tree kind_tree (tree (named (path_to (codes "ADDR"))
          (cond (is_some told) zeros (pack (tree (int address) (tree (int 0) no_trees))))) no_trees))),
    )) (lt-ltb address (2 ^ 32) small)
    ∙ ap (λ n. (Some n, generation_tree (int 0))) whole

last_taken : (address : ℕ) (id : Option ℕ) → (IsSome id → address < 2 ^ 32)
    → taken_of_devices (views (generation_devices (Int address) id)) ≡ (option_map (λ number. address) id, views (generation_devices (Int 0) id))
last_taken address None small = refl
last_taken address (Some number) small =
    let seen : (n : ℕ) → view (generation_device (Int n)) ≡ generation_tree (int n) = λ n. view-generation (Int n) ∙ ap generation_tree (view-int n) in
    ap (λ t. or_behind (taken_of_device t) no_trees (None, no_trees)) (seen address)
    ∙ ap (λ one. or_behind one no_trees (None, no_trees)) (device_taken address (small refl))
    ∙ ap (λ t. (Some address, tree t no_trees)) (sym (seen 0))

-- inside the devices nothing is told
inside_each : (ts : List Term) → AllByRecursion IsPassed ts → AllByRecursion TellsNothing ts
inside_each [] passed = tt
inside_each (t ∷ ts) passed = (passed.0.inside, inside_each ts passed.1)

-- so where the scope's own devices tell nothing, nothing is told
scope_taken : (address : ℕ) (m : Machine) (id : Option ℕ) → m.generation ≡ id → (IsSome m.generation → address < 2 ^ 32)
    → or_else (taken_of_devices (views (devices_with (Int address) m))) (taken (views (devices_with (Int address) m)))
    ≡ (option_map (λ number. address) id, views (devices_with (Int 0) m))
scope_taken address m id is small =
    let ts = placeless_devices m in
    let own = devices_behind ts (generation_devices (Int address) m.generation) (generation_devices (Int 0) m.generation)
    (option_map (λ number. address) m.generation) (placeless_passed m) (last_taken address m.generation small) in
    ap (λ told. or_else told (taken (views (devices_with (Int address) m)))) own
    ∙ by_id id is
  where
    by_id : (o : Option ℕ) → m.generation ≡ o
        → or_else (option_map (λ number. address) m.generation, views (devices_with (Int 0) m)) (taken (views (devices_with (Int address) m)))
        ≡ (option_map (λ number. address) o, views (devices_with (Int 0) m))
    by_id (Some number) o_is = ap (λ o. or_else (option_map (λ number. address) o, views (devices_with (Int 0) m))
        (taken (views (devices_with (Int address) m)))) o_is
    by_id None o_is =
        let alike : generation_devices (Int address) m.generation ≡ generation_devices (Int 0) m.generation =
        ap (generation_devices (Int address)) o_is ∙ sym (ap (generation_devices (Int 0)) o_is) in
        let none : generation_devices (Int 0) m.generation ≡ [] = ap (generation_devices (Int 0)) o_is in
        ap (λ o. or_else (option_map (λ number. address) o, views (devices_with (Int 0) m)) (taken (views (devices_with (Int address) m)))) o_is
        ∙ ap (λ those. taken (views (placeless_devices m ++ those))) alike
        ∙ nothing_told (devices_with (Int 0) m)
        (each_append TellsNothing (placeless_devices m) (generation_devices (Int 0) m.generation) (inside_each (placeless_devices m) (placeless_passed m))
        (subst (AllByRecursion TellsNothing) (sym none) tt))

pub terms_taken : (address : ℕ) (m : Machine) → (IsSome m.generation → address < 2 ^ 32)
    → taken (views (terms_at address m)) ≡ (option_map (λ number. address) m.generation, views (kept_terms m))
terms_taken address m small =
    ap taken (view-terms (Int address) m)
    ∙ ap (λ told. or_behind (in_scope system_bus told) no_trees (None, no_trees)) (scope_taken address m m.generation refl small)
    ∙ by_answer (option_map (λ number. address) m.generation)
    ∙ ap (λ ts. (option_map (λ number. address) m.generation, ts)) (sym (view-terms (Int 0) m))
  where
    by_answer : (o : Option ℕ) → or_behind (o, scope system_bus (views (devices_with (Int 0) m))) no_trees (None, no_trees)
        ≡ (o, tree (scope system_bus (views (devices_with (Int 0) m))) no_trees)
    by_answer None = refl
    by_answer (Some address) = refl
