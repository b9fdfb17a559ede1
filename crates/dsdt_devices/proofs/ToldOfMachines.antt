-- What the devices of a machine tell of a name, and of serial ports.
use Rattle.std.proofs.Common.{◌≡◌, ℕ, ◌+◌, ◌/◌, ◌%◌, ◌<◌, ◌≤◌, false, ◌==◌, List, [], ◌∷◌, ◌++◌, codes, map, nat_lt, cond, if◌then◌else◌, Option}
use Rattle.std.proofs.Common.{Some, None, option_map, refl, ap, ◌∙◌, arith, ltb-true, append-nil}
use Rattle.std.specs.Prelude.{option_to_list}
use Rattle.std.proofs.lemmas.Bool.{cond_both, ne_eqb}
use Rattle.std.specs.Str.{bytes_eq}
use Rattle.std.specs.List.{enumerate_from}
use Rattle.aml_terms.specs.declared.term.Term.{Term}
use Rattle.aml_terms.specs.declared.term.Term.TheVariants.{Int, Chars, Package}
use Rattle.aml_terms.specs.Trees.{Tree, view}
use Rattle.machine_desc.specs.declared.machine.Machine.{Machine}
use Rattle.machine_desc.specs.declared.acpi_parts.Cpu.{Cpu}
use Rattle.machine_desc.specs.declared.device_parts.Bridge.{Bridge}
use Rattle.machine_desc.specs.declared.device_parts.Uart.{Uart}
use Rattle.resource_items.specs.declared.resource_item.ResourceItem.TheVariants.{Memory}
use Rattle.dsdt_terms.specs.Names.{path_to, name, device, hardware_id, unique_id, resources, serial_port, real_time_clock, keyboard_controller, event_timer}
use Rattle.dsdt_terms.specs.Bridge.{bridge_ids, bridge_items, route_term, bridge_device}
use Rattle.dsdt_terms.specs.Devices.{port_item, irq_item, uart_device, clock_device, keyboard_device, timer_device, hex_digit, cpu_name, cpu_device}
use Rattle.dsdt_terms.specs.Devices.{generation_device}
use Rattle.dsdt_terms.specs.Dsdt.{if_there, has_clock, has_keyboard, uart_devices, cpu_devices, front_devices, placeless_devices, generation_devices}
use Rattle.dsdt_terms.specs.Dsdt.{devices_with}
use Rattle.dsdt_devices.specs.BusTerms.{in_device}
use Rattle.dsdt_devices.specs.Told.{resources_in, uart_of, is_uart, uart_in}
use Rattle.dsdt_devices.proofs.Views.{in_device-device, uart_in-device}
use Rattle.dsdt_devices.proofs.ToldOfLists.{told_of, joined, before_none, none_of_each, none_of_part, none_if_there, one_of_part, if_told, one_if_there}

-- nothing is told of a device with this name, whatever stands in it
abbrev Passes : {X : Type 0} → (Tree → Option X) → List ℕ → Type 0
Passes told segment = (values : List Term) → told (view (device segment values)) ≡ None

-- what is told of the devices of a machine where nothing is told of its timer, its processors and the id of its generation
record AreTold {X : Type 0} (told : Tree → Option X) (m : Machine) (bridges uarts clocks keyboards : List X) : Type 0 where
  bridge : told_of told (option_to_list (option_map bridge_device m.bridge)) ≡ bridges
  ports : told_of told (uart_devices m.uarts) ≡ uarts
  clock : told_of told (if_there (has_clock m.power) clock_device) ≡ clocks
  keyboard : told_of told (if_there (has_keyboard m.power) keyboard_device) ≡ keyboards
  timer : Passes told (codes "HPET")
  processors : (n : ℕ) → Passes told (cpu_name n)
  generation : Passes told (codes "VGEN")

-- all that is told of them
all_told : {X : Type 0} (told : Tree → Option X) (m : Machine) (bridges uarts clocks keyboards : List X) → AreTold told m bridges uarts clocks keyboards
    → told_of told (devices_with (Int 0) m) ≡ bridges ++ uarts ++ clocks ++ keyboards
all_told told m bridges uarts clocks keyboards are =
    let bridge = option_to_list (option_map bridge_device m.bridge) in
    let ports = uart_devices m.uarts in
    let clock = if_there (has_clock m.power) clock_device in
    let keyboard = if_there (has_keyboard m.power) keyboard_device in
    let those = bridges ++ uarts ++ clocks ++ keyboards in
    let first : told_of told (bridge ++ ports ++ clock ++ keyboard) ≡ those =
    joined told (bridge ++ ports ++ clock) keyboard (bridges ++ uarts ++ clocks) keyboards
    (joined told (bridge ++ ports) clock (bridges ++ uarts) clocks (joined told bridge ports bridges uarts are.bridge are.ports) are.clock)
    are.keyboard in
    let timers : told_of told (option_to_list (option_map timer_device m.hpet)) ≡ [] =
    none_of_part told timer_device
    (λ hpet. are.timer (hardware_id event_timer ∷ resources (Memory (record { base = hpet.address; length = 0x400 }) ∷ []) ∷ [])) m.hpet in
    let processors : told_of told (cpu_devices m.cpus) ≡ [] =
    none_of_each told (λ (cpu : ℕ × Cpu). cpu_device cpu.0)
    (λ cpu. are.processors cpu.0 (name (codes "_HID") (Chars (codes "ACPI0007")) ∷ unique_id cpu.0 ∷ [])) (enumerate_from 0 m.cpus) in
    let ids : told_of told (generation_devices (Int 0) m.generation) ≡ [] =
    none_of_part told (λ (number : ℕ). generation_device (Int 0))
    (λ number. are.generation (name (codes "_HID") (Chars (codes "QEMUVGID")) ∷ name (codes "_CID") (Chars (codes "VM_Gen_Counter"))
    ∷ name (codes "ADDR") (Package (Int 0 ∷ Int 0 ∷ [])) ∷ [])) m.generation in
    before_none told (placeless_devices m) (generation_devices (Int 0) m.generation) those
    (before_none told (front_devices m) (cpu_devices m.cpus) those
    (before_none told (bridge ++ ports ++ clock ++ keyboard) (option_to_list (option_map timer_device m.hpet)) those first timers) processors) ids

-- the values in a bridge's device
abbrev pub bridge_values : Bridge → List Term
bridge_values b =
    bridge_ids b.ecam ++ unique_id 0 ∷ name (codes "_BBN") (Int 0) ∷ resources (bridge_items b) ∷ name (codes "_PRT") (Package (map route_term b.routes))
    ∷ []

-- in that of the clock
abbrev pub clock_values : List Term
clock_values = hardware_id real_time_clock ∷ resources (port_item 0x70 2 ∷ irq_item 8 ∷ []) ∷ []

-- in that of the keyboard
abbrev pub keyboard_values : List Term
keyboard_values = hardware_id keyboard_controller ∷ resources (port_item 0x60 1 ∷ port_item 0x64 1 ∷ irq_item 1 ∷ []) ∷ []

-- in that of a serial port
abbrev pub uart_values : ℕ × Uart → List Term
uart_values u = hardware_id serial_port ∷ unique_id (u.0 + 1) ∷ resources (port_item u.1.port 8 ∷ irq_item u.1.irq ∷ []) ∷ []

-- what stands in a device, where it has this name
named : (segment : List ℕ) (other : List ℕ) (values : List Term)
    → in_device segment (view (device other values)) ≡ (if bytes_eq other segment then Some (map view values) else None)
named segment other values = in_device-device segment (path_to other) values

-- the bridge is the only one of its name
pub bridge_told : (m : Machine)
    → told_of (in_device (codes "PCI0")) (devices_with (Int 0) m) ≡ option_to_list (option_map (λ b. map view (bridge_values b)) m.bridge)
bridge_told m =
    let told = in_device (codes "PCI0") in
    let those = option_to_list (option_map (λ b. map view (bridge_values b)) m.bridge) in
    all_told told m those [] [] [] (record {
      bridge = one_of_part told bridge_device (λ b. map view (bridge_values b)) (λ b. named (codes "PCI0") (codes "PCI0") (bridge_values b)) m.bridge;
      ports =
          none_of_each told uart_device (λ u. named (codes "PCI0") (codes "COM" ++ (0x31 + u.0) ∷ []) (uart_values u)) (enumerate_from 0 m.uarts);
      clock = none_if_there told clock_device (named (codes "PCI0") (codes "RTC_") clock_values) (has_clock m.power);
      keyboard = none_if_there told keyboard_device (named (codes "PCI0") (codes "KBD_") keyboard_values) (has_keyboard m.power);
      timer = named (codes "PCI0") (codes "HPET");
      processors = λ n. named (codes "PCI0") (cpu_name n);
      generation = named (codes "PCI0") (codes "VGEN");
    }) ∙ append-nil (those ++ [] ++ []) ∙ append-nil (those ++ []) ∙ append-nil those

-- so is the clock
pub clock_told : (m : Machine) → told_of (in_device (codes "RTC_")) (devices_with (Int 0) m) ≡ if_told (has_clock m.power) (map view clock_values)
clock_told m =
    let told = in_device (codes "RTC_") in
    let those = if_told (has_clock m.power) (map view clock_values) in
    all_told told m [] [] those [] (record {
      bridge = none_of_part told bridge_device (λ b. named (codes "RTC_") (codes "PCI0") (bridge_values b)) m.bridge;
      ports =
          none_of_each told uart_device (λ u. named (codes "RTC_") (codes "COM" ++ (0x31 + u.0) ∷ []) (uart_values u)) (enumerate_from 0 m.uarts);
      clock = one_if_there told clock_device (map view clock_values) (named (codes "RTC_") (codes "RTC_") clock_values) (has_clock m.power);
      keyboard = none_if_there told keyboard_device (named (codes "RTC_") (codes "KBD_") keyboard_values) (has_keyboard m.power);
      timer = named (codes "RTC_") (codes "HPET");
      processors = λ n. named (codes "RTC_") (cpu_name n);
      generation = named (codes "RTC_") (codes "VGEN");
    }) ∙ append-nil those

-- and so is the keyboard
pub keyboard_told : (m : Machine)
    → told_of (in_device (codes "KBD_")) (devices_with (Int 0) m) ≡ if_told (has_keyboard m.power) (map view keyboard_values)
keyboard_told m =
    let told = in_device (codes "KBD_") in
    all_told told m [] [] [] (if_told (has_keyboard m.power) (map view keyboard_values)) (record {
      bridge = none_of_part told bridge_device (λ b. named (codes "KBD_") (codes "PCI0") (bridge_values b)) m.bridge;
      ports =
          none_of_each told uart_device (λ u. named (codes "KBD_") (codes "COM" ++ (0x31 + u.0) ∷ []) (uart_values u)) (enumerate_from 0 m.uarts);
      clock = none_if_there told clock_device (named (codes "KBD_") (codes "RTC_") clock_values) (has_clock m.power);
      keyboard = one_if_there told keyboard_device (map view keyboard_values) (named (codes "KBD_") (codes "KBD_") keyboard_values) (has_keyboard m.power);
      timer = named (codes "KBD_") (codes "HPET");
      processors = λ n. named (codes "KBD_") (cpu_name n);
      generation = named (codes "KBD_") (codes "VGEN");
    })

-- No hexadecimal digit stands behind F, so the second letter of a processor's name is no O, as that of a serial port's is.
hex_below : (digit : ℕ) → digit < 16 → hex_digit digit ≤ 0x46
hex_below digit few =
    cond_both (nat_lt digit 10) (0x30 + digit) (0x37 + digit) (λ c. c ≤ 0x46) (λ t. let below : digit < 10 = ltb-true digit 10 t in omega arith)
    (λ t. omega arith)

-- so no digit of a processor's number is an O
no_letter : (n : ℕ) → (hex_digit (n / 0x100 % 0x10) == 0x4F) ≡ false
no_letter n =
    ne_eqb (hex_digit (n / 0x100 % 0x10)) 0x4F (λ same. absurd (omega (arith, same, hex_below (n / 0x100 % 0x10) (omega arith))))

-- and no processor has the name of a serial port
no_uart : (n : ℕ) → is_uart (path_to (cpu_name n)) ≡ false
no_uart n = rw (no_letter n) refl

-- the serial ports, where each of their devices tells one
pub uarts_told : (m : Machine) (uarts : List Uart) → told_of uart_in (uart_devices m.uarts) ≡ uarts → told_of uart_in (devices_with (Int 0) m) ≡ uarts
uarts_told m uarts are =
    all_told uart_in m [] uarts [] [] (record {
      bridge = none_of_part uart_in bridge_device (λ b. uart_in-device (path_to (codes "PCI0")) (bridge_values b)) m.bridge;
      ports = are;
      clock = none_if_there uart_in clock_device (uart_in-device (path_to (codes "RTC_")) clock_values) (has_clock m.power);
      keyboard = none_if_there uart_in keyboard_device (uart_in-device (path_to (codes "KBD_")) keyboard_values) (has_keyboard m.power);
      timer = uart_in-device (path_to (codes "HPET"));
      processors = λ n values. uart_in-device (path_to (cpu_name n)) values
          ∙ ap (λ is. cond is (Some (uart_of (resources_in (map view values)))) None) (no_uart n);
      generation = uart_in-device (path_to (codes "VGEN"));
    }) ∙ append-nil (uarts ++ []) ∙ append-nil uarts
