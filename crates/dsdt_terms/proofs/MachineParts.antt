-- The terms of a machine as parts that can be written.
use Rattle.std.proofs.Common.{◌≡◌, ℕ, ◌+◌, ◌*◌, ◌<◌, ◌≤◌, Bool, true, false, List, [], ◌∷◌, ◌++◌, length, Option, Some, None, IfSome, option_map}
use Rattle.std.proofs.Common.{refl, sym, subst, arith}
use Rattle.std.specs.Prelude.{option_to_list}
use Rattle.std.specs.List.{AllByRecursion, enumerate_from}
use Rattle.std.proofs.lemmas.List.FromFn.{length-enumerate_from}
use Rattle.aml_terms.specs.declared.term.Term.{Term}
use Rattle.aml_terms.specs.declared.term.Term.TheVariants.{Scope}
use Rattle.aml_terms.specs.Trees.{view, views}
use Rattle.aml_terms.specs.Paths.{IsGoodPath}
use Rattle.aml_terms.specs.WellFormed.{IsGood, IsGoodValue, all_plain}
use Rattle.machine_desc.specs.declared.machine.Machine.{Machine}
use Rattle.machine_desc.specs.declared.machine.Hpet.{Hpet}
use Rattle.machine_desc.specs.declared.acpi_parts.Cpu.{Cpu}
use Rattle.machine_desc.specs.declared.device_parts.Bridge.{Bridge}
use Rattle.machine_desc.specs.declared.device_parts.Uart.{Uart}
use Rattle.machine_desc.specs.Rules.{windows_of, routes_of, is_lawful_route, IsAccepted}
use Rattle.machine_desc.specs.Fields.{IsFittingBridge, HasFittingFields}
use Rattle.dsdt_terms.specs.Bridge.{bridge_device}
use Rattle.dsdt_terms.specs.Devices.{uart_device, clock_device, keyboard_device, timer_device, cpu_device, generation_device}
use Rattle.dsdt_terms.specs.Dsdt.{if_there, has_clock, has_keyboard, uart_devices, cpu_devices, front_devices, placeless_devices}
use Rattle.dsdt_terms.specs.Dsdt.{generation_devices, devices_with, system_bus, terms_with}
use Rattle.dsdt_terms.proofs.Limits.{most_cpus, most_uarts, most_windows, most_routes, cpu_size, uart_size, clock_size, keyboard_size, timer_size}
use Rattle.dsdt_terms.proofs.Limits.{generation_size, bridge_size}
use Rattle.dsdt_terms.proofs.Limits.{placeless_size, devices_size, machine_size}
use Rattle.dsdt_terms.proofs.AcceptedDevices.{HasFewDevices, few_devices, lawful_routes}
use Rattle.dsdt_terms.proofs.Views.{view-scope}
use Rattle.dsdt_terms.proofs.WrittenParts.{Premises, IsPart, AreParts, no_parts, one_more, both_parts, enough, each_part, scope_part, all_same}
use Rattle.dsdt_terms.proofs.NamedParts.{four_true}
use Rattle.dsdt_terms.proofs.DeviceParts.{device_room, uart_part, clock_part, keyboard_part, timer_part, cpu_part, generation_part, bridge_part}

-- devices that have at most so many bytes together
abbrev AreDevices : Premises → ℕ → List Term → Type 0
AreDevices P most ts = AreParts IsGood P device_room most ts

no_device : (P : Premises) (most : ℕ) → AreDevices P most []
no_device P most = enough IsGood P device_room 0 most [] (omega arith) (no_parts IsGood P device_room)

one_device : (P : Premises) (most : ℕ) (t : Term) → IsPart IsGood P device_room most (view t) → AreDevices P most (t ∷ [])
one_device P most t part =
    enough IsGood P device_room (most + 0) most (t ∷ []) (omega arith)
    (one_more IsGood P device_room most 0 t [] part (no_parts IsGood P device_room))

-- one that is there or isn't
device_if : (P : Premises) (most : ℕ) (there : Bool) (t : Term) → IsPart IsGood P device_room most (view t) → AreDevices P most (if_there there t)
device_if P most true t part = one_device P most t part
device_if P most false t part = no_device P most

timer_parts : (P : Premises) (hpet : Option Hpet) → AreDevices P timer_size (option_to_list (option_map timer_device hpet))
timer_parts P None = no_device P timer_size
timer_parts P (Some hpet) = one_device P timer_size (timer_device hpet) (timer_part P hpet)

bridge_parts : (P : Premises) (bridge : Option Bridge) → length (windows_of bridge) ≤ most_windows → length (routes_of bridge) ≤ most_routes
    → AllByRecursion (λ r. is_lawful_route r ≡ true) (routes_of bridge) → (P.fit → IfSome bridge IsFittingBridge)
    → AreDevices P bridge_size (option_to_list (option_map bridge_device bridge))
bridge_parts P None windows routes lawful fit = no_device P bridge_size
bridge_parts P (Some b) windows routes lawful fit =
    one_device P bridge_size (bridge_device b) (bridge_part P b windows routes lawful fit)

-- what holds of elements whose places are below a number
each_placed : {A : Type 0} (Holds : ℕ × A → Type 0) (most : ℕ) → ((e : ℕ × A) → e.0 < most → Holds e) → (place : ℕ) (elements : List A)
    → place + length elements ≤ most → AllByRecursion Holds (enumerate_from place elements)
each_placed Holds most is place [] few = tt
each_placed Holds most is place (a ∷ elements) few = (is (place, a) (omega arith), each_placed Holds most is (place + 1) elements (omega arith))

uart_parts : (P : Premises) (uarts : List Uart) → length uarts ≤ most_uarts → AreDevices P (uart_size * most_uarts) (uart_devices uarts)
uart_parts P uarts few =
    let placed = enumerate_from 0 uarts in
    let each = each_placed (λ u. IsPart IsGood P device_room uart_size (view (uart_device u))) most_uarts (uart_part P) 0 uarts (omega (arith, few)) in
    enough IsGood P device_room (uart_size * length placed) (uart_size * most_uarts) (uart_devices uarts)
    (omega (arith, few, length-enumerate_from 0 uarts)) (each_part IsGood P device_room uart_size uart_device placed each)

cpu_parts : (P : Premises) (cpus : List Cpu) → length cpus ≤ most_cpus → AreDevices P (cpu_size * most_cpus) (cpu_devices cpus)
cpu_parts P cpus few =
    let placed = enumerate_from 0 cpus in
    let device : ℕ × Cpu → Term = λ c. cpu_device c.0 in
    let each = each_placed (λ c. IsPart IsGood P device_room cpu_size (view (device c))) most_cpus (λ c below. cpu_part P c.0 (omega (arith, below))) 0 cpus
    (omega (arith, few)) in
    enough IsGood P device_room (cpu_size * length placed) (cpu_size * most_cpus) (cpu_devices cpus)
    (omega (arith, few, length-enumerate_from 0 cpus)) (each_part IsGood P device_room cpu_size device placed each)

-- some devices behind others
both : (P : Premises) (few most : ℕ) (ts us : List Term) → AreDevices P few ts → AreDevices P most us → AreDevices P (few + most) (ts ++ us)
both P few most ts us = both_parts IsGood P device_room few most ts us

placeless_parts : (P : Premises) (m : Machine) → IsAccepted m → (P.fit → HasFittingFields m) → AreDevices P placeless_size (placeless_devices m)
placeless_parts P m accepted fit =
    let few : HasFewDevices m = few_devices m accepted in
    let bridge : List Term = option_to_list (option_map bridge_device m.bridge) in
    let uarts : List Term = uart_devices m.uarts in
    let clock : List Term = if_there (has_clock m.power) clock_device in
    let keyboard : List Term = if_there (has_keyboard m.power) keyboard_device in
    let timer : List Term = option_to_list (option_map timer_device m.hpet) in
    let some_size : ℕ = bridge_size + uart_size * most_uarts in
    let first = both P bridge_size (uart_size * most_uarts) bridge uarts
    (bridge_parts P m.bridge few.windows few.routes (lawful_routes m accepted) (λ f. (fit f).bridge)) (uart_parts P m.uarts few.uarts) in
    let second = both P some_size clock_size (bridge ++ uarts) clock first (device_if P clock_size (has_clock m.power) clock_device (clock_part P)) in
    let third = both P (some_size + clock_size) keyboard_size (bridge ++ uarts ++ clock) keyboard second
    (device_if P keyboard_size (has_keyboard m.power) keyboard_device (keyboard_part P)) in
    let fourth = both P (some_size + clock_size + keyboard_size) timer_size (bridge ++ uarts ++ clock ++ keyboard) timer third (timer_parts P m.hpet) in
    both P (some_size + clock_size + keyboard_size + timer_size) (cpu_size * most_cpus) (front_devices m) (cpu_devices m.cpus) fourth
    (cpu_parts P m.cpus few.cpus)

generation_parts : (P : Premises) (low : Term) (id : Option ℕ) → IsPart IsGoodValue P 13 9 (view low)
    → AreDevices P generation_size (generation_devices low id)
generation_parts P low None half = no_device P generation_size
generation_parts P low (Some number) half = one_device P generation_size (generation_device low) (generation_part P low half)

-- all terms, where the low half of the id's address is an integer or a dword
pub machine_parts : (P : Premises) (low : Term) (m : Machine) → IsAccepted m → (P.fit → HasFittingFields m) → IsPart IsGoodValue P 13 9 (view low)
    → AreParts IsGood P 16 machine_size (terms_with low m)
machine_parts P low m accepted fit half =
    let devices = both P placeless_size generation_size (placeless_devices m) (generation_devices low m.generation)
    (placeless_parts P m accepted fit) (generation_parts P low m.generation half) in
    let good : IsGoodPath system_bus = (record { alone = λ root. refl; near = omega arith; segments = (four_true, tt); some = omega arith }, omega arith) in
    let bus = subst (IsPart IsGood P 16 machine_size) (sym (view-scope system_bus (devices_with low m)))
    (scope_part P device_room devices_size system_bus (devices_with low m) good (omega arith) devices (omega arith)) in
    enough IsGood P 16 (machine_size + 0) machine_size (terms_with low m) (omega arith)
    (one_more IsGood P 16 machine_size 0 (Scope system_bus (devices_with low m)) [] bus (no_parts IsGood P 16))

-- those of the placeless devices are all as they are read again
abbrev plain_premises : Premises
plain_premises = record { fit = ⊥; plain = Unit {0} }

pub placeless_same : (m : Machine) → IsAccepted m → all_plain (views (placeless_devices m)) ≡ views (placeless_devices m)
placeless_same m accepted =
    all_same IsGood plain_premises device_room (placeless_devices m) (placeless_parts plain_premises m accepted (λ f. absurd f)).each tt
