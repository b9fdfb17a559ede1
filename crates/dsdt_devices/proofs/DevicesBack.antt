-- The devices of an accepted machine are told by the terms that are kept of it.
use Rattle.std.proofs.Common.{◌≡◌, Bool, true, false, List, codes, map, is_some, Option, Some, None, IfSome, option_map, slice_get, refl, ap, ap₂}
use Rattle.std.proofs.Common.{◌∙◌, append-nil}
use Rattle.std.specs.Prelude.{option_to_list}
use Rattle.std.specs.List.{filter_map, list_all, AllByRecursion}
use Rattle.aml_terms.specs.declared.term.Term.TheVariants.{Int, Scope}
use Rattle.aml_terms.specs.Trees.{Tree, view}
use Rattle.machine_desc.specs.declared.machine.Machine.{Machine}
use Rattle.machine_desc.specs.declared.device_parts.Bridge.{Bridge}
use Rattle.machine_desc.specs.declared.device_parts.Uart.{Uart}
use Rattle.machine_desc.specs.Rules.{windows_of, routes_of, is_lawful_window, is_lawful_route, IsAccepted}
use Rattle.machine_desc.specs.Fields.{IsFittingBridge, HasFittingFields}
use Rattle.dsdt_terms.specs.Dsdt.{has_clock, has_keyboard, devices_with, system_bus, kept_terms, without_ecam}
use Rattle.dsdt_terms.proofs.AcceptedDevices.{lawful_windows, lawful_routes}
use Rattle.dsdt_devices.specs.declared.devices.DsdtDevices.{DsdtDevices}
use Rattle.dsdt_devices.specs.BusTerms.{in_bus, bus_terms, first_told, in_device}
use Rattle.dsdt_devices.specs.Told.{bridge_in, uart_in, devices_in}
use Rattle.dsdt_devices.proofs.FirstTold.{first_told-filter_map}
use Rattle.dsdt_devices.proofs.Views.{in_bus-scope}
use Rattle.dsdt_devices.proofs.ToldOfLists.{told_of, if_told}
use Rattle.dsdt_devices.proofs.ToldOfMachines.{bridge_values, clock_values, keyboard_values, bridge_told, clock_told, keyboard_told, uarts_told}
use Rattle.dsdt_devices.proofs.PortsBack.{ports_back}
use Rattle.dsdt_devices.proofs.BridgeBack.{bridge_back}

-- what stands on the bus of a machine are its devices
on_the_bus : (m : Machine) → bus_terms (map view (kept_terms m)) ≡ map view (devices_with (Int 0) m)
on_the_bus m =
    append-nil (in_bus (view (Scope system_bus (devices_with (Int 0) m)))) ∙ in_bus-scope system_bus (devices_with (Int 0) m)

-- the first of all that is told of them
first_there : {X : Type 0} (told : Tree → Option X) (m : Machine) (those : List X) → told_of told (devices_with (Int 0) m) ≡ those
    → first_told told (bus_terms (map view (kept_terms m))) ≡ slice_get those 0
first_there told m those are =
    ap (first_told told) (on_the_bus m) ∙ first_told-filter_map told (map view (devices_with (Int 0) m)) ∙ ap (λ all. slice_get all 0) are

-- the bridge, if there is one
bridge_of : (part : Option Bridge) → IfSome part IsFittingBridge → list_all is_lawful_window (windows_of part) ≡ true
    → AllByRecursion (λ route. is_lawful_route route ≡ true) (routes_of part)
    → option_map bridge_in (slice_get (option_to_list (option_map (λ b. map view (bridge_values b)) part)) 0) ≡ option_map without_ecam part
bridge_of None fits windows routes = refl
bridge_of (Some b) fits windows routes = ap Some (bridge_back b fits windows routes)

-- one that is there or isn't
there_told : {X : Type 0} (there : Bool) (x : X) → is_some (slice_get (if_told there x) 0) ≡ there
there_told true x = refl
there_told false x = refl

-- each part is told as it is, the bridge without its configuration space
pub devices_back : (m : Machine) → IsAccepted m → HasFittingFields m → devices_in (map view (kept_terms m)) ≡ record {
  bridge = option_map without_ecam m.bridge;
  uarts = m.uarts;
  rtc = has_clock m.power;
  keyboard = has_keyboard m.power;
}
devices_back m accepted fits =
    let those = bus_terms (map view (kept_terms m)) in
    let clocks = if_told (has_clock m.power) (map view clock_values) in
    let keyboards = if_told (has_keyboard m.power) (map view keyboard_values) in
    let bridge : option_map bridge_in (first_told (in_device (codes "PCI0")) those) ≡ option_map without_ecam m.bridge =
    ap (option_map bridge_in)
    (first_there (in_device (codes "PCI0")) m (option_to_list (option_map (λ b. map view (bridge_values b)) m.bridge)) (bridge_told m))
    ∙ bridge_of m.bridge fits.bridge (lawful_windows m accepted) (lawful_routes m accepted) in
    let uarts : filter_map uart_in those ≡ m.uarts = ap (filter_map uart_in) (on_the_bus m) ∙ uarts_told m m.uarts (ports_back m accepted) in
    let clock : is_some (first_told (in_device (codes "RTC_")) those) ≡ has_clock m.power =
    ap is_some (first_there (in_device (codes "RTC_")) m clocks (clock_told m)) ∙ there_told (has_clock m.power) (map view clock_values) in
    let keyboard : is_some (first_told (in_device (codes "KBD_")) those) ≡ has_keyboard m.power =
    ap is_some (first_there (in_device (codes "KBD_")) m keyboards (keyboard_told m))
    ∙ there_told (has_keyboard m.power) (map view keyboard_values) in
    let made : Option Bridge → List Uart → Bool → Bool → DsdtDevices = λ b us c k. record { bridge = b; uarts = us; rtc = c; keyboard = k } in
    ap₂ (λ b us. made b us (is_some (first_told (in_device (codes "RTC_")) those)) (is_some (first_told (in_device (codes "KBD_")) those))) bridge uarts
    ∙ ap₂ (made (option_map without_ecam m.bridge) m.uarts) clock keyboard
