-- A serial port is told by its device.
use Rattle.std.proofs.Common.{◌≡◌, ℕ, zero, suc, ◌+◌, ◌<◌, ◌≤◌, ◌^◌, ◌⊎◌, inl, inr, ⊎_elim, Bool, true, ◌&&◌, ◌==◌, nat_le, List, [], ◌∷◌, ◌++◌}
use Rattle.std.proofs.Common.{codes, cond, length, map, Some, None, refl, sym, ap, ap₂, ◌∙◌, arith, leb-true}
use Rattle.std.specs.List.{cons_option, enumerate_from, list_all}
use Rattle.std.proofs.lemmas.Bool.{and_parts, cases_lt, eqb-true}
use Rattle.aml_terms.specs.declared.term.Term.TheVariants.{Int, Buffer}
use Rattle.aml_terms.specs.Trees.{view}
use Rattle.machine_desc.specs.declared.machine.Machine.{Machine}
use Rattle.machine_desc.specs.declared.device_parts.Uart.{Uart}
use Rattle.machine_desc.specs.Rules.{is_lawful_uart, IsAccepted}
use Rattle.resource_items.specs.Templates.{template_of}
use Rattle.dsdt_terms.specs.Names.{path_to, unique_id, resources, serial_port}
use Rattle.dsdt_terms.specs.Devices.{port_item, irq_item, uart_device}
use Rattle.dsdt_terms.specs.Dsdt.{uart_devices}
use Rattle.dsdt_terms.proofs.AcceptedDevices.{lawful_uarts, few_devices}
use Rattle.dsdt_terms.proofs.FittingItems.{fit_uart}
use Rattle.dsdt_devices.specs.Told.{resources_in, interrupt_of, uart_of, is_uart, uart_in}
use Rattle.dsdt_devices.proofs.Views.{uart_in-device}
use Rattle.dsdt_devices.proofs.ToldOfLists.{told_of}
use Rattle.dsdt_devices.proofs.ToldOfMachines.{uart_values}
use Rattle.dsdt_devices.proofs.NamedValues.{first_value, first_value-name, resources_there}

-- each interrupt below 16 is that of its mask, as a test of all of them says
abbrev are_back : ℕ → Bool
are_back zero = true
are_back (suc irq) = (interrupt_of (2 ^ irq) == irq) && are_back irq

-- what the test says of each
back_below : (end irq : ℕ) → are_back end ≡ true → irq < end → interrupt_of (2 ^ irq) ≡ irq
back_below zero irq are below = absurd (omega arith)
back_below (suc end) irq are below =
    let both = and_parts (interrupt_of (2 ^ end) == end) (are_back end) are in
    ⊎_elim (λ (same : irq ≡ end). ap (λ n. interrupt_of (2 ^ n)) same ∙ eqb-true (interrupt_of (2 ^ end)) end both.0 ∙ sym same)
    (λ (less : irq < end). back_below end irq both.1 less) (last_or_below irq end below)
  where
    last_or_below : (irq end : ℕ) → irq < suc end → (irq ≡ end) ⊎ (irq < end)
    last_or_below irq end below = ⊎_elim (λ (less : irq < end). inr less) (λ (above : end ≤ irq). inl (omega arith)) (cases_lt irq end)

-- the test, computed
interrupt_back : (irq : ℕ) → irq ≤ 15 → interrupt_of (2 ^ irq) ≡ irq
unfolding lib.Count.ones lib.Count.count_trailing_zeros
interrupt_back irq few = back_below 16 irq refl (omega arith)

-- the names of four serial ports
is_port : (n : ℕ) → n < 4 → is_uart (path_to (codes "COM" ++ (0x31 + n) ∷ [])) ≡ true
is_port zero few = refl
is_port (suc zero) few = refl
is_port (suc (suc zero)) few = refl
is_port (suc (suc (suc zero))) few = refl
is_port (suc (suc (suc (suc n)))) few = absurd (omega arith)

-- one serial port is told by its device
port_back : (n : ℕ) (u : Uart) → n < 4 → is_lawful_uart u ≡ true → uart_in (view (uart_device (n, u))) ≡ Some u
port_back n u few lawful =
    let items = port_item u.port 8 ∷ irq_item u.irq ∷ [] in
    let values = uart_values (n, u) in
    let bounds = and_parts (nat_le u.irq 15) (nat_le u.port 0xFFF8) lawful in
    let there : first_value (codes "_CRS") values ≡ Some (view (Buffer (template_of items))) =
    first_value-name (codes "_CRS") (codes "_HID") (Int serial_port) (unique_id (n + 1) ∷ resources items ∷ [])
    ∙ first_value-name (codes "_CRS") (codes "_UID") (Int (n + 1)) (resources items ∷ [])
    ∙ first_value-name (codes "_CRS") (codes "_CRS") (Buffer (template_of items)) [] in
    let made : ℕ → Uart = λ irq. record { port = u.port; irq = irq } in
    uart_in-device (path_to (codes "COM" ++ (0x31 + n) ∷ [])) values
    ∙ ap (λ is. cond is (Some (uart_of (resources_in (map view values)))) None) (is_port n few)
    ∙ ap (λ those. Some (uart_of those)) (resources_there values items there (fit_uart u lawful))
    ∙ ap (λ irq. Some (made irq)) (interrupt_back u.irq (leb-true u.irq 15 bounds.0))

-- and so are those from a place on
ports_from : (place : ℕ) (uarts : List Uart) → place + length uarts ≤ 4 → list_all is_lawful_uart uarts ≡ true
    → told_of uart_in (map uart_device (enumerate_from place uarts)) ≡ uarts
ports_from place [] few lawful = refl
ports_from place (u ∷ uarts) few lawful =
    let each = and_parts (is_lawful_uart u) (list_all is_lawful_uart uarts) lawful in
    ap₂ cons_option (port_back place u (omega (arith, few)) each.0) (ports_from (place + 1) uarts (omega (arith, few)) each.1)

-- those of an accepted machine
pub ports_back : (m : Machine) → IsAccepted m → told_of uart_in (uart_devices m.uarts) ≡ m.uarts
ports_back m accepted =
    let few = (few_devices m accepted).uarts in
    ports_from 0 m.uarts (omega (arith, few)) (lawful_uarts m accepted)
