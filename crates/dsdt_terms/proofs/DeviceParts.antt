-- Each device of a machine as a part that can be written.
use Rattle.std.proofs.Common.{◌≡◌, ℕ, ◌+◌, ◌-◌, ◌*◌, ◌/◌, ◌%◌, ◌^◌, ◌<◌, ◌≤◌, ◌==◌, true, nat_le, List, [], ◌∷◌, ◌++◌, length, codes, map}
use Rattle.std.proofs.Common.{refl, sym, subst, arith}
use Rattle.std.proofs.lemmas.List.{length-map}
use Rattle.std.proofs.lemmas.Bool.{cond_both, and_parts, leb-true}
use Rattle.std.specs.List.{AllByRecursion}
use Rattle.aml_terms.specs.declared.term.Term.{Term}
use Rattle.aml_terms.specs.declared.term.Term.TheVariants.{Int, Chars, Package}
use Rattle.aml_terms.specs.Trees.{view}
use Rattle.aml_terms.specs.Paths.{IsSegment}
use Rattle.aml_terms.specs.Grammar.{IsChar}
use Rattle.aml_terms.specs.WellFormed.{IsGood, IsGoodValue}
use Rattle.machine_desc.specs.declared.device_parts.Bridge.{Bridge}
use Rattle.machine_desc.specs.declared.device_parts.Route.{Route}
use Rattle.machine_desc.specs.declared.device_parts.Uart.{Uart}
use Rattle.machine_desc.specs.declared.machine.Hpet.{Hpet}
use Rattle.machine_desc.specs.Rules.{is_lawful_route}
use Rattle.machine_desc.specs.Fields.{IsFittingBridge, IsFittingRoute}
use Rattle.resource_items.specs.declared.resource_item.ResourceItem.TheVariants.{Memory}
use Rattle.dsdt_terms.specs.Names.{name, hardware_id, compatible_id, unique_id, resources}
use Rattle.dsdt_terms.specs.Names.{pci_bridge, pci_express_bridge, serial_port, real_time_clock, keyboard_controller, event_timer}
use Rattle.dsdt_terms.specs.Bridge.{window_item, bridge_items, route_term, bridge_ids, bridge_device}
use Rattle.dsdt_terms.specs.Devices.{port_item, irq_item, uart_device, clock_device, keyboard_device, timer_device, cpu_name, cpu_device, generation_device}
use Rattle.dsdt_terms.proofs.Limits.{most_windows, most_routes, item_size, route_size, cpu_size, uart_size, clock_size, keyboard_size, timer_size}
use Rattle.dsdt_terms.proofs.Limits.{generation_size, bridge_size}
use Rattle.dsdt_terms.proofs.Views.{view-chars}
use Rattle.dsdt_terms.proofs.WrittenParts.{Premises, IsPart, AreParts, no_parts, one_more, both_parts, enough, each_part, chars_part}
use Rattle.dsdt_terms.proofs.NamedParts.{four_true, is_text, named_part, number, small_number, packed, resources_part, whole_device, number_char, hex_char}

-- how many levels may nest in a device, and in its values
abbrev pub device_room : ℕ
device_room = 15

abbrev value_room : ℕ
value_room = 14

-- a value with a name and a number
numbered : (P : Premises) (segment : List ℕ) (n : ℕ) → IsSegment segment → n < 2 ^ 64 → IsPart IsGood P value_room 14 (view (name segment (Int n)))
numbered P segment n is small = named_part P value_room 9 segment (Int n) is (number P value_room n (λ fit. small))

-- a value with a name and a text
texted : (P : Premises) (segment text : List ℕ) → IsSegment segment → AllByRecursion IsChar text
    → IsPart IsGood P value_room (length text + 7) (view (name segment (Chars text)))
texted P segment text is are =
    let value = subst (IsPart IsGoodValue P value_room (length text + 2)) (sym (view-chars text)) (chars_part P value_room text are) in
    let same : length text + 2 + 5 ≡ length text + 7 = omega arith in
    subst (λ size. IsPart IsGood P value_room size (view (name segment (Chars text)))) same
    (named_part P value_room (length text + 2) segment (Chars text) is value)

hardware : (P : Premises) (id : ℕ) → id < 2 ^ 64 → IsPart IsGood P value_room 14 (view (hardware_id id))
hardware P id small = numbered P (codes "_HID") id four_true small

-- values, in turn
none : (P : Premises) → AreParts IsGood P value_room 0 []
none P = no_parts IsGood P value_room

value : (P : Premises) (few most : ℕ) (t : Term) (ts : List Term) → IsPart IsGood P value_room few (view t) → AreParts IsGood P value_room most ts
    → AreParts IsGood P value_room (few + most) (t ∷ ts)
value P few most t ts = one_more IsGood P value_room few most t ts

pub uart_part : (P : Premises) (u : ℕ × Uart) → u.0 < 4 → IsPart IsGood P device_room uart_size (view (uart_device u))
uart_part P u few =
    let items = port_item u.1.port 8 ∷ irq_item u.1.irq ∷ [] in
    whole_device P value_room 141 (codes "COM" ++ (0x31 + u.0) ∷ []) (hardware_id serial_port ∷ unique_id (u.0 + 1) ∷ resources items ∷ [])
    (refl, (refl, (refl, (number_char u.0 few, tt))))
    (value P 14 127 (hardware_id serial_port) (unique_id (u.0 + 1) ∷ resources items ∷ []) (hardware P serial_port (omega arith))
    (value P 14 113 (unique_id (u.0 + 1)) (resources items ∷ []) (numbered P (codes "_UID") (u.0 + 1) four_true (omega arith))
    (value P 113 0 (resources items) [] (resources_part P 13 2 items (omega arith) (omega arith)) (none P)))) (omega arith)

pub clock_part : (P : Premises) → IsPart IsGood P device_room clock_size (view clock_device)
clock_part P =
    let items = port_item 0x70 2 ∷ irq_item 8 ∷ [] in
    whole_device P value_room 127 (codes "RTC_") (hardware_id real_time_clock ∷ resources items ∷ []) four_true
    (value P 14 113 (hardware_id real_time_clock) (resources items ∷ []) (hardware P real_time_clock (omega arith))
    (value P 113 0 (resources items) [] (resources_part P 13 2 items (omega arith) (omega arith)) (none P))) (omega arith)

pub keyboard_part : (P : Premises) → IsPart IsGood P device_room keyboard_size (view keyboard_device)
keyboard_part P =
    let items = port_item 0x60 1 ∷ port_item 0x64 1 ∷ irq_item 1 ∷ [] in
    whole_device P value_room 173 (codes "KBD_") (hardware_id keyboard_controller ∷ resources items ∷ []) four_true
    (value P 14 159 (hardware_id keyboard_controller) (resources items ∷ []) (hardware P keyboard_controller (omega arith))
    (value P 159 0 (resources items) [] (resources_part P 13 3 items (omega arith) (omega arith)) (none P))) (omega arith)

pub timer_part : (P : Premises) (hpet : Hpet) → IsPart IsGood P device_room timer_size (view (timer_device hpet))
timer_part P hpet =
    let items = Memory (record { base = hpet.address; length = 0x400 }) ∷ [] in
    whole_device P value_room 81 (codes "HPET") (hardware_id event_timer ∷ resources items ∷ []) four_true
    (value P 14 67 (hardware_id event_timer) (resources items ∷ []) (hardware P event_timer (omega arith))
    (value P 67 0 (resources items) [] (resources_part P 13 1 items (omega arith) (omega arith)) (none P))) (omega arith)

pub cpu_part : (P : Premises) (place : ℕ) → place < 0x10000 → IsPart IsGood P device_room cpu_size (view (cpu_device place))
cpu_part P place few =
    let id = name (codes "_HID") (Chars (codes "ACPI0007")) in
    whole_device P value_room 23 (cpu_name place) (id ∷ unique_id place ∷ [])
    (refl, (hex_char (place / 0x100 % 0x10) (omega arith), (hex_char (place / 0x10 % 0x10) (omega arith), (hex_char (place % 0x10) (omega arith), tt))))
    (value P 15 8 id (unique_id place ∷ [])
    (texted P (codes "_HID") (codes "ACPI0007") four_true (is_text (codes "ACPI0007") refl))
    (value P 8 0 (unique_id place) []
    (named_part P value_room 3 (codes "_UID") (Int place) four_true (small_number P value_room place few)) (none P)))
    (omega arith)

-- the device of a generation's id, whose low half is an integer or a dword
pub generation_part : (P : Premises) (low : Term) → IsPart IsGoodValue P 13 9 (view low)
    → IsPart IsGood P device_room generation_size (view (generation_device low))
generation_part P low half =
    let id = name (codes "_HID") (Chars (codes "QEMUVGID")) in
    let kind = name (codes "_CID") (Chars (codes "VM_Gen_Counter")) in
    let address = name (codes "ADDR") (Package (low ∷ Int 0 ∷ [])) in
    let halves = packed P 13 18 (low ∷ Int 0 ∷ []) (omega arith)
    (one_more IsGoodValue P 13 9 9 low (Int 0 ∷ []) half
    (one_more IsGoodValue P 13 9 0 (Int 0) [] (number P 13 0 (λ fit. omega arith)) (no_parts IsGoodValue P 13))) (omega arith) in
    whole_device P value_room 65 (codes "VGEN") (id ∷ kind ∷ address ∷ []) four_true
    (value P 15 50 id (kind ∷ address ∷ []) (texted P (codes "_HID") (codes "QEMUVGID") four_true (is_text (codes "QEMUVGID") refl))
    (value P 21 29 kind (address ∷ []) (texted P (codes "_CID") (codes "VM_Gen_Counter") four_true (is_text (codes "VM_Gen_Counter") refl))
    (value P 29 0 address [] (named_part P value_room 24 (codes "ADDR") (Package (low ∷ Int 0 ∷ [])) four_true halves) (none P)))) (omega arith)

-- a route of a table, and the table
route_part : (P : Premises) (r : Route) → is_lawful_route r ≡ true → (P.fit → r.gsi < 2 ^ 32) → IsPart IsGoodValue P 13 route_size (view (route_term r))
route_part P r lawful fits =
    let both = and_parts (nat_le r.device 31) (nat_le r.pin 3) lawful in
    let device : r.device ≤ 31 = leb-true r.device 31 both.0 in
    let pin : r.pin ≤ 3 = leb-true r.pin 3 both.1 in
    let address = r.device * 0x10000 + 0xFFFF in
    packed P 12 36 (Int address ∷ Int r.pin ∷ Int 0 ∷ Int r.gsi ∷ []) (omega arith)
    (one_more IsGoodValue P 12 9 27 (Int address) (Int r.pin ∷ Int 0 ∷ Int r.gsi ∷ []) (number P 12 address (λ fit. omega (arith, device)))
    (one_more IsGoodValue P 12 9 18 (Int r.pin) (Int 0 ∷ Int r.gsi ∷ []) (number P 12 r.pin (λ fit. omega (arith, pin)))
    (one_more IsGoodValue P 12 9 9 (Int 0) (Int r.gsi ∷ []) (number P 12 0 (λ fit. omega arith))
    (one_more IsGoodValue P 12 9 0 (Int r.gsi) [] (number P 12 r.gsi (λ fit. omega (arith, fits fit))) (no_parts IsGoodValue P 12)))))
    (omega arith)

route_parts : (P : Premises) (routes : List Route) → AllByRecursion (λ r. is_lawful_route r ≡ true) routes → (P.fit → AllByRecursion IsFittingRoute routes)
    → AllByRecursion (λ r. IsPart IsGoodValue P 13 route_size (view (route_term r))) routes
route_parts P [] lawful fit = tt
route_parts P (r ∷ routes) lawful fit = (route_part P r lawful.0 (λ f. (fit f).0), route_parts P routes lawful.1 (λ f. (fit f).1))

table_part : (P : Premises) (routes : List Route) → length routes ≤ most_routes → AllByRecursion (λ r. is_lawful_route r ≡ true) routes
    → (P.fit → AllByRecursion IsFittingRoute routes)
    → IsPart IsGood P value_room (route_size * most_routes + 11) (view (name (codes "_PRT") (Package (map route_term routes))))
table_part P routes few lawful fit =
    let terms = map route_term routes in
    let each = each_part IsGoodValue P 13 route_size route_term routes (route_parts P routes lawful fit) in
    let parts = enough IsGoodValue P 13 (route_size * length routes) (route_size * most_routes) terms (omega (arith, few)) each in
    named_part P value_room (route_size * most_routes + 6) (codes "_PRT") (Package terms) four_true
    (packed P 13 (route_size * most_routes) terms (omega (arith, few, length-map routes route_term)) parts (omega arith))

-- the ids of a bridge
ids_parts : (P : Premises) (ecam : ℕ) → AreParts IsGood P value_room 28 (bridge_ids ecam)
ids_parts P ecam =
    cond_both (ecam == 0) _ _ (AreParts IsGood P value_room 28)
    (λ t. enough IsGood P value_room 14 28 (hardware_id pci_bridge ∷ []) (omega arith)
    (value P 14 0 (hardware_id pci_bridge) [] (hardware P pci_bridge (omega arith)) (none P)))
    (λ t. value P 14 14 (hardware_id pci_express_bridge) (compatible_id pci_bridge ∷ []) (hardware P pci_express_bridge (omega arith))
    (value P 14 0 (compatible_id pci_bridge) [] (numbered P (codes "_CID") pci_bridge four_true (omega arith)) (none P)))

pub bridge_part : (P : Premises) (b : Bridge) → length b.windows ≤ most_windows → length b.routes ≤ most_routes
    → AllByRecursion (λ r. is_lawful_route r ≡ true) b.routes → (P.fit → IsFittingBridge b)
    → IsPart IsGood P device_room bridge_size (view (bridge_device b))
bridge_part P b windows routes lawful fit =
    let spaces = resources (bridge_items b) in
    let table = name (codes "_PRT") (Package (map route_term b.routes)) in
    let base = name (codes "_BBN") (Int 0) in
    let spaces_size : ℕ = item_size * (most_windows + 1) + 21 in
    let table_size : ℕ = route_size * most_routes + 11 in
    let behind = value P 14 (14 + (spaces_size + table_size)) (unique_id 0) (base ∷ spaces ∷ table ∷ [])
    (numbered P (codes "_UID") 0 four_true (omega arith))
    (value P 14 (spaces_size + table_size) base (spaces ∷ table ∷ []) (numbered P (codes "_BBN") 0 four_true (omega arith))
    (value P spaces_size table_size spaces (table ∷ [])
    (resources_part P 13 (most_windows + 1) (bridge_items b) (omega (arith, windows, length-map b.windows window_item)) (omega arith))
    (value P table_size 0 table [] (table_part P b.routes routes lawful (λ f. (fit f).routes)) (none P)))) in
    whole_device P value_room (bridge_size - 10) (codes "PCI0") (bridge_ids b.ecam ++ unique_id 0 ∷ base ∷ spaces ∷ table ∷ []) four_true
    (both_parts IsGood P value_room 28 (bridge_size - 38) (bridge_ids b.ecam) (unique_id 0 ∷ base ∷ spaces ∷ table ∷ []) (ids_parts P b.ecam) behind)
    (omega arith)
