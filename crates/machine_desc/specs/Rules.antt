-- The rules that an accepted machine keeps.
use Rattle.std.specs.Prelude.{◌≡◌, ℕ, ◌+◌, ◌-◌, ◌*◌, ◌/◌, ◌%◌, ◌^◌, Bool, true, false, not, ◌&&◌, ◌||◌, List, [], ◌∷◌, ◌++◌, length, map, filter}
use Rattle.std.specs.Prelude.{take, Option, Some, None, IfSome, ◌<◌}
use Rattle.std.specs.Prelude.{is_some, nat_le, nat_lt, ◌==◌, slice_get, if◌then◌else◌}
use Rattle.std.specs.List.{list_all, list_any, flat_map, position, zip, enumerate_from}
use Rattle.std.specs.Option.{option_map_or}
use Rattle.vt_outside.specs.Name.{is_printable}
use Rattle.machine_desc.specs.declared.machine.Machine.{Machine}
use Rattle.machine_desc.specs.declared.machine.System.{System}
use Rattle.machine_desc.specs.declared.machine.Acpi.{Acpi}
use Rattle.machine_desc.specs.declared.machine.Hpet.{Hpet}
use Rattle.machine_desc.specs.declared.acpi_parts.Power.{Power}
use Rattle.machine_desc.specs.declared.acpi_parts.Cpu.{Cpu}
use Rattle.machine_desc.specs.declared.acpi_parts.IoApic.{IoApic}
use Rattle.machine_desc.specs.declared.acpi_parts.Override.{Override}
use Rattle.machine_desc.specs.declared.acpi_parts.Nmi.{Nmi}
use Rattle.machine_desc.specs.declared.acpi_parts.Numa.{Numa}
use Rattle.machine_desc.specs.declared.device_parts.Bridge.{Bridge}
use Rattle.machine_desc.specs.declared.device_parts.Window.{Window}
use Rattle.machine_desc.specs.declared.device_parts.WindowKind.{WindowKind}
use Rattle.machine_desc.specs.declared.device_parts.WindowKind.TheVariants.{Io, Mem32, Mem64}
use Rattle.machine_desc.specs.declared.device_parts.Route.{Route}
use Rattle.machine_desc.specs.declared.device_parts.Uart.{Uart}
use Rattle.machine_desc.specs.declared.machine.Broken.{Broken}
use Rattle.machine_desc.specs.declared.smbios_parts.Firmware.{Firmware}
use Rattle.machine_desc.specs.declared.smbios_parts.Chassis.{Chassis}
use Rattle.machine_desc.specs.declared.smbios_parts.Socket.{Socket}
use Rattle.machine_desc.specs.declared.smbios_parts.Dimm.{Dimm}
use Rattle.machine_desc.specs.declared.smbios_parts.MemRange.{MemRange}
use Rattle.machine_desc.specs.declared.smbios_parts.Slot.{Slot}

-- at most 64 bytes, each printable
abbrev pub is_text : List ℕ → Bool
is_text text = nat_le (length text) 64 && list_all is_printable text

-- a rule that has no index but this one
abbrev pub only_at : ℕ → Bool → Option ℕ
only_at index holds = if holds then None else Some index

-- the place of the first element that doesn't pass a test
abbrev pub first_failing : {A : Type 0} → (A → Bool) → List A → Option ℕ
first_failing test elements = position (λ element. not (test element)) elements

-- the texts of each part of a machine

abbrev pub system_texts : System → List (List ℕ)
system_texts s = s.manufacturer ∷ s.product ∷ s.version ∷ s.serial ∷ s.sku ∷ s.family ∷ []

abbrev pub firmware_texts : Firmware → List (List ℕ)
firmware_texts f = f.vendor ∷ f.version ∷ f.date ∷ []

abbrev pub chassis_texts : Chassis → List (List ℕ)
chassis_texts c = c.manufacturer ∷ c.version ∷ c.serial ∷ c.asset ∷ c.sku ∷ []

abbrev pub socket_texts : Socket → List (List ℕ)
socket_texts s = s.designation ∷ s.manufacturer ∷ s.version ∷ s.serial ∷ s.asset ∷ s.part ∷ []

abbrev pub dimm_texts : Dimm → List (List ℕ)
dimm_texts d = d.locator ∷ d.bank ∷ d.manufacturer ∷ d.serial ∷ d.asset ∷ d.part ∷ []

abbrev pub slot_texts : Slot → List (List ℕ)
slot_texts s = s.designation ∷ []

abbrev pub acpi_texts : Acpi → List (List ℕ)
acpi_texts acpi = acpi.oem_id ∷ acpi.oem_table_id ∷ []

-- those of a part that may be left out
abbrev pub texts_if : {Part : Type 0} → (Part → List (List ℕ)) → Option Part → List (List ℕ)
texts_if texts part = option_map_or texts part []

-- The texts of a machine, part by part. A place here is what proofs name a part's texts by, so a part that comes stands last.
abbrev pub text_parts : Machine → List (List (List ℕ))
text_parts m =
    m.oem_strings ∷ system_texts m.system ∷ texts_if firmware_texts m.firmware ∷ texts_if chassis_texts m.chassis
    ∷ flat_map socket_texts m.sockets ∷ flat_map dimm_texts m.dimms ∷ flat_map slot_texts m.slots ∷ texts_if acpi_texts m.acpi ∷ []

abbrev pub texts_of : Machine → List (List ℕ)
texts_of m = flat_map (λ texts. texts) (text_parts m)

-- the windows and the routes of a bridge; none where there is no bridge
abbrev pub windows_of : Option Bridge → List Window
windows_of bridge = option_map_or (λ (b : Bridge). b.windows) bridge []

abbrev pub routes_of : Option Bridge → List Route
routes_of bridge = option_map_or (λ (b : Bridge). b.routes) bridge []

-- How many elements each list of a machine has, and how many it may have at most: texts of the maker, sockets, modules, ranges, slots,
-- processors, I/O APICs, overrides, NMIs, serial ports, windows and routes. A place here is the list's index in the rule.
abbrev pub counts : Machine → List (ℕ × ℕ)
counts m =
    (length m.oem_strings, 32) ∷ (length m.sockets, 256) ∷ (length m.dimms, 256) ∷ (length m.ranges, 64) ∷ (length m.slots, 64)
    ∷ (length m.cpus, 4096) ∷ (length m.io_apics, 16) ∷ (length m.overrides, 16) ∷ (length m.nmis, 16)
    ∷ (length m.uarts, 4) ∷ (length (windows_of m.bridge), 32) ∷ (length (routes_of m.bridge), 128) ∷ []

abbrev pub is_within : ℕ × ℕ → Bool
is_within count = nat_le count.0 count.1

-- it isn't empty
abbrev pub is_some_text : List ℕ → Bool
is_some_text text = not (length text == 0)

-- a type of 1 to 127, the seven bits that the field has (DSP0134 7.4.1)
abbrev pub is_lawful_chassis : Chassis → Bool
is_lawful_chassis c = nat_le 1 c.kind && nat_le c.kind 127

-- A processor has a core, and as many threads or more. The count 65,535 is reserved (DSP0134 7.5).
abbrev pub is_lawful_socket : Socket → Bool
is_lawful_socket s = nat_le 1 s.cores && nat_le s.cores s.threads && nat_le s.threads 65534

-- 1 MiB to 16 TiB, and a speed of at most 65,534, where 0 stands for an unknown one
abbrev pub is_lawful_dimm : Dimm → Bool
is_lawful_dimm d = nat_le 1 d.size_mib && nat_le d.size_mib 16777216 && nat_le d.speed 65534

-- the kinds and widths of the standard count from 1, and PCI has 32 devices on a bus and 8 functions of a device
abbrev pub is_lawful_slot : Slot → Bool
is_lawful_slot s = nat_le 1 s.kind && nat_le 1 s.width && nat_le s.device 31 && nat_le s.function 7

-- the end of a range, in MiB: the first address behind it
abbrev pub end_of : MemRange → ℕ
end_of r = r.base_mib + r.size_mib

-- each range with the end of the one before it, and the first one with 0
abbrev pub with_ends : List MemRange → List (ℕ × MemRange)
with_ends ranges = zip (0 ∷ map end_of ranges) ranges

-- it isn't empty, ends within 2^32 MiB, and begins at or behind an end
abbrev pub is_lawful_range : ℕ × MemRange → Bool
is_lawful_range r = nat_le 1 r.1.size_mib && nat_le (end_of r.1) (2 ^ 32) && nat_le r.0 r.1.base_mib

-- it begins below 4 GiB
abbrev pub is_low : MemRange → Bool
is_low r = nat_lt r.base_mib 4096

-- each range begins where the one before it ends, the first one at 0, and the last one ends at an end
abbrev pub are_joined : ℕ → ℕ → List MemRange → Bool
are_joined from to [] = from == to
are_joined from to (r ∷ ranges) = (r.base_mib == from) && are_joined (end_of r) to ranges

-- Those below 4 GiB are all memory below a top. The law `memory_is_what_lies_below_the_top` says the same of addresses.
abbrev pub is_memory : ℕ → List MemRange → Bool
is_memory top ranges = are_joined 0 top (filter is_low ranges)

abbrev pub is_empty : {A : Type 0} → List A → Bool
is_empty [] = true
is_empty (element ∷ elements) = false

-- the last byte of a text, where it has one, is a space
abbrev pub ends_in_space : List ℕ → Bool
ends_in_space text = option_map_or (λ byte. byte == 0x20) (slice_get text (length text - 1)) false

-- at most so many bytes, the last of which is no space
abbrev pub is_padded_text : ℕ → List ℕ → Bool
is_padded_text size text = nat_le (length text) size && not (ends_in_space text)

-- the identifiers of the ACPI tables fit their fields
abbrev pub breach_of_acpi : Option Acpi → Option ℕ
breach_of_acpi None = None
breach_of_acpi (Some acpi) =
    if is_padded_text 6 acpi.oem_id then only_at 1 (is_padded_text 8 acpi.oem_table_id) else Some 0

-- the ports of the blocks that must be there aren't 0
abbrev pub has_ports : Power → Bool
has_ports p = not (p.event == 0) && not (p.control == 0) && not (p.timer == 0)

-- The block of general-purpose events has two halves (ACPI 6.5, 4.8.4.1), so that its size is even. It is 0 exactly where there is no block.
abbrev pub has_lawful_gpe : Power → Bool
has_lawful_gpe p = (p.gpe_len % 2 == 0) && nat_le p.gpe_len 30 && (if p.gpe_len == 0 then p.gpe == 0 else not (p.gpe == 0))

-- without a reset register no value is written there
abbrev pub has_lawful_reset : Power → Bool
has_lawful_reset p = not (p.reset == 0) || (p.reset_value == 0)

abbrev pub is_lawful_power : Power → Bool
is_lawful_power p = has_ports p && has_lawful_gpe p && has_lawful_reset p

-- the address of an HPET is a multiple of 1024
abbrev pub is_hpet_address : Hpet → Bool
is_hpet_address hpet = hpet.address % 1024 == 0

-- A UUID that means one thing. RFC 9562 gives all zeros and all ones to the Nil and the Max UUID.
abbrev pub is_own_uuid : ℕ → Bool
is_own_uuid uuid = not (uuid == 0) && not (uuid == 2 ^ 128 - 1)

abbrev pub is_own_if_given : Option ℕ → Bool
is_own_if_given uuid = option_map_or is_own_uuid uuid true

-- the UUIDs of a machine, by their indices in the rule: that of the system, and that of its generation
abbrev pub uuids_of : Machine → List (Option ℕ)
uuids_of m = m.system.uuid ∷ m.generation ∷ []

-- a part isn't there, or what it needs is
abbrev pub is_met : Bool → Bool → Bool
is_met needed there = not there || needed

-- the place of the first part that is there although what it needs isn't
abbrev pub first_unmet : Bool → List Bool → Option ℕ
first_unmet needed parts = first_failing (is_met needed) parts

-- The parts that need ACPI tables: power management, the HPET, the interrupt controllers and the NUMA nodes. A place here is the part's
-- index in the rule.
abbrev pub parts_on_acpi : Machine → List Bool
parts_on_acpi m = is_some m.power ∷ is_some m.hpet ∷ is_some m.apic ∷ is_some m.numa ∷ []

-- the parts that need power management, and whether they are there, by their indices in the rule: the bridge, the serial ports and the id
-- of the generation
abbrev pub parts_on_power : Machine → List Bool
parts_on_power m = is_some m.bridge ∷ not (is_empty m.uarts) ∷ is_some m.generation ∷ []

-- the lists that need the interrupt controllers, and whether they have elements, by their indices in the rule
abbrev pub lists_on_apic : Machine → List Bool
lists_on_apic m = not (is_empty m.cpus) ∷ not (is_empty m.io_apics) ∷ not (is_empty m.overrides) ∷ not (is_empty m.nmis) ∷ []

-- an element at its place in a list: no earlier one has its number
abbrev pub is_new : {A : Type 0} → (A → ℕ) → List A → ℕ × A → Bool
is_new number elements e = not (list_any (λ earlier. number earlier == number e.1) (take e.0 elements))

-- the place of the first element that doesn't pass a test, or has the number of an earlier one
abbrev pub first_refused : {A : Type 0} → (A → Bool) → (A → ℕ) → List A → Option ℕ
first_refused test number elements = first_failing (λ e. test e.1 && is_new number elements e) (enumerate_from 0 elements)

-- a processor's APIC id, which isn't the one that names all of them
abbrev pub apic_id : Cpu → ℕ
apic_id c = c.apic

abbrev pub is_lawful_cpu : Cpu → Bool
is_lawful_cpu c = not (c.apic == 0xFFFFFFFF)

-- an I/O APIC's id; nothing else is asked of it
abbrev pub io_apic_id : IoApic → ℕ
io_apic_id a = a.id

abbrev pub is_lawful_io_apic : IoApic → Bool
is_lawful_io_apic a = true

-- an override's ISA interrupt, one of 16, and its four flags
abbrev pub irq_of : Override → ℕ
irq_of o = o.irq

abbrev pub is_lawful_override : Override → Bool
is_lawful_override o = nat_le o.irq 15 && nat_le o.flags 15

-- of so many processors an NMI is that of one, or of all; it has four flags, and one of two inputs
abbrev pub is_lawful_nmi : ℕ → Nmi → Bool
is_lawful_nmi cpus nmi = option_map_or (λ cpu. nat_lt cpu cpus) nmi.cpu true && nat_le nmi.flags 15 && nat_le nmi.lint 1

-- the nodes of the processors, and then of the ranges
abbrev pub nodes_of : Machine → List ℕ
nodes_of m = map (λ c. c.node) m.cpus ++ map (λ r. r.node) m.ranges

-- how many nodes there are; where none are described, everything is on node 0
abbrev pub node_count : Option Numa → ℕ
node_count numa = option_map_or (λ n. n.nodes) numa 1

abbrev pub is_node : ℕ → ℕ → Bool
is_node count node = nat_lt node count

-- Of so many nodes, the distance at a place: row by row, so that it is that from the node of the place's row to the node of its column. From
-- a node to itself it is 10, and less is reserved (ACPI 6.5, 5.2.17).
abbrev pub is_lawful_distance : ℕ → ℕ × ℕ → Bool
is_lawful_distance nodes d = if d.0 / nodes == d.0 % nodes then d.1 == 10 else nat_le 10 d.1

abbrev pub is_lawful_numa : Numa → Bool
is_lawful_numa n =
    nat_le 1 n.nodes && nat_le n.nodes 64 && (length n.distance == n.nodes * n.nodes)
    && list_all (is_lawful_distance n.nodes) (enumerate_from 0 n.distance)

-- The configuration space of a bridge has 1 MiB for each bus (PCI Firmware Specification 3.3, 4.1.2), and an address has 52 bits.
abbrev pub has_lawful_ecam : Bridge → Bool
has_lawful_ecam b = (b.ecam % 0x100000 == 0) && nat_lt b.ecam (2 ^ 52)

-- all addresses of a window are below one
abbrev pub ends_within : ℕ → Window → Bool
ends_within end w = nat_le (w.base + w.size) end

-- The addresses of a window, by what they are addresses of. How many there are fits the item that tells them (ACPI 6.5, 6.4.3.5), and ports
-- can't be read ahead.
abbrev pub are_lawful_addresses : WindowKind → Window → Bool
are_lawful_addresses Io w = ends_within 0x10000 w && nat_le w.size 0xFFFF && not w.prefetch
are_lawful_addresses Mem32 w = ends_within (2 ^ 32) w && nat_lt w.size (2 ^ 32)
are_lawful_addresses Mem64 w = ends_within (2 ^ 52) w

abbrev pub is_lawful_window : Window → Bool
is_lawful_window w = nat_le 1 w.size && are_lawful_addresses w.kind w

-- a route's device and pin as one number, which no other pair is
abbrev pub pair_of : Route → ℕ
pair_of r = 256 * r.device + r.pin

-- PCI has 32 devices on a bus, and each has four pins
abbrev pub is_lawful_route : Route → Bool
is_lawful_route r = nat_le r.device 31 && nat_le r.pin 3

-- one of 16 ISA interrupts, and 8 ports within 64 Ki
abbrev pub is_lawful_uart : Uart → Bool
is_lawful_uart u = nat_le u.irq 15 && nat_le u.port 0xFFF8

-- Each rule in its order: its number, and the least index at which the machine breaks it, if it does. Those on sizes stand apart, since where
-- one of them is broken nothing else is worked out.
--   1 the top is 64 MiB to 3 GiB
--   2 no list is too long; the index is the list's place in `counts`
--   3 each text has at most 64 bytes, each 0x20 to 0x7E
--   4 the system's UUID (index 0) and the id of the generation (index 1), where given, are neither all zeros nor all ones
--   5 the maker's text of this index isn't empty
--   6 the type of the chassis is 1 to 127
--   7 the socket of this index has a core and a thread for each core, at most 65,534
--   8 the module of this index has 1 MiB to 16 TiB, and a speed of at most 65,534
--   9 ranges are given exactly where modules are
--  10 the range of this index isn't empty, ends within 2^32 MiB, and begins at or behind the end of the one before
--  11 where ranges are given, those that begin below 4 GiB are all memory below the top
--  12 the slot of this index has a kind and a width, and is a device and a function of a PCI bus
--  13 power management (index 0), an HPET (index 1), interrupt controllers (index 2) and NUMA nodes (index 3) need ACPI tables
--  14 a bridge (index 0), serial ports (index 1) and the id of the generation (index 2) need power management
--  15 processors (index 0), I/O APICs (index 1), overrides (index 2) and NMIs (index 3) need interrupt controllers
--  16 the maker's id (index 0) has at most 6 bytes, its id of the tables (index 1) at most 8, and neither ends in a space
--  17 the ports of power management that must be there aren't 0, and its block of events and its reset value are lawful
--  18 the HPET's address is a multiple of 1024
--  19 the processor of this index has an APIC id that names one, and is no earlier one's
--  20 the I/O APIC of this index has no earlier one's id
--  21 the override of this index is of one of 16 ISA interrupts and no earlier one's, with four flags
--  22 the NMI of this index is of a processor that is there, or of all, with four flags and one of two inputs
--  23 there are 1 to 64 nodes, and a distance for each two: 10 from a node to itself, at least 10 to another
--  24 the processor of this index, or the range that stands there behind the processors, is on a node that is there
--  25 the address of the bridge's configuration space is a multiple of 1 MiB, and has 52 bits
--  26 the window of this index isn't empty, and its addresses are lawful by their kind
--  27 the route of this index is of a device and a pin that there may be, and of no earlier one's
--  28 the serial port of this index has one of 16 ISA interrupts, and 8 ports
abbrev pub breaches_of_sizes : Machine → List (ℕ × Option ℕ)
breaches_of_sizes m =
    (1, only_at 0 (nat_le 64 m.top_mib && nat_le m.top_mib 3072)) ∷
    (2, first_failing is_within (counts m)) ∷ []

abbrev pub breaches_of_parts : Machine → List (ℕ × Option ℕ)
breaches_of_parts m =
    (3, only_at 0 (list_all is_text (texts_of m))) ∷
    (4, first_failing is_own_if_given (uuids_of m)) ∷
    (5, first_failing is_some_text m.oem_strings) ∷
    (6, only_at 0 (option_map_or is_lawful_chassis m.chassis true)) ∷
    (7, first_failing is_lawful_socket m.sockets) ∷
    (8, first_failing is_lawful_dimm m.dimms) ∷
    (9, only_at 0 (if is_empty m.dimms then is_empty m.ranges else not (is_empty m.ranges))) ∷
    (10, first_failing is_lawful_range (with_ends m.ranges)) ∷
    (11, only_at 0 (is_empty m.ranges || is_memory m.top_mib m.ranges)) ∷
    (12, first_failing is_lawful_slot m.slots) ∷ []

abbrev pub breaches_of_acpi_parts : Machine → List (ℕ × Option ℕ)
breaches_of_acpi_parts m =
    (13, first_unmet (is_some m.acpi) (parts_on_acpi m)) ∷
    (14, first_unmet (is_some m.power) (parts_on_power m)) ∷
    (15, first_unmet (is_some m.apic) (lists_on_apic m)) ∷
    (16, breach_of_acpi m.acpi) ∷
    (17, only_at 0 (option_map_or is_lawful_power m.power true)) ∷
    (18, only_at 0 (option_map_or is_hpet_address m.hpet true)) ∷
    (19, first_refused is_lawful_cpu apic_id m.cpus) ∷
    (20, first_refused is_lawful_io_apic io_apic_id m.io_apics) ∷
    (21, first_refused is_lawful_override irq_of m.overrides) ∷
    (22, first_failing (is_lawful_nmi (length m.cpus)) m.nmis) ∷
    (23, only_at 0 (option_map_or is_lawful_numa m.numa true)) ∷
    (24, first_failing (is_node (node_count m.numa)) (nodes_of m)) ∷ []

abbrev pub breaches_of_devices : Machine → List (ℕ × Option ℕ)
breaches_of_devices m =
    (25, only_at 0 (option_map_or has_lawful_ecam m.bridge true)) ∷
    (26, first_failing is_lawful_window (windows_of m.bridge)) ∷
    (27, first_refused is_lawful_route pair_of (routes_of m.bridge)) ∷
    (28, first_failing is_lawful_uart m.uarts) ∷ []

abbrev pub breaches_within_sizes : Machine → List (ℕ × Option ℕ)
breaches_within_sizes m = breaches_of_parts m ++ breaches_of_acpi_parts m ++ breaches_of_devices m

abbrev pub breaches : Machine → List (ℕ × Option ℕ)
breaches m = breaches_of_sizes m ++ breaches_within_sizes m

-- the first rule in a list that is broken
abbrev pub first_broken : List (ℕ × Option ℕ) → Option Broken
first_broken [] = None
first_broken (rule ∷ rules) = option_map_or (λ index. Some (record { rule = rule.0; index = index })) rule.1 (first_broken rules)

-- the first rule that a machine breaks
abbrev pub broken_rule : Machine → Option Broken
broken_rule m = first_broken (breaches m)

-- a machine that breaks no rule
abbrev pub IsAccepted : Machine → Type 0
IsAccepted m = broken_rule m ≡ None

-- the least index at which a machine breaks the rule of a number, if it does
abbrev pub breach_in : ℕ → List (ℕ × Option ℕ) → Option ℕ
breach_in number [] = None
breach_in number (rule ∷ rules) = if rule.0 == number then rule.1 else breach_in number rules

abbrev pub breach_of : ℕ → Machine → Option ℕ
breach_of number m = breach_in number (breaches m)

-- the UUIDs of a machine fit their types, as those of each machine of the program do
pub record HasFittingUuids (m : Machine) : Type 0 where
  pub system : IfSome m.system.uuid (λ uuid. uuid < 2 ^ 128)
  pub generation : IfSome m.generation (λ uuid. uuid < 2 ^ 128)
