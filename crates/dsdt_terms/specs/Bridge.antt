-- The bridge to PCI as a device: its buses, its windows and its routes (ACPI 6.5, 6.1.5, 6.2.13, 6.4.3.5 and 6.5.5).
use Rattle.std.specs.Prelude.{ℕ, ◌+◌, ◌-◌, ◌*◌, Bool, List, [], ◌∷◌, ◌++◌, map, ◌==◌, codes, if◌then◌else◌}
use Rattle.aml_terms.specs.declared.term.Term.{Term}
use Rattle.aml_terms.specs.declared.term.Term.TheVariants.{Int, Package}
use Rattle.machine_desc.specs.declared.device_parts.Bridge.{Bridge}
use Rattle.machine_desc.specs.declared.device_parts.Window.{Window}
use Rattle.machine_desc.specs.declared.device_parts.WindowKind.{WindowKind}
use Rattle.machine_desc.specs.declared.device_parts.WindowKind.TheVariants.{Io, Mem32, Mem64}
use Rattle.machine_desc.specs.declared.device_parts.Route.{Route}
use Rattle.resource_items.specs.declared.resource_item.ResourceItem.{ResourceItem}
use Rattle.resource_items.specs.declared.resource_item.ResourceItem.TheVariants.{Word, Dword, Qword}
use Rattle.dsdt_terms.specs.Names.{name, device, hardware_id, compatible_id, unique_id, resources, pci_bridge, pci_express_bridge}

-- the buses from 0 to the last one
abbrev pub bus_item : ℕ → ResourceItem
bus_item last =
    Word (record { kind = 2; flags = 0; granularity = 0; first = 0; last = last; translation = 0; length = last + 1 })

-- Memory that can be written; where it may be read ahead, it is cacheable and prefetchable, too (6.4.3.5.5, table 6.50).
abbrev pub memory_flags : Bool → ℕ
memory_flags prefetch = if prefetch then 7 else 1

-- the last address of a window
abbrev pub last_of : Window → ℕ
last_of w = w.base + w.size - 1

-- The item of a window: ports in numbers of two bytes, in ISA ranges and others; memory in numbers of four bytes and of eight.
abbrev pub window_item_of : WindowKind → Window → ResourceItem
window_item_of Io w =
    Word (record { kind = 1; flags = 3; granularity = 0; first = w.base; last = last_of w; translation = 0; length = w.size })
window_item_of Mem32 w =
    Dword (record { kind = 0; flags = memory_flags w.prefetch; granularity = 0; first = w.base; last = last_of w; translation = 0; length = w.size })
window_item_of Mem64 w =
    Qword (record { kind = 0; flags = memory_flags w.prefetch; granularity = 0; first = w.base; last = last_of w; translation = 0; length = w.size })

abbrev pub window_item : Window → ResourceItem
window_item w = window_item_of w.kind w

-- the buses, and then the windows in their order
abbrev pub bridge_items : Bridge → List ResourceItem
bridge_items b = bus_item b.last_bus ∷ map window_item b.windows

-- A route: all functions of the device, the pin, no device that could route it elsewhere, and the interrupt (6.2.13, table 6.14).
abbrev pub route_term : Route → Term
route_term r = Package (Int (r.device * 0x10000 + 0xFFFF) ∷ Int r.pin ∷ Int 0 ∷ Int r.gsi ∷ [])

-- A bridge with configuration space in memory is one of PCI Express, which is compatible with one of PCI.
abbrev pub bridge_ids : ℕ → List Term
bridge_ids ecam =
    if ecam == 0 then hardware_id pci_bridge ∷ [] else hardware_id pci_express_bridge ∷ compatible_id pci_bridge ∷ []

abbrev pub bridge_device : Bridge → Term
bridge_device b =
    device (codes "PCI0") (bridge_ids b.ecam ++ unique_id 0 ∷ name (codes "_BBN") (Int 0) ∷ resources (bridge_items b)
    ∷ name (codes "_PRT") (Package (map route_term b.routes)) ∷ [])
