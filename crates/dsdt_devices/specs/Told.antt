-- The bridge, the serial ports, the clock and the keyboard that the terms of a DSDT tell (ACPI 6.5, 6.1, 6.2.2, 6.2.13 and 6.4).
use Rattle.std.specs.Prelude.{ℕ, ◌/◌, Bool, false, ◌||◌, ◌==◌, List, [], ◌∷◌, map, codes, slice_get, is_some, Option, Some, None, option_map, if◌then◌else◌}
use Rattle.std.specs.Int.{w16, is_power_of_two, trailing_zeros}
use Rattle.std.specs.List.{filter_map}
use Rattle.std.specs.Option.{option_map_or}
use Rattle.aml_terms.specs.declared.term.Path.{Path}
use Rattle.aml_terms.specs.Trees.{Tree, int, fixed, buffer, pack, device}
use Rattle.aml_terms.specs.OneSegment.{is_beside}
use Rattle.machine_desc.specs.declared.device_parts.Bridge.{Bridge}
use Rattle.machine_desc.specs.declared.device_parts.Route.{Route}
use Rattle.machine_desc.specs.declared.device_parts.Uart.{Uart}
use Rattle.machine_desc.specs.declared.device_parts.Window.{Window}
use Rattle.machine_desc.specs.declared.device_parts.WindowKind.TheVariants.{Io, Mem32, Mem64}
use Rattle.machine_desc.specs.Fields.{fitted}
use Rattle.resource_items.specs.declared.resource_item.ResourceItem.{ResourceItem}
use Rattle.resource_items.specs.declared.resource_item.ResourceItem.TheVariants.{Port, Irq, Word, Dword, Qword}
use Rattle.resource_decode.specs.Items.{items_in}
use Rattle.dsdt_devices.specs.declared.devices.DsdtDevices.{DsdtDevices}
use Rattle.dsdt_devices.specs.BusTerms.{each_of, bus_terms, first_told, in_device, value_in}

-- The items of a device's first `_CRS`, up to the first of another form; none where it has none, or one that is no buffer.
abbrev pub items_of : Option Tree → List ResourceItem
items_of (Some (buffer bytes)) = items_in bytes
items_of value = []

abbrev pub resources_in : List Tree → List ResourceItem
resources_in inside = items_of (first_told (value_in (codes "_CRS")) inside)

-- The last bus of a range of buses, whose kind is 2, in an item of any width.
abbrev pub buses_in : ResourceItem → Option ℕ
buses_in (Word s) = if s.kind == 2 then Some s.last else None
buses_in (Dword s) = if s.kind == 2 then Some s.last else None
buses_in (Qword s) = if s.kind == 2 then Some s.last else None
buses_in item = None

-- The first range of buses tells the last one, which is 0 where it has more than 8 bits, and 255 where no range is told.
abbrev pub last_bus_in : List ResourceItem → ℕ
last_bus_in items = option_map_or (fitted 8) (first_told buses_in items) 255

-- Each other address space is a window, whose kind is told by the width of its numbers. Ports are never read ahead.
abbrev pub window_in : ResourceItem → Option Window
window_in (Word s) = Some (record { kind = Io; base = s.first; size = s.length; prefetch = false })
window_in (Dword s) = Some (record { kind = Mem32; base = s.first; size = s.length; prefetch = s.flags == 7 })
window_in (Qword s) = Some (record { kind = Mem64; base = s.first; size = s.length; prefetch = s.flags == 7 })
window_in item = None

-- the items but for the first range of buses
abbrev pub but_buses : List ResourceItem → List ResourceItem
but_buses [] = []
but_buses (item ∷ items) = if is_some (buses_in item) then items else item ∷ but_buses items

abbrev pub windows_in : List ResourceItem → List Window
windows_in items = filter_map window_in (but_buses items)

-- The rows of a bridge's first `_PRT`: what a package holds, and nothing of another value.
abbrev pub rows_of : Option Tree → List Tree
rows_of (Some (pack rows)) = each_of rows
rows_of value = []

-- the integer at a place of a row, and 0 where none stands there
abbrev pub integer_of : Option Tree → ℕ
integer_of (Some (int n)) = n
integer_of (Some (fixed n)) = n
integer_of value = 0

abbrev pub integer_at : ℕ → Tree → ℕ
integer_at place row = integer_of (slice_get (rows_of (Some row)) place)

-- A route: its address tells the device in its high half, and its interrupt is the fourth number. What has more bits than a description has
-- for it is 0.
abbrev pub route_in : Tree → Route
route_in row = record {
  device = fitted 8 (integer_at 0 row / 0x10000);
  pin = fitted 8 (integer_at 1 row);
  gsi = fitted 32 (integer_at 3 row);
}

-- The bridge that what stands in its device tells, but for its configuration space.
abbrev pub bridge_in : List Tree → Bridge
bridge_in inside = record {
  ecam = 0;
  last_bus = last_bus_in (resources_in inside);
  windows = windows_in (resources_in inside);
  routes = map route_in (rows_of (first_told (value_in (codes "_PRT")) inside));
}

-- the first port of an item of ports, and the interrupt of a mask that has one bit
abbrev pub port_in : ResourceItem → Option ℕ
port_in (Port p) = Some p.min
port_in item = None

abbrev pub mask_in : ResourceItem → Option ℕ
mask_in (Irq i) = Some i.mask
mask_in item = None

abbrev pub interrupt_of : ℕ → ℕ
interrupt_of mask = if is_power_of_two mask then trailing_zeros w16 mask else 0

-- A serial port: its first item of ports and its first one of interrupts, each 0 where there is none.
abbrev pub uart_of : List ResourceItem → Uart
uart_of items = record {
  port = option_map_or (λ port. port) (first_told port_in items) 0;
  irq = interrupt_of (option_map_or (λ mask. mask) (first_told mask_in items) 0);
}

-- the device of one is `COM1` to `COM4`
abbrev pub is_uart : Path → Bool
is_uart path =
    is_beside (codes "COM1") path || is_beside (codes "COM2") path || is_beside (codes "COM3") path || is_beside (codes "COM4") path

abbrev pub uart_in : Tree → Option Uart
uart_in (device path terms) = if is_uart path then Some (uart_of (resources_in (each_of terms))) else None
uart_in t = None

-- The devices directly in scopes of the system bus that stand at the top: of a bridge, a clock and a keyboard the first, and each serial
-- port.
abbrev pub devices_in : List Tree → DsdtDevices
devices_in terms = record {
  bridge = option_map bridge_in (first_told (in_device (codes "PCI0")) (bus_terms terms));
  uarts = filter_map uart_in (bus_terms terms);
  rtc = is_some (first_told (in_device (codes "RTC_")) (bus_terms terms));
  keyboard = is_some (first_told (in_device (codes "KBD_")) (bus_terms terms));
}
