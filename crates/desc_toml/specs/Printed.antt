-- The document that a machine is printed as: its values, in the schema's order, written by the schema. It has every key of each part that is
-- there, also one that has its default, but for one of no value and an empty array that may be left out.
use Rattle.std.specs.Prelude.{ℕ, List, [], ◌∷◌, ◌++◌, length, Option, Some, None}
use Rattle.std.specs.List.{flat_map}
use Rattle.toml.specs.Data.{Members}
use Rattle.desc_schema.specs.declared.value.Value.{Value}
use Rattle.desc_schema.specs.Written.{hyphenated, written}
use Rattle.machine_desc.specs.declared.machine.Machine.{Machine}
use Rattle.machine_desc.specs.declared.machine.System.{System}
use Rattle.machine_desc.specs.declared.machine.Acpi.{Acpi}
use Rattle.machine_desc.specs.declared.machine.Hpet.{Hpet}
use Rattle.machine_desc.specs.declared.acpi_parts.Power.{Power}
use Rattle.machine_desc.specs.declared.acpi_parts.Apic.{Apic}
use Rattle.machine_desc.specs.declared.acpi_parts.Cpu.{Cpu}
use Rattle.machine_desc.specs.declared.acpi_parts.IoApic.{IoApic}
use Rattle.machine_desc.specs.declared.acpi_parts.Override.{Override}
use Rattle.machine_desc.specs.declared.acpi_parts.Nmi.{Nmi}
use Rattle.machine_desc.specs.declared.acpi_parts.Numa.{Numa}
use Rattle.machine_desc.specs.declared.device_parts.Bridge.{Bridge}
use Rattle.machine_desc.specs.declared.device_parts.Window.{Window}
use Rattle.machine_desc.specs.declared.device_parts.WindowKind.{WindowKind}
use Rattle.machine_desc.specs.declared.device_parts.WindowKind.TheVariants.{Io, Mem32, Mem64}
use Rattle.machine_desc.specs.declared.device_parts.Route.{Route}
use Rattle.machine_desc.specs.declared.device_parts.Uart.{Uart}
use Rattle.machine_desc.specs.declared.smbios_parts.Firmware.{Firmware}
use Rattle.machine_desc.specs.declared.smbios_parts.Chassis.{Chassis}
use Rattle.machine_desc.specs.declared.smbios_parts.Socket.{Socket}
use Rattle.machine_desc.specs.declared.smbios_parts.Dimm.{Dimm}
use Rattle.machine_desc.specs.declared.smbios_parts.MemRange.{MemRange}
use Rattle.machine_desc.specs.declared.smbios_parts.Slot.{Slot}
use Rattle.desc_toml.specs.Keys.{schema}

-- the value of a key that may be left out for good

abbrev pub uuid_or_nothing : Option ℕ → Value
uuid_or_nothing None = Value.Nothing
uuid_or_nothing (Some uuid) = Value.Uuid uuid

abbrev pub number_or_nothing : Option ℕ → Value
number_or_nothing None = Value.Nothing
number_or_nothing (Some number) = Value.Number number

-- a table that may be left out: how many there are, and its values
unfoldable pub part_values : {V : Type 0} → (V → List Value) → Option V → List Value
part_values values_of None = Value.Count 0 ∷ []
part_values values_of (Some part) = Value.Count 1 ∷ values_of part

-- an array: how many parts it has, and the values of each
unfoldable pub list_values : {V : Type 0} → (V → List Value) → List V → List Value
list_values values_of parts = Value.Count (length parts) ∷ flat_map values_of parts

-- the values of each part, by its keys

abbrev pub text_values : List ℕ → List Value
text_values text = Value.Text text ∷ []

abbrev pub number_values : ℕ → List Value
number_values number = Value.Number number ∷ []

abbrev pub system_values : System → List Value
system_values s =
    Value.Text s.manufacturer ∷ Value.Text s.product ∷ Value.Text s.version ∷ Value.Text s.serial ∷ Value.Text s.sku ∷ Value.Text s.family
    ∷ uuid_or_nothing s.uuid ∷ []

abbrev pub firmware_values : Firmware → List Value
firmware_values f = Value.Text f.vendor ∷ Value.Text f.version ∷ Value.Text f.date ∷ Value.Number f.major ∷ Value.Number f.minor ∷ []

abbrev pub chassis_values : Chassis → List Value
chassis_values c =
    Value.Text c.manufacturer ∷ Value.Text c.version ∷ Value.Text c.serial ∷ Value.Text c.asset ∷ Value.Text c.sku ∷ Value.Number c.kind ∷ []

abbrev pub socket_values : Socket → List Value
socket_values s =
    Value.Text s.designation ∷ Value.Text s.manufacturer ∷ Value.Text s.version ∷ Value.Text s.serial ∷ Value.Text s.asset ∷ Value.Text s.part
    ∷ Value.Number s.cores ∷ Value.Number s.threads ∷ Value.Number s.mhz ∷ []

abbrev pub dimm_values : Dimm → List Value
dimm_values d =
    Value.Text d.locator ∷ Value.Text d.bank ∷ Value.Text d.manufacturer ∷ Value.Text d.serial ∷ Value.Text d.asset ∷ Value.Text d.part
    ∷ Value.Number d.size_mib ∷ Value.Number d.speed ∷ []

abbrev pub range_values : MemRange → List Value
range_values r = Value.Number r.base_mib ∷ Value.Number r.size_mib ∷ Value.Number r.node ∷ []

abbrev pub slot_values : Slot → List Value
slot_values s =
    Value.Text s.designation ∷ Value.Number s.kind ∷ Value.Number s.width ∷ Value.Flag s.used ∷ Value.Number s.id ∷ Value.Number s.bus
    ∷ Value.Number s.device ∷ Value.Number s.function ∷ []

abbrev pub acpi_values : Acpi → List Value
acpi_values a = Value.Text a.oem_id ∷ Value.Text a.oem_table_id ∷ []

abbrev pub power_values : Power → List Value
power_values p =
    Value.Number p.sci ∷ Value.Number p.profile ∷ Value.Number p.event ∷ Value.Number p.control ∷ Value.Number p.timer ∷ Value.Number p.gpe
    ∷ Value.Number p.gpe_len ∷ Value.Number p.reset ∷ Value.Number p.reset_value ∷ Value.Number p.century ∷ Value.Flag p.rtc
    ∷ Value.Flag p.keyboard ∷ []

abbrev pub hpet_values : Hpet → List Value
hpet_values h = Value.Number h.address ∷ Value.Number h.block_id ∷ Value.Number h.number ∷ Value.Number h.min_tick ∷ []

abbrev pub apic_values : Apic → List Value
apic_values a = Value.Number a.local ∷ Value.Flag a.legacy ∷ []

abbrev pub cpu_values : Cpu → List Value
cpu_values c = Value.Number c.apic ∷ Value.Number c.node ∷ Value.Flag c.enabled ∷ []

abbrev pub io_apic_values : IoApic → List Value
io_apic_values a = Value.Number a.id ∷ Value.Number a.address ∷ Value.Number a.gsi ∷ []

abbrev pub override_values : Override → List Value
override_values o = Value.Number o.irq ∷ Value.Number o.gsi ∷ Value.Number o.flags ∷ []

abbrev pub nmi_values : Nmi → List Value
nmi_values n = number_or_nothing n.cpu ∷ Value.Number n.flags ∷ Value.Number n.lint ∷ []

abbrev pub numa_values : Numa → List Value
numa_values n = Value.Number n.nodes ∷ list_values number_values n.distance

-- the place of a window's kind among its words
abbrev pub place_of_kind : WindowKind → ℕ
place_of_kind Io = 0
place_of_kind Mem32 = 1
place_of_kind Mem64 = 2

abbrev pub window_values : Window → List Value
window_values w = Value.Word (place_of_kind w.kind) ∷ Value.Number w.base ∷ Value.Number w.size ∷ Value.Flag w.prefetch ∷ []

abbrev pub route_values : Route → List Value
route_values r = Value.Number r.device ∷ Value.Number r.pin ∷ Value.Number r.gsi ∷ []

abbrev pub bridge_values : Bridge → List Value
bridge_values b = Value.Number b.ecam ∷ Value.Number b.last_bus ∷ (list_values window_values b.windows ++ list_values route_values b.routes)

abbrev pub uart_values : Uart → List Value
uart_values u = Value.Number u.port ∷ Value.Number u.irq ∷ []

-- What a machine has before its arrays, those arrays, its tables that are about ACPI, its arrays that are, and its devices. The description's
-- version is 1, and there is one table of the system.

unfoldable pub front_values : Machine → List Value
front_values m =
    Value.Number 1 ∷ Value.Number m.top_mib
    ∷ (list_values text_values m.oem_strings
    ++ (uuid_or_nothing m.generation ∷ Value.Count 1
    ∷ (system_values m.system ++ (part_values firmware_values m.firmware ++ part_values chassis_values m.chassis))))

unfoldable pub array_values : Machine → List Value
array_values m =
    list_values socket_values m.sockets
    ++ (list_values dimm_values m.dimms ++ (list_values range_values m.ranges ++ list_values slot_values m.slots))

unfoldable pub table_values : Machine → List Value
table_values m =
    part_values acpi_values m.acpi
    ++ (part_values power_values m.power ++ (part_values hpet_values m.hpet ++ part_values apic_values m.apic))

unfoldable pub entry_values : Machine → List Value
entry_values m =
    list_values cpu_values m.cpus
    ++ (list_values io_apic_values m.io_apics
    ++ (list_values override_values m.overrides ++ (list_values nmi_values m.nmis ++ part_values numa_values m.numa)))

unfoldable pub device_values : Machine → List Value
device_values m = part_values bridge_values m.bridge ++ list_values uart_values m.uarts

-- the values of a machine, in the schema's order
unfoldable pub values_of : Machine → List Value
values_of m = front_values m ++ (array_values m ++ (table_values m ++ (entry_values m ++ device_values m)))

-- the document of a machine
unfoldable pub document_of : Machine → Members
document_of m = written hyphenated schema (values_of m)
