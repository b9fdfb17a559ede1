-- The other devices of a machine that a guest finds through AML: serial ports, clock, keyboard, timer, processors, and the one that leads to
-- the id of its generation.
use Rattle.std.specs.Prelude.{ℕ, ◌+◌, ◌/◌, ◌%◌, ◌^◌, List, [], ◌∷◌, ◌++◌, nat_lt, codes, if◌then◌else◌}
use Rattle.aml_terms.specs.declared.term.Term.{Term}
use Rattle.aml_terms.specs.declared.term.Term.TheVariants.{Int, Chars, Package}
use Rattle.machine_desc.specs.declared.device_parts.Uart.{Uart}
use Rattle.machine_desc.specs.declared.machine.Hpet.{Hpet}
use Rattle.resource_items.specs.declared.resource_item.ResourceItem.{ResourceItem}
use Rattle.resource_items.specs.declared.resource_item.ResourceItem.TheVariants.{Port, Irq, Memory}
use Rattle.dsdt_terms.specs.Names.{name, device, hardware_id, unique_id, resources}
use Rattle.dsdt_terms.specs.Names.{serial_port, real_time_clock, keyboard_controller, event_timer}

-- so many ports from one on, which stay where they are
abbrev pub port_item : ℕ → ℕ → ResourceItem
port_item port length = Port (record { min = port; max = port; length = length })

-- an interrupt, as the bit of its number
abbrev pub irq_item : ℕ → ResourceItem
irq_item irq = Irq (record { mask = 2 ^ irq })

-- the serial port at a place, whose number counts from 1
abbrev pub uart_device : ℕ × Uart → Term
uart_device u =
    device (codes "COM" ++ (0x31 + u.0) ∷ [])
    (hardware_id serial_port ∷ unique_id (u.0 + 1) ∷ resources (port_item u.1.port 8 ∷ irq_item u.1.irq ∷ []) ∷ [])

abbrev pub clock_device : Term
clock_device = device (codes "RTC_") (hardware_id real_time_clock ∷ resources (port_item 0x70 2 ∷ irq_item 8 ∷ []) ∷ [])

abbrev pub keyboard_device : Term
keyboard_device =
    device (codes "KBD_") (hardware_id keyboard_controller ∷ resources (port_item 0x60 1 ∷ port_item 0x64 1 ∷ irq_item 1 ∷ []) ∷ [])

abbrev pub timer_device : Hpet → Term
timer_device hpet =
    device (codes "HPET") (hardware_id event_timer ∷ resources (Memory (record { base = hpet.address; length = 0x400 }) ∷ []) ∷ [])

-- The name of a processor: the four hexadecimal digits of 0xC000 and its number, which is below 4,096.
abbrev pub hex_digit : ℕ → ℕ
hex_digit digit = if nat_lt digit 10 then 0x30 + digit else 0x37 + digit

abbrev pub cpu_name : ℕ → List ℕ
cpu_name number = hex_digit 0xC ∷ hex_digit (number / 0x100 % 0x10) ∷ hex_digit (number / 0x10 % 0x10) ∷ hex_digit (number % 0x10) ∷ []

-- a processor, by the UID that its entry of the MADT has (ACPI 6.5, 8.4)
abbrev pub cpu_device : ℕ → Term
cpu_device number = device (cpu_name number) (name (codes "_HID") (Chars (codes "ACPI0007")) ∷ unique_id number ∷ [])

-- the device that leads to the id of the machine's generation by the halves of an address, the low one given (Microsoft, Virtual Machine
-- Generation ID; the names are those of QEMU, docs/specs/vmgenid.rst)
abbrev pub generation_device : Term → Term
generation_device low =
    device (codes "VGEN")
    (name (codes "_HID") (Chars (codes "QEMUVGID")) ∷ name (codes "_CID") (Chars (codes "VM_Gen_Counter"))
    ∷ name (codes "ADDR") (Package (low ∷ Int 0 ∷ [])) ∷ [])
