-- Worked items, and their bytes, which were made by hand from the standard (ACPI 6.5, 6.4).
use Rattle.std.specs.Prelude.{ℕ, List, [], ◌∷◌}
use Rattle.resource_items.specs.declared.address_space.WordSpace.{WordSpace}
use Rattle.resource_items.specs.declared.resource_item.ResourceItem.{ResourceItem}
use Rattle.resource_items.specs.declared.resource_item.ResourceItem.TheVariants.{Port, Irq, Memory, Dword, Qword}

-- a serial port: 8 ports from 3F8 on, and IRQ 4
abbrev pub port_and_irq : List ResourceItem
port_and_irq = Port (record { min = 0x3F8; max = 0x3F8; length = 8 }) ∷ Irq (record { mask = 0x0010 }) ∷ []

abbrev pub port_and_irq_bytes : List ℕ
port_and_irq_bytes = 0x47 ∷ 1 ∷ 0xF8 ∷ 3 ∷ 0xF8 ∷ 3 ∷ 1 ∷ 8 ∷ 0x22 ∷ 0x10 ∷ 0 ∷ 0x79 ∷ 0 ∷ []

-- the buses 0 to 255
abbrev pub buses : WordSpace
buses = record { kind = 2; flags = 0; granularity = 0; first = 0; last = 255; translation = 0; length = 256 }

abbrev pub buses_bytes : List ℕ
buses_bytes = 0x88 ∷ 13 ∷ 0 ∷ 2 ∷ 0x0C ∷ 0 ∷ 0 ∷ 0 ∷ 0 ∷ 0 ∷ 0xFF ∷ 0 ∷ 0 ∷ 0 ∷ 0 ∷ 1 ∷ []

-- the registers of a timer, and memory behind a bridge, below 4 GiB and above
abbrev pub memories : List ResourceItem
memories =
    Memory (record { base = 0xFED00000; length = 0x400 })
    ∷ Dword (record { kind = 0; flags = 1; granularity = 0; first = 0xC0000000; last = 0xFEBFFFFF; translation = 0; length = 0x3EC00000 })
    ∷ Qword (record { kind = 0; flags = 1; granularity = 0; first = 0x800000000; last = 0xFFFFFFFFF; translation = 0; length = 0x800000000 })
    ∷ []

abbrev pub memories_bytes : List ℕ
memories_bytes =
    0x86 ∷ 9 ∷ 0 ∷ 1 ∷ 0 ∷ 0 ∷ 0xD0 ∷ 0xFE ∷ 0 ∷ 4 ∷ 0 ∷ 0
    ∷ 0x87 ∷ 0x17 ∷ 0 ∷ 0 ∷ 0x0C ∷ 1 ∷ 0 ∷ 0 ∷ 0 ∷ 0 ∷ 0 ∷ 0 ∷ 0 ∷ 0xC0 ∷ 0xFF ∷ 0xFF ∷ 0xBF ∷ 0xFE ∷ 0 ∷ 0 ∷ 0 ∷ 0
    ∷ 0 ∷ 0 ∷ 0xC0 ∷ 0x3E
    ∷ 0x8A ∷ 0x2B ∷ 0 ∷ 0 ∷ 0x0C ∷ 1 ∷ 0 ∷ 0 ∷ 0 ∷ 0 ∷ 0 ∷ 0 ∷ 0 ∷ 0 ∷ 0 ∷ 0 ∷ 0 ∷ 0 ∷ 8 ∷ 0 ∷ 0 ∷ 0
    ∷ 0xFF ∷ 0xFF ∷ 0xFF ∷ 0xFF ∷ 0x0F ∷ 0 ∷ 0 ∷ 0 ∷ 0 ∷ 0 ∷ 0 ∷ 0 ∷ 0 ∷ 0 ∷ 0 ∷ 0 ∷ 0 ∷ 0 ∷ 0 ∷ 0 ∷ 8 ∷ 0 ∷ 0 ∷ 0
    ∷ 0x79 ∷ 0 ∷ []
