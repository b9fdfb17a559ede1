-- Worked parts of a machine, and the entries of a MADT that tell them, as bytes.
use Rattle.std.specs.Prelude.{ℕ, true, false, List, [], ◌∷◌, Some, None}
use Rattle.machine_desc.specs.declared.acpi_parts.Cpu.{Cpu}
use Rattle.machine_desc.specs.declared.acpi_parts.Nmi.{Nmi}

-- the processor at 0 has the greatest id of a local APIC, that at 1 the next one, and is disabled
abbrev pub worked_cpus : List Cpu
worked_cpus = record { apic = 254; node = 0; enabled = true } ∷ record { apic = 255; node = 0; enabled = false } ∷ []

abbrev pub worked_cpus_bytes : List ℕ
worked_cpus_bytes =
    0x00 ∷ 0x08 ∷ 0x00 ∷ 0xFE ∷ 0x01 ∷ 0x00 ∷ 0x00 ∷ 0x00
    ∷ 0x09 ∷ 0x10 ∷ 0x00 ∷ 0x00 ∷ 0xFF ∷ 0x00 ∷ 0x00 ∷ 0x00 ∷ 0x00 ∷ 0x00 ∷ 0x00 ∷ 0x00 ∷ 0x01 ∷ 0x00 ∷ 0x00 ∷ 0x00 ∷ []

-- NMIs of all processors, of the last one with a local APIC, and of the next one
abbrev pub worked_nmis : List Nmi
worked_nmis =
    record { cpu = None; flags = 5; lint = 1 } ∷ record { cpu = Some 254; flags = 0; lint = 0 } ∷ record { cpu = Some 255; flags = 0; lint = 1 } ∷ []

abbrev pub worked_nmis_bytes : List ℕ
worked_nmis_bytes =
    0x04 ∷ 0x06 ∷ 0xFF ∷ 0x05 ∷ 0x00 ∷ 0x01
    ∷ 0x04 ∷ 0x06 ∷ 0xFE ∷ 0x00 ∷ 0x00 ∷ 0x00
    ∷ 0x0A ∷ 0x0C ∷ 0x00 ∷ 0x00 ∷ 0xFF ∷ 0x00 ∷ 0x00 ∷ 0x00 ∷ 0x01 ∷ 0x00 ∷ 0x00 ∷ 0x00 ∷ []
