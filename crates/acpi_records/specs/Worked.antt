-- Worked entries of the MADT, of the SRAT and of the MCFG, and their bytes, which were made by hand from the standards (ACPI 6.5, 5.2.12 and
-- 5.2.16; PCI Firmware Specification 3.3, 4.1.2).
use Rattle.std.specs.Prelude.{ℕ, List, [], ◌∷◌}
use Rattle.acpi_records.specs.declared.madt_entry.MadtEntry.{MadtEntry}
use Rattle.acpi_records.specs.declared.madt_entry.MadtEntry.TheVariants.{LocalApic, IoApic, Override, LocalNmi, X2Apic, X2ApicNmi, Other}
use Rattle.acpi_records.specs.declared.mcfg.McfgAllocation.{McfgAllocation}
use Rattle.acpi_records.specs.declared.srat_entry.SratEntry.{SratEntry}
use Rattle.acpi_records.specs.declared.srat_entry.SratEntry.TheVariants as srat

abbrev pub worked_madt : List MadtEntry
worked_madt =
    LocalApic (record { uid = 0; apic = 254; flags = 1 }) ∷ X2Apic (record { apic = 255; flags = 1; uid = 1 })
    ∷ IoApic (record { id = 2; address = 0xFEC00000; gsi = 24 }) ∷ Override (record { bus = 0; irq = 9; gsi = 20; flags = 0x000D })
    ∷ LocalNmi (record { uid = 0xFF; flags = 5; lint = 1 }) ∷ X2ApicNmi (record { flags = 5; uid = 0x12345678; lint = 1 }) ∷ Other 0x80 4
    ∷ []

abbrev pub worked_madt_bytes : List ℕ
worked_madt_bytes =
    0 ∷ 8 ∷ 0 ∷ 0xFE ∷ 1 ∷ 0 ∷ 0 ∷ 0
    ∷ 9 ∷ 16 ∷ 0 ∷ 0 ∷ 0xFF ∷ 0 ∷ 0 ∷ 0 ∷ 1 ∷ 0 ∷ 0 ∷ 0 ∷ 1 ∷ 0 ∷ 0 ∷ 0
    ∷ 1 ∷ 12 ∷ 2 ∷ 0 ∷ 0 ∷ 0 ∷ 0xC0 ∷ 0xFE ∷ 24 ∷ 0 ∷ 0 ∷ 0
    ∷ 2 ∷ 10 ∷ 0 ∷ 9 ∷ 20 ∷ 0 ∷ 0 ∷ 0 ∷ 0x0D ∷ 0
    ∷ 4 ∷ 6 ∷ 0xFF ∷ 5 ∷ 0 ∷ 1
    ∷ 10 ∷ 12 ∷ 5 ∷ 0 ∷ 0x78 ∷ 0x56 ∷ 0x34 ∷ 0x12 ∷ 1 ∷ 0 ∷ 0 ∷ 0
    ∷ 0x80 ∷ 4 ∷ 0 ∷ 0 ∷ []

abbrev pub worked_srat : List SratEntry
worked_srat =
    srat.Apic (record { node = 0x12345678; apic = 7; flags = 1 })
    ∷ srat.Memory (record { node = 1; base = 0x100000000; length = 0x80000000; flags = 1 })
    ∷ srat.X2Apic (record { node = 2; apic = 0x1FF; flags = 1 }) ∷ []

abbrev pub worked_srat_bytes : List ℕ
worked_srat_bytes =
    0 ∷ 16 ∷ 0x78 ∷ 7 ∷ 1 ∷ 0 ∷ 0 ∷ 0 ∷ 0 ∷ 0x56 ∷ 0x34 ∷ 0x12 ∷ 0 ∷ 0 ∷ 0 ∷ 0
    ∷ 1 ∷ 40 ∷ 1 ∷ 0 ∷ 0 ∷ 0 ∷ 0 ∷ 0 ∷ 0 ∷ 0 ∷ 0 ∷ 0 ∷ 1 ∷ 0 ∷ 0 ∷ 0 ∷ 0 ∷ 0 ∷ 0 ∷ 0x80 ∷ 0 ∷ 0 ∷ 0 ∷ 0 ∷ 0 ∷ 0 ∷ 0 ∷ 0
    ∷ 1 ∷ 0 ∷ 0 ∷ 0 ∷ 0 ∷ 0 ∷ 0 ∷ 0 ∷ 0 ∷ 0 ∷ 0 ∷ 0
    ∷ 2 ∷ 24 ∷ 0 ∷ 0 ∷ 2 ∷ 0 ∷ 0 ∷ 0 ∷ 0xFF ∷ 1 ∷ 0 ∷ 0 ∷ 1 ∷ 0 ∷ 0 ∷ 0 ∷ 0 ∷ 0 ∷ 0 ∷ 0 ∷ 0 ∷ 0 ∷ 0 ∷ 0 ∷ []

abbrev pub worked_allocations : List McfgAllocation
worked_allocations = record { base = 0xB0000000; segment = 0; last_bus = 0xFF } ∷ record { base = 0x1234567800000; segment = 0x0102; last_bus = 7 } ∷ []

abbrev pub worked_allocations_bytes : List ℕ
worked_allocations_bytes =
    0 ∷ 0 ∷ 0 ∷ 0xB0 ∷ 0 ∷ 0 ∷ 0 ∷ 0 ∷ 0 ∷ 0 ∷ 0 ∷ 0xFF ∷ 0 ∷ 0 ∷ 0 ∷ 0
    ∷ 0 ∷ 0 ∷ 0x80 ∷ 0x67 ∷ 0x45 ∷ 0x23 ∷ 1 ∷ 0 ∷ 2 ∷ 1 ∷ 0 ∷ 7 ∷ 0 ∷ 0 ∷ 0 ∷ 0 ∷ []
