-- The line of the first fault of a memory's tables. It ends in a line feed.
use Rattle.std.specs.Prelude.{ℕ, List, [], ◌∷◌, ◌++◌, codes, decimal}
use Rattle.std.specs.Int.{w64, to_be_bytes}
use Rattle.hex.specs.Hex.{encode_lower}
use Rattle.acpi_decode.specs.declared.fault.AcpiFault.{AcpiFault}
use Rattle.acpi_decode.specs.declared.fault.AcpiFault.TheVariants as acpi
use Rattle.smbios_decode.specs.declared.fault.SmbiosFault.{SmbiosFault}
use Rattle.smbios_decode.specs.declared.fault.SmbiosFault.TheVariants as smbios

-- the number of a fault of the ACPI tables, in the order of the faults, and its address in 16 lower-case hexadecimal digits
abbrev pub acpi_fault_line : ℕ → ℕ → List ℕ
acpi_fault_line number address =
    codes "tables: acpi fault " ++ decimal number ++ codes " at " ++ encode_lower (to_be_bytes w64 address) ++ 10 ∷ []

abbrev pub acpi_line : AcpiFault → List ℕ
acpi_line (acpi.OutsideRam address) = acpi_fault_line 1 address
acpi_line (acpi.BadSum address) = acpi_fault_line 2 address
acpi_line (acpi.BadLength address) = acpi_fault_line 3 address
acpi_line (acpi.BadEntry address) = acpi_fault_line 4 address
acpi_line (acpi.WrongSignature address) = acpi_fault_line 5 address
acpi_line (acpi.TwiceGiven address) = acpi_fault_line 6 address
acpi_line acpi.OutOfMemory = codes "out of memory" ++ 10 ∷ []

-- the number of a fault of the SMBIOS structures, in the order of the faults, and the place of the structure in the table, in decimal; a
-- table without an end has no such place, and 0 is told
abbrev pub smbios_fault_line : ℕ → ℕ → List ℕ
smbios_fault_line number place = codes "tables: smbios fault " ++ decimal number ++ codes " at " ++ decimal place ++ 10 ∷ []

abbrev pub smbios_line : SmbiosFault → List ℕ
smbios_line (smbios.Truncated place) = smbios_fault_line 1 place
smbios_line (smbios.ShortStructure place) = smbios_fault_line 2 place
smbios_line smbios.NoEnd = smbios_fault_line 3 0
smbios_line (smbios.NoSuchString place number) = smbios_fault_line 4 place
smbios_line smbios.OutOfMemory = codes "out of memory" ++ 10 ∷ []
