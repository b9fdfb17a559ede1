-- The list of an inventory: what a guest finds in its memory, in lines. Each ends in a line feed.
use Rattle.std.specs.Prelude.{ℕ, Bool, true, nat_le, ◌&&◌, List, [], ◌∷◌, ◌++◌, length, map, codes, decimal, Option, Some, None, is_some, if◌then◌else◌}
use Rattle.std.specs.List.{flat_map}
use Rattle.std.specs.Int.{w16, to_be_bytes}
use Rattle.hex.specs.Hex.{encode_lower}
use Rattle.acpi_model.specs.declared.acpi.AcpiTables.{AcpiTables}
use Rattle.acpi_model.specs.declared.acpi.OtherTable.{OtherTable}
use Rattle.acpi_model.specs.declared.dsdt.Dsdt.{Dsdt}
use Rattle.acpi_model.specs.declared.dsdt.Dsdt.TheVariants.{Terms, Foreign}
use Rattle.smbios_model.specs.declared.smbios.Structure.{Structure}
use Rattle.smbios_model.specs.declared.smbios.SmbiosTable.{SmbiosTable}
use Rattle.smbios_model.specs.Structures.{number_of}
use Rattle.table_model.specs.declared.inventory.Inventory.{Inventory}

-- a byte of a text, or a question mark for one that doesn't show: 0x20 to 0x7E do
abbrev pub shown_byte : ℕ → ℕ
shown_byte byte = if nat_le 0x20 byte && nat_le byte 0x7E then byte else 0x3F

abbrev pub shown : List ℕ → List ℕ
shown text = map shown_byte text

-- a structure: its type, and its handle in four lower-case hexadecimal digits
abbrev pub structure_line : Structure → List ℕ
structure_line s = codes "type " ++ decimal (number_of s.body) ++ codes " handle " ++ encode_lower (to_be_bytes w16 s.handle) ++ 10 ∷ []

-- the version that the anchor tells, how many structures there are, and each of them, in order
abbrev pub table_head_line : SmbiosTable → List ℕ
table_head_line t =
    codes "smbios " ++ decimal t.major ++ codes "." ++ decimal t.minor ++ codes "." ++ decimal t.docrev
    ++ codes " structures " ++ decimal (length t.structures) ++ 10 ∷ []

unfoldable pub structure_lines : List Structure → List ℕ
structure_lines structures = flat_map structure_line structures

unfoldable pub smbios_lines : Option SmbiosTable → List ℕ
smbios_lines None = codes "smbios none" ++ 10 ∷ []
smbios_lines (Some t) = table_head_line t ++ structure_lines t.structures

-- a table by its signature
abbrev pub table_line : List ℕ → List ℕ
table_line signature = codes "table " ++ shown signature ++ 10 ∷ []

-- a table of which only its length is told
abbrev pub length_line : OtherTable → List ℕ
length_line t = codes "table " ++ shown t.signature ++ codes " length " ++ decimal t.length ++ 10 ∷ []

-- the signatures that are known, in the order of the list, and whether a table of each is there
abbrev pub known_tables : AcpiTables → List (List ℕ × Bool)
known_tables t =
    (codes "XSDT", true) ∷ (codes "FACP", is_some t.fadt) ∷ (codes "FACS", is_some t.facs) ∷ (codes "DSDT", is_some t.dsdt)
    ∷ (codes "APIC", is_some t.madt) ∷ (codes "SRAT", is_some t.srat) ∷ (codes "SLIT", is_some t.slit)
    ∷ (codes "MCFG", is_some t.mcfg) ∷ (codes "HPET", is_some t.hpet) ∷ []

abbrev pub line_if_there : List ℕ × Bool → List ℕ
line_if_there known = if known.1 then table_line known.0 else []

unfoldable pub known_lines : List (List ℕ × Bool) → List ℕ
known_lines tables = flat_map line_if_there tables

-- a DSDT whose definition block spells no terms, as a table of which only its length is told
abbrev pub foreign_dsdt : Option Dsdt → List OtherTable
foreign_dsdt None = []
foreign_dsdt (Some (Terms head terms)) = []
foreign_dsdt (Some (Foreign head length)) = record { signature = codes "DSDT"; length = length } ∷ []

unfoldable pub length_lines : List OtherTable → List ℕ
length_lines tables = flat_map length_line tables

-- the tables of which only their length is told
unfoldable pub unread_lines : AcpiTables → List ℕ
unread_lines t = length_lines (foreign_dsdt t.dsdt) ++ length_lines t.others

-- the maker's id, which the RSDP tells
abbrev pub oem_line : List ℕ → List ℕ
oem_line oem_id = codes "acpi " ++ shown oem_id ++ 10 ∷ []

-- the maker's id, the tables of known signatures, and then those of which only their length is told
unfoldable pub acpi_lines : Option AcpiTables → List ℕ
acpi_lines None = codes "acpi none" ++ 10 ∷ []
acpi_lines (Some t) = oem_line t.oem_id ++ known_lines (known_tables t) ++ unread_lines t

unfoldable pub list_of : Inventory → List ℕ
list_of inventory = smbios_lines inventory.smbios ++ acpi_lines inventory.acpi
