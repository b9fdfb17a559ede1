-- The maker of tables, from its identifiers in an RSDP and in the header of an XSDT (ACPI 6.5, 5.2.5.3 and 5.2.6).
use Rattle.std.specs.Prelude.{ℕ, List, [], ◌∷◌, ◌==◌, if◌then◌else◌}
use Rattle.machine_desc.specs.declared.machine.Acpi.{Acpi}
use Rattle.acpi_records.specs.declared.header.Head.{Head}

-- a byte in front of a text, but for a space in front of none
abbrev pub in_front : ℕ → List ℕ → List ℕ
in_front first [] = if first == 0x20 then [] else first ∷ []
in_front first (next ∷ text) = first ∷ next ∷ text

-- a text without the spaces at its end
abbrev pub unpadded : List ℕ → List ℕ
unpadded [] = []
unpadded (first ∷ text) = in_front first (unpadded text)

-- the maker whose identifiers are padded so
abbrev pub acpi_in : List ℕ → Head → Acpi
acpi_in oem_id xsdt = record { oem_id = unpadded oem_id; oem_table_id = unpadded xsdt.oem_table_id }
