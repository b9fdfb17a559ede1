-- The items of an inventory, by which two inventories are compared: each is a part of one, and all of them are the whole.
use Rattle.std.specs.Prelude.{◌≡◌, ℕ, ◌+◌, ◌⊎◌, List, [], ◌∷◌, Option, option_map, option_and_then}
use Rattle.std.specs.Option.{option_map_or}
use Rattle.acpi_records.specs.declared.facs.Facs.{Facs}
use Rattle.acpi_records.specs.declared.fadt.Fadt.{Fadt}
use Rattle.acpi_records.specs.declared.header.Head.{Head}
use Rattle.acpi_records.specs.declared.hpet.HpetTable.{HpetTable}
use Rattle.acpi_records.specs.declared.madt.Madt.{Madt}
use Rattle.acpi_records.specs.declared.mcfg.Mcfg.{Mcfg}
use Rattle.acpi_records.specs.declared.slit.Slit.{Slit}
use Rattle.acpi_records.specs.declared.srat.Srat.{Srat}
use Rattle.acpi_model.specs.declared.acpi.AcpiTables.{AcpiTables}
use Rattle.acpi_model.specs.declared.acpi.OtherTable.{OtherTable}
use Rattle.acpi_model.specs.declared.dsdt.Dsdt.{Dsdt}
use Rattle.smbios_model.specs.declared.smbios.SmbiosTable.{SmbiosTable}
use Rattle.smbios_model.specs.declared.smbios.Structure.{Structure}
use Rattle.table_model.specs.declared.inventory.Inventory.{Inventory}

-- The top, whether there is an anchor, and its version.
abbrev pub version_of : SmbiosTable → ℕ × ℕ × ℕ
version_of t = (t.major, t.minor, t.docrev)

abbrev pub top_item : Inventory → ℕ × Option (ℕ × ℕ × ℕ)
top_item i = (i.top, option_map version_of i.smbios)

-- the structures
abbrev pub structures_item : Inventory → Option (List Structure)
structures_item i = option_map (λ (t : SmbiosTable). t.structures) i.smbios

-- Whether there is an RSDP, its maker's id, and the header of the XSDT.
abbrev pub maker_of : AcpiTables → List ℕ × Head
maker_of t = (t.oem_id, t.xsdt)

abbrev pub maker_item : Inventory → Option (List ℕ × Head)
maker_item i = option_map maker_of i.acpi

-- the tables of each kind, where there is one
abbrev pub fadt_in : Inventory → Option Fadt
fadt_in i = option_and_then (λ (t : AcpiTables). t.fadt) i.acpi

abbrev pub facs_in : Inventory → Option Facs
facs_in i = option_and_then (λ (t : AcpiTables). t.facs) i.acpi

abbrev pub dsdt_in : Inventory → Option Dsdt
dsdt_in i = option_and_then (λ (t : AcpiTables). t.dsdt) i.acpi

abbrev pub madt_in : Inventory → Option Madt
madt_in i = option_and_then (λ (t : AcpiTables). t.madt) i.acpi

abbrev pub srat_in : Inventory → Option Srat
srat_in i = option_and_then (λ (t : AcpiTables). t.srat) i.acpi

abbrev pub slit_in : Inventory → Option Slit
slit_in i = option_and_then (λ (t : AcpiTables). t.slit) i.acpi

abbrev pub mcfg_in : Inventory → Option Mcfg
mcfg_in i = option_and_then (λ (t : AcpiTables). t.mcfg) i.acpi

abbrev pub hpet_in : Inventory → Option HpetTable
hpet_in i = option_and_then (λ (t : AcpiTables). t.hpet) i.acpi

-- the FADT and the FACS
abbrev pub power_item : Inventory → Option Fadt × Option Facs
power_item i = (fadt_in i, facs_in i)

-- the DSDT and the id of the machine's generation
abbrev pub devices_item : Inventory → Option Dsdt × Option (List ℕ)
devices_item i = (dsdt_in i, i.generation)

-- the other tables
abbrev pub others_item : Inventory → List OtherTable
others_item i = option_map_or (λ (t : AcpiTables). t.others) i.acpi []

-- The items, in order: the first is number 1.
abbrev pub AgreeIn : {Item : Type 0} → (Inventory → Item) → Inventory → Inventory → Type 0
AgreeIn item a b = item a ≡ item b

abbrev pub items : List (Inventory → Inventory → Type 0)
items =
    AgreeIn top_item ∷ AgreeIn structures_item ∷ AgreeIn maker_item ∷ AgreeIn power_item ∷ AgreeIn devices_item ∷ AgreeIn madt_in ∷ AgreeIn srat_in
    ∷ AgreeIn slit_in ∷ AgreeIn mcfg_in ∷ AgreeIn hpet_in ∷ AgreeIn others_item ∷ []

-- two inventories agree in each of some items
abbrev pub AgreeInAll : List (Inventory → Inventory → Type 0) → Inventory → Inventory → Type 0
AgreeInAll [] a b = Unit {0}
AgreeInAll (Agree ∷ more) a b = Agree a b × AgreeInAll more a b

-- the first of some items, counted from a number on, in which they don't
abbrev pub IsFirstDifference : ℕ → List (Inventory → Inventory → Type 0) → Inventory → Inventory → ℕ → Type 0
IsFirstDifference number [] a b item = ⊥
IsFirstDifference number (Agree ∷ more) a b item =
    ((item ≡ number) × (Agree a b → ⊥)) ⊎ (Agree a b × IsFirstDifference (number + 1) more a b item)
