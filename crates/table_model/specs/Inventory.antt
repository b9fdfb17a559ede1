-- What a view of memory shows of a machine, and what a machine should show.
use Rattle.std.specs.Prelude.{◌≡◌, ℕ, ◌*◌, false, List, Option, Some, None, MatchOption, option_map}
use Rattle.vt_bytes.specs.View.{View}
use Rattle.machine_desc.specs.declared.machine.Machine.{Machine}
use Rattle.acpi_model.specs.declared.form.Form.{Form}
use Rattle.acpi_model.specs.declared.acpi.AcpiTables.{AcpiTables}
use Rattle.acpi_model.specs.Acpi.{ShowsAcpiBy, acpi_of, id_of}
use Rattle.smbios_model.specs.declared.anchor.AnchorForm.{AnchorForm}
use Rattle.smbios_model.specs.declared.smbios.SmbiosTable.{SmbiosTable}
use Rattle.smbios_model.specs.Smbios.{ShowsSmbiosBy, smbios_of}
use Rattle.table_model.specs.declared.inventory.Inventory.{Inventory}
use Rattle.table_model.specs.declared.search.Search.{Search}
use Rattle.table_model.specs.declared.search.RootSearch.{RootSearch}
use Rattle.table_model.specs.declared.search.AnchorSearch.{AnchorSearch}
use Rattle.table_model.specs.Search.{IsSoughtRoot, IsSoughtAnchor, HasNoRoot, HasNoRootBelow, HasNoAnchorOf, HasNoAnchorBelow, search_of}

-- A view shows ACPI tables, and the id of a generation to which they lead, by a search: those of the first RSDP that is looked for, which its
-- form reads.
pub record ShowsTablesOf (search : RootSearch) (view : View) (tables : AcpiTables) (id : Option (List ℕ)) : Type 0 where
  pub form : Form
  pub sought : IsSoughtRoot search form
  pub shown : ShowsAcpiBy form view tables id
  pub first : HasNoRootBelow search view shown.rsdp

-- or it shows none, exactly where no valid RSDP stands that is looked for
abbrev pub ShowsTablesBy : RootSearch → View → Option AcpiTables → Option (List ℕ) → Type 0
ShowsTablesBy search view None id = HasNoRoot search view × (id ≡ None)
ShowsTablesBy search view (Some tables) id = ShowsTablesOf search view tables id

-- A view shows the table of SMBIOS structures by a search: that of the first anchor that is looked for, which its form reads.
pub record ShowsStructuresOf (search : AnchorSearch) (view : View) (table : SmbiosTable) : Type 0 where
  pub form : AnchorForm
  pub sought : IsSoughtAnchor search form
  pub shown : ShowsSmbiosBy form view table
  pub first : HasNoAnchorBelow search view shown.address

-- or it shows none, exactly where no valid anchor stands that is looked for
abbrev pub ShowsStructuresBy : AnchorSearch → View → Option SmbiosTable → Type 0
ShowsStructuresBy search view table = MatchOption table (HasNoAnchorOf search view) (ShowsStructuresOf search view)

-- A memory below a top shows the inventory by a search: its top, the table of its SMBIOS anchor, and its ACPI tables with the id of its
-- generation.
pub record ShowsBy (search : Search) (top : ℕ) (view : View) (inventory : Inventory) : Type 0 where
  pub its_top : inventory.top ≡ top
  pub smbios : ShowsStructuresBy search.anchor view inventory.smbios
  pub acpi : ShowsTablesBy search.root view inventory.acpi inventory.generation

-- the same by the RSDP, the XSDT and the FADT of ACPI 6.5, and by the 64-bit entry point
abbrev pub Shows : ℕ → View → Inventory → Type 0
Shows top view inventory = ShowsBy (search_of false false) top view inventory

-- the inventory of a machine
abbrev pub inventory_of : Machine → Inventory
inventory_of m = record {
  top = m.top_mib * 0x100000;
  smbios = Some (smbios_of m);
  acpi = option_map (acpi_of m) m.acpi;
  generation = id_of m;
}
