-- What is read of a memory from both of its anchors, or the first fault: that of its ACPI tables comes before that of its SMBIOS structures.
use Rattle.std.specs.Prelude.{◌≡◌, ◌≢◌, ℕ, ◌<◌, ◌⊎◌, false, List, Option, Result, Ok, Err}
use Rattle.vt_bytes.specs.View.{View}
use Rattle.acpi_model.specs.declared.acpi.AcpiTables.{AcpiTables}
use Rattle.acpi_model.specs.declared.form.Form.{Form}
use Rattle.acpi_model.specs.Rsdp.{HasRsdpBy}
use Rattle.acpi_decode.specs.declared.fault.AcpiFault.{AcpiFault}
use Rattle.acpi_decode.specs.declared.fault.AcpiFault.TheVariants as acpi
use Rattle.acpi_decode.specs.Faults.{FirstBy}
use Rattle.smbios_model.specs.declared.anchor.AnchorForm.{AnchorForm}
use Rattle.smbios_decode.specs.declared.fault.SmbiosFault.{SmbiosFault}
use Rattle.smbios_decode.specs.declared.fault.SmbiosFault.TheVariants as smbios
use Rattle.table_model.specs.declared.inventory.Inventory.{Inventory}
use Rattle.table_model.specs.declared.search.Search.{Search}
use Rattle.table_model.specs.declared.search.RootSearch.{RootSearch}
use Rattle.table_model.specs.declared.search.AnchorSearch.{AnchorSearch}
use Rattle.table_model.specs.Search.{IsSoughtRoot, IsSoughtAnchor, HasNoRootBelow, HasNoAnchorBelow, search_of}
use Rattle.table_model.specs.Inventory.{ShowsTablesBy, ShowsBy}
use Rattle.anchor_scan.specs.declared.fault.ScanFault.{ScanFault}
use Rattle.anchor_scan.specs.declared.fault.ScanFault.TheVariants.{Acpi, Smbios, OutOfMemory}
use Rattle.anchor_scan.specs.Shown.{RefusesSmbiosBy}

-- want of memory is told as such, whichever reader met it
abbrev pub of_acpi : AcpiFault → ScanFault
of_acpi acpi.OutOfMemory = OutOfMemory
of_acpi fault = Acpi fault

abbrev pub of_smbios : SmbiosFault → ScanFault
of_smbios smbios.OutOfMemory = OutOfMemory
of_smbios fault = Smbios fault

-- The least valid RSDP of a form leads to tables that aren't shown, with this first fault.
pub record RefusesAcpiBy (form : Form) (view : View) (fault : AcpiFault) : Type 0 where
  pub rsdp : ℕ
  pub least : (other : ℕ) → other < rsdp → HasRsdpBy form view other → ⊥
  pub first : FirstBy form view rsdp fault

-- The first RSDP that is looked for leads to tables that aren't shown, with this first fault.
pub record RefusesAcpiOf (search : RootSearch) (view : View) (fault : AcpiFault) : Type 0 where
  pub form : Form
  pub sought : IsSoughtRoot search form
  pub refuses : RefusesAcpiBy form view fault
  pub first : HasNoRootBelow search view refuses.rsdp

-- and the first anchor to bytes that aren't structures
pub record RefusesSmbiosOf (search : AnchorSearch) (view : View) (fault : SmbiosFault) : Type 0 where
  pub form : AnchorForm
  pub sought : IsSoughtAnchor search form
  pub refuses : RefusesSmbiosBy form view fault
  pub first : HasNoAnchorBelow search view refuses.address

-- the view shows ACPI tables by a search, or none where no valid RSDP stands that is looked for
pub record ShowsSomeTables (search : RootSearch) (view : View) : Type 0 where
  pub tables : Option AcpiTables
  pub generation : Option (List ℕ)
  pub shown : ShowsTablesBy search view tables generation

-- The fault is that of the ACPI tables by a search, or that of the SMBIOS structures where the ACPI tables have none. Want of memory is no
-- fault of a memory.
abbrev pub RefusesBy : Search → View → ScanFault → Type 0
RefusesBy search view (Acpi fault) = (fault ≢ acpi.OutOfMemory) × RefusesAcpiOf search.root view fault
RefusesBy search view (Smbios fault) = (fault ≢ smbios.OutOfMemory) × RefusesSmbiosOf search.anchor view fault × ShowsSomeTables search.root view
RefusesBy search view OutOfMemory = ⊥

-- the same by the RSDP, the XSDT and the FADT of ACPI 6.5, and by the 64-bit entry point
abbrev pub Refuses : View → ScanFault → Type 0
Refuses view fault = RefusesBy (search_of false false) view fault

-- what a memory below a top is read as, by a search
abbrev pub ScannedAs : Search → ℕ → View → Result Inventory ScanFault → Type 0
ScannedAs search top view (Ok inventory) = ShowsBy search top view inventory
ScannedAs search top view (Err fault) = RefusesBy search view fault

-- a result is what was meant, unless memory ran out
abbrev pub OrOutOfMemory : Result Inventory ScanFault → Result Inventory ScanFault → Type 0
OrOutOfMemory result meant = (result ≡ meant) ⊎ (result ≡ Err OutOfMemory)
