-- What a view of memory shows by its legacy ACPI tables (ACPI 6.5, 5.2.5.3 and 5.2.7).
use Rattle.std.specs.Prelude.{ℕ, true, false, List}
use Rattle.vt_bytes.specs.View.{View}
use Rattle.acpi_records.specs.declared.header.Head.{Head}
use Rattle.acpi_model.specs.Form.{legacy_form}
use Rattle.acpi_model.specs.Rsdp.{IsRsdpBy, HasRsdpBy}
use Rattle.acpi_model.specs.Xsdt.{IsRoot}
use Rattle.table_model.specs.declared.inventory.Inventory.{Inventory}
use Rattle.table_model.specs.Search.{search_of}
use Rattle.table_model.specs.Inventory.{ShowsBy}
use Rattle.anchor_scan.specs.declared.fault.ScanFault.{ScanFault}
use Rattle.anchor_scan.specs.Scan.{RefusesBy}
use Rattle.anchor_scan.specs.Shown.{HasNoRsdpBy}

-- A valid RSDP of revision 0 or 1, with this maker's id and this address of the RSDT, stands at the address: on a multiple of 16 from
-- 0xE0000, with 20 bytes, the last below 0x100000, which sum to zero.
abbrev pub IsLegacyRsdp : View → ℕ → List ℕ → ℕ → Type 0
IsLegacyRsdp view address oem_id rsdt = IsRsdpBy legacy_form view address oem_id rsdt

-- some stands there, or none anywhere
abbrev pub HasLegacyRsdp : View → ℕ → Type 0
HasLegacyRsdp view address = HasRsdpBy legacy_form view address

abbrev pub HasNoLegacyRsdp : View → Type 0
HasNoLegacyRsdp view = HasNoRsdpBy legacy_form view

-- An RSDT of at most 256 entries of 4 bytes stands at the address, and these are its entries that aren't zero, in order.
abbrev pub IsRsdt : View → ℕ → Head → List ℕ → Type 0
IsRsdt view address h tables = IsRoot legacy_form view address h tables

-- a memory below a top shows the inventory, whose ACPI tables are the legacy ones
abbrev pub ShowsLegacy : ℕ → View → Inventory → Type 0
ShowsLegacy top view inventory = ShowsBy (search_of true false) top view inventory

-- the first fault of the tables of such a memory
abbrev pub RefusesLegacy : View → ScanFault → Type 0
RefusesLegacy view fault = RefusesBy (search_of true false) view fault
