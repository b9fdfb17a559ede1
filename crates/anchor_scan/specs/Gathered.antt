-- The inventory of what was read from both anchors.
use Rattle.std.specs.Prelude.{ℕ, Option, MatchOption, option_map, option_and_then}
use Rattle.vt_bytes.specs.View.{View}
use Rattle.acpi_decode.specs.declared.walked.Walked.{Walked}
use Rattle.smbios_model.specs.declared.smbios.SmbiosTable.{SmbiosTable}
use Rattle.table_model.specs.declared.inventory.Inventory.{Inventory}
use Rattle.table_model.specs.declared.search.RootSearch.{RootSearch}
use Rattle.table_model.specs.Search.{HasNoRoot}
use Rattle.table_model.specs.Inventory.{ShowsTablesOf}

-- what was read from the first RSDP that is looked for is shown, or nothing was where no valid one stands
abbrev pub IsShown : RootSearch → View → Option Walked → Type 0
IsShown search view walked = MatchOption walked (HasNoRoot search view) (λ (w : Walked). ShowsTablesOf search view w.tables w.generation)

abbrev pub inventory_of : ℕ → Option Walked → Option SmbiosTable → Inventory
inventory_of top walked smbios = record {
  top = top;
  smbios = smbios;
  acpi = option_map (λ (w : Walked). w.tables) walked;
  generation = option_and_then (λ (w : Walked). w.generation) walked;
}
