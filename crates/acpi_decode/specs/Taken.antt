-- A table that is read is added to what was told of those at the addresses before it, or it is at fault behind them.
use Rattle.std.specs.Prelude.{◌≡◌, ℕ, Bool, is_some, List, [], ◌∷◌, ◌++◌}
use Rattle.vt_bytes.specs.View.{View}
use Rattle.acpi_model.specs.declared.form.Form.{Form}
use Rattle.acpi_model.specs.declared.acpi.AcpiTables.{AcpiTables}
use Rattle.acpi_model.specs.declared.acpi.FadtTargets.{FadtTargets}
use Rattle.acpi_model.specs.declared.acpi.Table.{Table}
use Rattle.acpi_model.specs.Acpi.{AreToldBy, with_table, id_with}
use Rattle.acpi_decode.specs.declared.kind.KnownKind.{KnownKind}
use Rattle.acpi_decode.specs.declared.kind.KnownKind.TheVariants.{Fadt, Madt, Srat, Slit, Mcfg, Hpet}
use Rattle.acpi_decode.specs.declared.walked.Walked.{Walked}
use Rattle.acpi_decode.specs.Tests.{Faults}
use Rattle.acpi_decode.specs.Faults.{IsFault, IsTableFault}
use Rattle.acpi_decode.specs.Read.{named_at}

-- whatever the addresses before it were, what they told is now told with that of one more; what the RSDP and the root alone tell stays
pub record IsTaken (form : Form) (view : View) (address : ℕ) (before after : Walked) : Type 0 where
  pub told : (addresses : List ℕ) → AreToldBy form view addresses before.tables before.generation
      → AreToldBy form view (addresses ++ address ∷ []) after.tables after.generation
  pub oem_id : after.tables.oem_id ≡ before.tables.oem_id
  pub xsdt : after.tables.xsdt ≡ before.tables.xsdt

abbrev pub IsRefused : Form → View → ℕ → Walked → Faults
IsRefused form view address before fault =
    (addresses : List ℕ) (told : AreToldBy form view addresses before.tables before.generation) → IsFault form view address told.tables fault

-- whether a table of a kind is told
abbrev pub has_kind : KnownKind → AcpiTables → Bool
has_kind Fadt all = is_some all.fadt
has_kind Madt all = is_some all.madt
has_kind Srat all = is_some all.srat
has_kind Slit all = is_some all.slit
has_kind Mcfg all = is_some all.mcfg
has_kind Hpet all = is_some all.hpet

-- a table of a known kind, and what it leads to, added to what was found before
abbrev pub with_found : Table → FadtTargets → Walked → Walked
with_found t targets all = record { tables = with_table t targets all.tables; generation = id_with t targets all.generation }

-- All tables that the root at an address names are added to what is told of none, or one of them is the first at fault.
pub record AreTaken (form : Form) (view : View) (root : ℕ) (begun after : Walked) : Type 0 where
  pub told : AreToldBy form view [] begun.tables begun.generation → AreToldBy form view (named_at form view root) after.tables after.generation
  pub oem_id : after.tables.oem_id ≡ begun.tables.oem_id
  pub header : after.tables.xsdt ≡ begun.tables.xsdt

abbrev pub AreRefused : Form → View → ℕ → Walked → Faults
AreRefused form view root begun fault = AreToldBy form view [] begun.tables begun.generation → IsTableFault form view root fault
