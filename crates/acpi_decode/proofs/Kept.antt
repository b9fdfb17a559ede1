-- What the RSDP and the root alone tell stays as tables are added.
use Rattle.std.proofs.Common.{◌≡◌, refl}
use Rattle.acpi_model.specs.declared.acpi.AcpiTables.{AcpiTables}
use Rattle.acpi_model.specs.declared.acpi.FadtTargets.{FadtTargets}
use Rattle.acpi_model.specs.declared.acpi.Table.{Table}
use Rattle.acpi_model.specs.declared.acpi.Table.TheVariants.{Fadt, Madt, Srat, Slit, Mcfg, Hpet}
use Rattle.acpi_model.specs.Acpi.{with_table}

pub record IsKept (before after : AcpiTables) : Type 0 where
  pub oem_id : after.oem_id ≡ before.oem_id
  pub xsdt : after.xsdt ≡ before.xsdt

pub kept_with : (t : Table) (targets : FadtTargets) (all : AcpiTables) → IsKept all (with_table t targets all)
kept_with (Fadt t links) targets all = record { oem_id = refl; xsdt = refl }
kept_with (Madt t) targets all = record { oem_id = refl; xsdt = refl }
kept_with (Srat t) targets all = record { oem_id = refl; xsdt = refl }
kept_with (Slit t) targets all = record { oem_id = refl; xsdt = refl }
kept_with (Mcfg t) targets all = record { oem_id = refl; xsdt = refl }
kept_with (Hpet t) targets all = record { oem_id = refl; xsdt = refl }
