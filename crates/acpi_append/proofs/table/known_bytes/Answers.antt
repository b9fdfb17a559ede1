use Rattle.std.proofs.Common.{subst}
use Rattle.acpi_model.specs.Acpi.{IsWritable}
use Rattle.acpi_model.proofs.Madts.{madt_kept}
use Rattle.acpi_model.proofs.Srats.{srat_kept}
use Rattle.acpi_append.proofs.table.known_bytes.Goals as goal

pub madt_bytes-requires : goal.madt_bytes-requires
madt_bytes-requires c = madt_kept c.in-Madt.table (subst IsWritable c.in-Madt.is c.requires)

pub srat_bytes-requires : goal.srat_bytes-requires
srat_bytes-requires c = srat_kept c.in-Srat.table (subst IsWritable c.in-Srat.is c.requires)
