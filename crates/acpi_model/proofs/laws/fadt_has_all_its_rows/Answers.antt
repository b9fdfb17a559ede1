use Rattle.acpi_model.proofs.Fadts.{whole_fadt, no_short_fadt}
use Rattle.acpi_model.proofs.laws.fadt_has_all_its_rows.Goals as goal

pub returns : goal.returns
returns c = record { whole = whole_fadt; short = no_short_fadt }
