use Rattle.acpi_model.proofs.FoundInTurn.{fadt_apart, madt_apart, srat_apart, slit_apart, mcfg_apart, hpet_apart}
use Rattle.acpi_model.proofs.laws.known_table_is_told_apart.Goals as goal

pub returns : goal.returns
returns c = record { fadt = fadt_apart; madt = madt_apart; srat = srat_apart; slit = slit_apart; mcfg = mcfg_apart; hpet = hpet_apart }
