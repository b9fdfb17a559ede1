use Rattle.std.proofs.Common.{refl}
use Rattle.acpi_model.proofs.laws.worked_processors_are_spelled.Goals as goal

pub returns : goal.returns
returns c = record { cpus = refl; nmis = refl }
