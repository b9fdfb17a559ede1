use Rattle.acpi_decode.proofs.Meanings.{shown_or_refused, one_meaning}
use Rattle.acpi_decode.proofs.laws.memory_is_read_in_one_way.Goals as goal

pub returns-clause-either : goal.returns-clause-either
returns-clause-either c = shown_or_refused

pub returns-clause-one : goal.returns-clause-one
returns-clause-one c = one_meaning
