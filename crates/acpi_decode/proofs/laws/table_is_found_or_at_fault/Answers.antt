use Rattle.acpi_decode.proofs.TableFaults.{found_or_at_fault, never_found_at_fault, one_fault}
use Rattle.acpi_decode.proofs.laws.table_is_found_or_at_fault.Goals as goal

pub returns-clause-either : goal.returns-clause-either
returns-clause-either c = found_or_at_fault

pub returns-clause-not_both : goal.returns-clause-not_both
returns-clause-not_both c = never_found_at_fault

pub returns-clause-one : goal.returns-clause-one
returns-clause-one c = one_fault
