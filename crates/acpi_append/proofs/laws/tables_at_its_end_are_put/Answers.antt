use Rattle.acpi_append.proofs.FileTables.{table_appended, xsdt_appended, rsdp_appended, facs_appended, dsdt_appended}
use Rattle.acpi_append.proofs.laws.tables_at_its_end_are_put.Goals as goal

pub returns : goal.returns
returns c = record { table = table_appended; xsdt = xsdt_appended; rsdp = rsdp_appended; facs = facs_appended; dsdt = dsdt_appended }
