use Rattle.acpi_append.proofs.Leading.{table_leads, xsdt_leads, rsdp_leads}
use Rattle.acpi_append.proofs.laws.tables_lead_to_their_file.Goals as goal

pub returns : goal.returns
returns c = record { table = table_leads; xsdt = xsdt_leads; rsdp = rsdp_leads }
