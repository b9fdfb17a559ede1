use Rattle.std.proofs.lemmas.Result.{on_ok_weaker, on_err_weaker}
use Rattle.vt_outside.proofs.Taken.{took_then, front_then, front_more}
use Rattle.vt_outside.proofs.Results.{on_err}
use Rattle.scan_text.specs.List.{list_of, acpi_lines}
use Rattle.scan_text.proofs.listing.list_to.Goals as goal

pub returns-in_err-write_smbios-clause-front : goal.returns-in_err-write_smbios-clause-front
unfolding list_of
returns-in_err-write_smbios-clause-front g c =
    on_err c.from_residual.result _ (front_more _ _ _ (acpi_lines c.args.inventory.now.acpi) c.in_err-write_smbios.ensures.front)

pub returns-clause-ok : goal.returns-clause-ok
unfolding list_of
returns-clause-ok g c = on_ok_weaker c.write_acpi.result (took_then _ _ _ _ _ c.in_ok-write_smbios.ensures.ok) c.write_acpi.ensures.ok

pub returns-clause-front : goal.returns-clause-front
unfolding list_of
returns-clause-front g c =
    on_err_weaker c.write_acpi.result (front_then _ _ _ _ _ c.in_ok-write_smbios.ensures.ok) c.write_acpi.ensures.front
