use Rattle.std.proofs.lemmas.Result.{err_from_is_err_and}
use Rattle.smbios_install.proofs.Refusals.{memory_not_told}
use Rattle.smbios_install.proofs.installing.with_install.Goals as goal

pub returns-in_err-form-clause-no_memory : goal.returns-in_err-form-clause-no_memory
returns-in_err-form-clause-no_memory c =
    let p = err_from_is_err_and c.from_residual.result c.from_residual.ensures.1 in
    memory_not_told c.args.items.now c.from_residual.result p.0 c.in_err-form.field-0.0 p.1 p.2 c.in_err-form.ensures.err
