use Rattle.std.proofs.lemmas.Result.{err_from_is_err_and}
use Rattle.std.proofs.Common.{◌∙◌}
use Rattle.smbios_install.proofs.Refusals.{refused_by_files, refused_by_script, refused_by_limits}
use Rattle.smbios_install.proofs.checking.form_to_install.Goals as goal

pub returns-in_err-form-clause-err : goal.returns-in_err-form-clause-err
returns-in_err-form-clause-err c =
    let p = err_from_is_err_and c.from_residual.result c.from_residual.ensures.1 in
    rw (p.1, p.2) (refused_by_files c.args.items.now c.in_err-form.field-0.0 c.in_err-form.ensures.err)

pub returns-in_err-check_script-clause-err : goal.returns-in_err-check_script-clause-err
returns-in_err-check_script-clause-err c =
    let p = err_from_is_err_and c.from_residual-in_err-check_script.result c.from_residual-in_err-check_script.ensures.1 in
    rw (p.1, p.2) (refused_by_script c.args.items.now c.in_err-check_script.field-0.0 c.in_ok-form.ensures.ok.0 c.in_err-check_script.ensures.err)

pub returns-in_err-check_limits-clause-err : goal.returns-in_err-check_limits-clause-err
returns-in_err-check_limits-clause-err c =
    let p = err_from_is_err_and c.from_residual-in_err-check_limits.result c.from_residual-in_err-check_limits.ensures.1 in
    rw (p.1, p.2) (refused_by_limits c.args.items.now c.in_ok-form.ensures.ok.0 c.in_ok-check_script.ensures.ok ∙ c.in_err-check_limits.ensures.err)

pub returns-clause-ok : goal.returns-clause-ok
returns-clause-ok c = (
  refused_by_limits c.args.items.now c.in_ok-form.ensures.ok.0 c.in_ok-check_script.ensures.ok ∙ c.in_ok-check_limits.ensures.ok,
  c.in_ok-form.ensures.ok.1,
)
