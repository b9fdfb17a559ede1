use Rattle.std.proofs.Common.{inl, inr, Some, None, sym, ◌∙◌}
use Rattle.smbios_install.proofs.Refusals.{length_refused, script_placing}
use Rattle.smbios_install.proofs.checking.check_script.Goals as goal

pub returns-then-script-ne0-clause-err : goal.returns-then-script-ne0-clause-err
returns-then-script-ne0-clause-err c =
    length_refused c.args.items.now c.script_bytes-script.result.now c.script_bytes-script.ensures
    (elim c.then-script-ne0.either [ inl rest ↦ inl rest | inr long ↦ inr long.1 ])

pub returns-in-Some-clause-err : goal.returns-in-Some-clause-err
returns-in-Some-clause-err c =
    script_placing c.args.items.now c.script_bytes-script.result.now (Some c.in-Some.command) c.script_bytes-script.ensures c.if-script-ne0.false
    c.if-script-gt-LONGEST_SCRIPT.false (sym c.in-Some.is ∙ c.placing.ensures)

pub returns-in-None-clause-ok : goal.returns-in-None-clause-ok
returns-in-None-clause-ok c =
    script_placing c.args.items.now c.script_bytes-script.result.now None c.script_bytes-script.ensures c.if-script-ne0.false
    c.if-script-gt-LONGEST_SCRIPT.false (sym c.in-None.is ∙ c.placing.ensures)
