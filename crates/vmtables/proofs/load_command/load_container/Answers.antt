use Rattle.std.proofs.lemmas.Result.{IfErr-weaker}
use Rattle.vmtables.specs.Load.{not_loaded}
use Rattle.vmtables.proofs.Refused.{unread_when}
use Rattle.vmtables.proofs.load_command.load_container.Goals as goal

pub returns-in_err-items-clause-err : goal.returns-in_err-items-clause-err
returns-in_err-items-clause-err g c =
    unread_when _ _ _ _ c.in_err-items.field-0.0 c.from_residual.result c.in_err-items.ensures.err c.from_residual.ensures.1

pub returns-clause-err : goal.returns-clause-err
returns-clause-err g c =
    IfErr-weaker c.load_items.result _ _ (λ fault failed bytes is. not_loaded c.in_ok-items.items (c.in_ok-items.ensures.ok bytes is) failed)
    c.load_items.ensures.err
