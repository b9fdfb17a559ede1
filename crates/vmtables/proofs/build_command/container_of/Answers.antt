use Rattle.std.proofs.lemmas.Result.{IfOk-weaker, IfErr-weaker}
use Rattle.desc_toml.proofs.OneMachine.{read_accepted}
use Rattle.vmtables.proofs.Refused.{undescribed_container}
use Rattle.vmtables.proofs.build_command.container_of.Goals as goal

pub image_container-container-requires : goal.image_container-container-requires
image_container-container-requires c = read_accepted c.args.description.now c.in_ok-machine.machine c.in_ok-machine.ensures.ok

pub returns-in_err-machine-clause-err : goal.returns-in_err-machine-clause-err
returns-in_err-machine-clause-err c =
    undescribed_container c.args.description.now c.in_err-machine.field-0.0 c.from_residual.result c.in_err-machine.ensures.err c.from_residual.ensures.1

pub returns-clause-ok : goal.returns-clause-ok
returns-clause-ok c =
    IfOk-weaker c.image_container-container.result _ _ (λ text is. is c.args.description.now c.in_ok-machine.ensures.ok) c.image_container-container.ensures.ok

pub returns-clause-err : goal.returns-clause-err
returns-clause-err c =
    IfErr-weaker c.image_container-container.result _ _ (λ fault failed. failed c.args.description.now c.in_ok-machine.ensures.ok)
    c.image_container-container.ensures.err
