use Rattle.machine_desc.specs.Rules.{breaches}
use Rattle.machine_desc.proofs.Kept.{each_is_kept}
use Rattle.machine_desc.proofs.laws.accepted_machine_keeps_each_rule.Goals as goal

pub returns : goal.returns
returns c = λ machine number accepted. each_is_kept number (breaches machine) accepted
