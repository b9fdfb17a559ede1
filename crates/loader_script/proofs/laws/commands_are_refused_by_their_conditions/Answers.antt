use Rattle.loader_script.proofs.Conditions.{conditions_from, conditions_suffice}
use Rattle.loader_script.proofs.laws.commands_are_refused_by_their_conditions.Goals as goal

pub returns : goal.returns
returns c = λ entry p. (conditions_from entry p, conditions_suffice entry p)
