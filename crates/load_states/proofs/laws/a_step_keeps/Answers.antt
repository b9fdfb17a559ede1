use Rattle.load_states.proofs.StepKeeps.{step_keeps}
use Rattle.load_states.proofs.laws.a_step_keeps.Goals as goal

pub returns : goal.returns
returns g c = step_keeps g.A.Answering.may
