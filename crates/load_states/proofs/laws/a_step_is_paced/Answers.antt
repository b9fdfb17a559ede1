use Rattle.load_states.proofs.StepsPaced.{step_paced}
use Rattle.load_states.proofs.laws.a_step_is_paced.Goals as goal

pub returns : goal.returns
returns g c = step_paced g.A.Answering.may
