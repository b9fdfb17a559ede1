use Rattle.load_states.proofs.OnePace.{one_pace}
use Rattle.load_states.proofs.laws.loads_go_at_one_pace.Goals as goal

pub returns : goal.returns
returns g c = one_pace g.A.Answering.may g.B.Answering.may
