use Rattle.load_states.proofs.PiecesParted.{run_since}
use Rattle.load_states.proofs.laws.what_came_before_a_reset_is_forgotten.Goals as goal

pub returns : goal.returns
returns g c = run_since g.A.Answering.may
