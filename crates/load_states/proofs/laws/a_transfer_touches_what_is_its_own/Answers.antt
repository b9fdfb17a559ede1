use Rattle.load_states.proofs.Touching.{transfer_own}
use Rattle.load_states.proofs.laws.a_transfer_touches_what_is_its_own.Goals as goal

pub returns : goal.returns
returns g c = transfer_own g.A.Answering.may
