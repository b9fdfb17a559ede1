use Rattle.load_states.proofs.Opening.{begun_keeps}
use Rattle.load_states.proofs.laws.a_begun_load_is_kept.Goals as goal

pub returns : goal.returns
returns g c = begun_keeps g.A.Answering.may
