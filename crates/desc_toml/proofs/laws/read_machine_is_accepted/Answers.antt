use Rattle.desc_toml.proofs.OneMachine.{read_accepted}
use Rattle.desc_toml.proofs.laws.read_machine_is_accepted.Goals as goal

pub returns : goal.returns
returns c = read_accepted
