use Rattle.generated_machine.proofs.Accepted.{accepted}
use Rattle.generated_machine.proofs.laws.generated_machines_are_accepted.Goals as goal

pub returns : goal.returns
returns c = accepted
