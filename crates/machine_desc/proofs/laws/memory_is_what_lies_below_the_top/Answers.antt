use Rattle.machine_desc.proofs.Addresses.{memory_below, below_memory}
use Rattle.machine_desc.proofs.laws.memory_is_what_lies_below_the_top.Goals as goal

pub returns : goal.returns
returns c = λ top ranges ordered. (memory_below top ranges, below_memory top ranges ordered)
