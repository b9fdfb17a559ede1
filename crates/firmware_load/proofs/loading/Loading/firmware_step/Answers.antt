use Rattle.std.proofs.Common.{arith}
use Rattle.firmware_load.proofs.AtStages.{write_small}
use Rattle.firmware_load.proofs.loading.Loading.firmware_step.Goals as goal

pub overflow_add-index : goal.overflow_add-index
overflow_add-index g c = omega (arith, write_small c.requires.inside.1.kept c.in-AwaitsWrite.is)
