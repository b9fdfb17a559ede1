use Rattle.std.proofs.Common.{arith}
use Rattle.smbios_model.proofs.memory_array.total_mib.Goals as goal

pub overflow_add-total : goal.overflow_add-total
overflow_add-total c = omega arith
