use Rattle.std.proofs.Common.{arith}
use Rattle.acpi_decode.proofs.FieldNumbers.{part_fits}
use Rattle.acpi_decode.proofs.number.get_u32.Goals as goal

pub overflow_cast-result : goal.overflow_cast-result
overflow_cast-result c = omega (arith, part_fits c.args.bytes.now c.args.at 4 (λ i. omega (arith, c.type_inv.bytes i)), c.get_le.ensures)
