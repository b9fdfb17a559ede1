use Rattle.std.proofs.Common.{arith}
use Rattle.acpi_decode.proofs.FieldNumbers.{part_fits}
use Rattle.anchor_scan.proofs.smbios2.word_at.Goals as goal

pub overflow_cast-result : goal.overflow_cast-result
overflow_cast-result c = omega (arith, part_fits c.args.bytes.now c.args.at 2 (λ i. omega (arith, c.type_inv.bytes i)), c.get_le.ensures)
