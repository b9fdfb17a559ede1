use Rattle.std.proofs.Common.{arith}
use Rattle.aml_decode.proofs.Announced.{three_bytes}
use Rattle.aml_decode.proofs.numbers.total_behind.Goals as goal

pub overflow_mul-result : goal.overflow_mul-result
overflow_mul-result c = omega (arith, three_bytes c.in_ok-more.more c.from-size.result (omega arith) c.in_ok-more.ensures.fits)

pub overflow_add-result : goal.overflow_add-result
overflow_add-result c = omega (arith, three_bytes c.in_ok-more.more c.from-size.result (omega arith) c.in_ok-more.ensures.fits)
