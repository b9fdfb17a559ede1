use Rattle.std.proofs.Common.{rules}
use Rattle.aml_decode.proofs.Announced.{front_fits}
use Rattle.aml_decode.proofs.numbers.read_number.Goals as goal

pub returns-clause-fits : goal.returns-clause-fits
returns-clause-fits c = front_fits c.get_le.result c.args.width c.args.text.now (λ i. search rules) c.get_le.ensures
