use Rattle.std.proofs.Common.{◌∙◌, sym, arith, ap}
use Rattle.word_schema.specs.Numbers.{is_decimal}
use Rattle.word_schema.proofs.Decimals.{number_within-unread}
use Rattle.word_schema.proofs.numbers.number_within.Goals as goal

pub returns-in_err-number-clause-number : goal.returns-in_err-number-clause-number
returns-in_err-number-clause-number c =
    c.from_residual.ensures
    ∙ sym (number_within-unread c.args.least c.args.most c.args.digits.now c.parse.result (omega arith) c.parse.ensures.value.0
    (sym (ap is_decimal c.as_bytes.ensures.value) ∙ (sym c.is_decimal.ensures ∙ c.if-not-is_decimal.false))
    (sym c.ok.ensures.value ∙ c.in_err-number.was))
