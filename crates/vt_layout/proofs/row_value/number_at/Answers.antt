use Rattle.std.proofs.Common.{◌<◌, ◌^◌, length, rules, ap, sym, subst, ◌∙◌}
use Rattle.std.proofs.Math.Seq.{take-length}
use Rattle.vt_bytes.specs.Numbers.{le, be}
use Rattle.vt_layout.specs.declared.row.Row.TheVariants.{BigEndian}
use Rattle.vt_layout.proofs.InBytes.{value-below, low_first}
use Rattle.vt_layout.proofs.row_value.number_at.Goals as goal

pub returns-in-BigEndian-clause-fits : goal.returns-in-BigEndian-clause-fits
returns-in-BigEndian-clause-fits c =
    let bytes = c.args.bytes.now in
    subst (λ n. n < 256 ^ length bytes) (sym (c.get_be.ensures ∙ ap be (take-length bytes)))
    (value-below (BigEndian c.in-BigEndian.field-0 c.in-BigEndian.field-1) bytes (λ i. search rules))

pub returns-in_default : goal.returns-in_default
returns-in_default c =
    let bytes = c.args.bytes.now in
    let number = c.get_le.ensures ∙ ap le (take-length bytes) ∙ sym (low_first c.args.row.now bytes c.in_default.not-BigEndian) in
    record { number = number; fits = subst (λ n. n < 256 ^ length bytes) (sym number) (value-below c.args.row.now bytes (λ i. search rules)) }
