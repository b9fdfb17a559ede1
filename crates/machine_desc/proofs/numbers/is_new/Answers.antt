use Rattle.std.proofs.Common.{not, sym, ap, ◌∙◌}
use Rattle.std.proofs.lemmas.Bool.{le-leb}
use Rattle.machine_desc.proofs.OwnNumbers.{none_has}
use Rattle.machine_desc.proofs.numbers.is_new.Goals as goal

pub returns-then-above-number : goal.returns-then-above-number
returns-then-above-number g c =
    le-leb c.args.above c.args.number c.if-above-number.true
    ∙ sym (ap not (none_has g.E.Numbered.number c.args.above c.args.number c.args.earlier.now c.requires c.if-above-number.true))
