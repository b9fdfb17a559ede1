use Rattle.std.proofs.Common.{◌∙◌, ◌≤◌, sym, subst}
use Rattle.acpi_decode.proofs.ShortFadts.{fadt_ends, front_short}
use Rattle.acpi_decode.proofs.fadt.whole_size.Goals as goal

pub returns-clause-front : goal.returns-clause-front
returns-clause-front c = c.front_end.ensures ∙ fadt_ends c.args.length

pub returns-clause-within : goal.returns-clause-within
returns-clause-within c =
    subst (λ n. n ≤ c.args.length) (sym (c.front_end.ensures ∙ fadt_ends c.args.length)) (front_short c.args.length c.requires.long).0

pub returns-clause-few : goal.returns-clause-few
returns-clause-few c = subst (λ n. n ≤ 276) (sym (c.front_end.ensures ∙ fadt_ends c.args.length)) (front_short c.args.length c.requires.long).1
