use Rattle.std.proofs.Common.{map, string_bytes, sym, subst, ◌∷◌, Option, IfSome}
use Rattle.vt_words.specs.declared.command.Command.{Command}
use Rattle.vt_words.specs.Command.{IsLawful}
use Rattle.vt_words.proofs.Lawful.{lawful}
use Rattle.vt_words.proofs.command.read_words.Goals as goal

pub returns-clause-lawful : goal.returns-clause-lawful
returns-clause-lawful c =
    subst (λ (found : Option Command). IfSome found IsLawful) (sym c.command_with.ensures)
    (lawful (c.as_str.result.now ∷ map string_bytes c.in_ok-name.words.now))
