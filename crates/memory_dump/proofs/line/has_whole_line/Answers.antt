use Rattle.std.proofs.Common.{sym, ◌∙◌}
use Rattle.memory_dump.proofs.Feeds.{no_whole_line, whole_line}
use Rattle.memory_dump.proofs.line.has_whole_line.Goals as goal

pub returns-clause-some : goal.returns-clause-some
returns-clause-some c = λ some. whole_line c.args.bytes.now (sym c.contains.ensures.value ∙ some)

pub returns-clause-none : goal.returns-clause-none
returns-clause-none c = λ none. no_whole_line c.args.bytes.now (sym c.contains.ensures.value ∙ none)
