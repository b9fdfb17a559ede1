use Rattle.memory_dump.proofs.Said.{said-end, said-behind, said-bad, said-cut, begins_last, no_last}
use Rattle.memory_dump.proofs.reading.end.Goals as goal

pub returns-then-text-eq-LAST-clause-ok : goal.returns-then-text-eq-LAST-clause-ok
returns-then-text-eq-LAST-clause-ok c = λ m from.
    said-end m _ from c.args.text.now _ (begins_last c.args.text.now _ c.starts_with.ensures.value c.if-starts_with.true) c.if-text-eq-LAST.true

pub returns-else-text-eq-LAST-clause-err : goal.returns-else-text-eq-LAST-clause-err
returns-else-text-eq-LAST-clause-err c = λ m from.
    said-behind m _ from c.args.text.now _ (begins_last c.args.text.now _ c.starts_with.ensures.value c.if-starts_with.true) c.if-text-eq-LAST.false

pub returns-then-has_whole_line-clause-err : goal.returns-then-has_whole_line-clause-err
returns-then-has_whole_line-clause-err c = λ m from.
    said-bad m _ from c.args.text.now c.requires.none (c.has_whole_line.ensures.some c.if-has_whole_line.true)
    (no_last c.args.text.now _ c.starts_with.ensures.value c.if-starts_with.false)

pub returns-else-has_whole_line-clause-err : goal.returns-else-has_whole_line-clause-err
returns-else-has_whole_line-clause-err c = λ m from. said-cut m _ from c.args.text.now (c.has_whole_line.ensures.none c.if-has_whole_line.false)
