use Rattle.std.proofs.Common.{sym}
use Rattle.memory_dump.proofs.Said.{read-bad, read-cut}
use Rattle.memory_dump.proofs.reading.read_header.Goals as goal

pub returns-in-Some-clause-header : goal.returns-in-Some-clause-header
returns-in-Some-clause-header c = sym c.in-Some.ensures

pub returns-then-has_whole_line-clause-err : goal.returns-then-has_whole_line-clause-err
returns-then-has_whole_line-clause-err c = read-bad c.args.bytes.now (sym c.in-None.ensures) (c.has_whole_line.ensures.some c.if-has_whole_line.true)

pub returns-else-has_whole_line-clause-err : goal.returns-else-has_whole_line-clause-err
returns-else-has_whole_line-clause-err c = read-cut c.args.bytes.now (c.has_whole_line.ensures.none c.if-has_whole_line.false)
