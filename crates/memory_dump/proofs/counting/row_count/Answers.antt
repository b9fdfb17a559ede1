use Rattle.std.proofs.Common.{arith}
use Rattle.memory_dump.proofs.FeedsOfDump.{CountsRows, counts_rows}
use Rattle.memory_dump.proofs.counting.row_count.Goals as goal

rows : (c : goal.After-line_feeds) → CountsRows c.args.memory.now.memory c.line_feeds.result
rows c =
    counts_rows c.args.memory.now.memory c.dump_to.result c.unwrap.result c.new-lines.result c.dump_to.new.out c.line_feeds.result c.dump_to.ensures.lawful
    c.dump_to.ensures.holds c.unwrap.ensures c.dump_to.ensures.ok c.new-lines.ensures c.line_feeds.ensures

pub overflow_sub-result : goal.overflow_sub-result
overflow_sub-result c = omega (arith, (rows c).count)

pub overflow_cast-result : goal.overflow_cast-result
overflow_cast-result c = omega (arith, (rows c).count, (rows c).few)

pub returns : goal.returns
returns c = omega (arith, (rows c).count)
