use Rattle.memory_dump.proofs.FeedsOfDump.{feeds_of_dump}
use Rattle.memory_dump.proofs.laws.a_dump_has_a_line_for_each_row.Goals as goal

pub returns : goal.returns
returns c = feeds_of_dump
