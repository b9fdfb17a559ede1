use Rattle.memory_dump.proofs.Spelled.{header_told, header_untold, header_short}
use Rattle.memory_dump.proofs.header.header_in_front.Goals as goal

pub returns-then-text-lt-HEADER : goal.returns-then-text-lt-HEADER
returns-then-text-lt-HEADER c = header_short c.args.text.now c.if-text-lt-HEADER.true

pub returns-then-is_first_line_of : goal.returns-then-is_first_line_of
returns-then-is_first_line_of c = header_told _ _ _ c.read-header.ensures c.is_first_line_of.ensures c.if-is_first_line_of.true

pub returns-else-is_first_line_of : goal.returns-else-is_first_line_of
returns-else-is_first_line_of c = header_untold _ _ _ c.read-header.ensures c.is_first_line_of.ensures c.if-is_first_line_of.false
