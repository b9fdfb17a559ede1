use Rattle.memory_dump.proofs.Spelled.{row_told, row_untold, row_short}
use Rattle.memory_dump.proofs.row.row_in_front.Goals as goal

pub returns-then-text-lt-LINE : goal.returns-then-text-lt-LINE
returns-then-text-lt-LINE c = row_short c.args.text.now c.if-text-lt-LINE.true

pub returns-then-is_line_of : goal.returns-then-is_line_of
returns-then-is_line_of c = row_told _ _ _ c.read-row.ensures c.is_line_of.ensures c.if-is_line_of.true

pub returns-else-is_line_of : goal.returns-else-is_line_of
returns-else-is_line_of c = row_untold _ _ _ c.read-row.ensures c.is_line_of.ensures c.if-is_line_of.false
