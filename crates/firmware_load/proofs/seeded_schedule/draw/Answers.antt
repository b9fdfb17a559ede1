use Rattle.std.proofs.Common.{arith}
use Rattle.firmware_load.proofs.Drawn.{drawn_step, behind_step, drawn_piece, behind_piece, drawn_write, behind_write}
use Rattle.firmware_load.proofs.seeded_schedule.draw.Goals as goal

pub returns-in-0-clause-event : goal.returns-in-0-clause-event
returns-in-0-clause-event c = drawn_step c.args.words.now c.next_word-word.new.self c.next_word-word.result c.next_word-word.ensures c.in-0.is

pub returns-in-0-clause-words : goal.returns-in-0-clause-words
returns-in-0-clause-words c = behind_step c.args.words.now c.next_word-word.new.self c.next_word-word.result c.next_word-word.ensures c.in-0.is

pub returns-in-1-clause-event : goal.returns-in-1-clause-event
returns-in-1-clause-event c =
    drawn_piece c.args.words.now c.next_word-word.new.self c.next_word-word.result c.next_word-word.ensures (search arith) (search arith)

pub returns-in-1-clause-words : goal.returns-in-1-clause-words
returns-in-1-clause-words c = behind_piece c.args.words.now c.next_word-word.new.self c.next_word-word.result c.next_word-word.ensures (search arith)
    (search arith)

pub returns-in_default-clause-event : goal.returns-in_default-clause-event
returns-in_default-clause-event c =
    drawn_write c.args.words.now c.next_word-word.new.self c.next_word-word.result c.draw_write.result c.next_word-word.ensures (search arith)
    c.draw_write.ensures.event

pub returns-in_default-clause-words : goal.returns-in_default-clause-words
returns-in_default-clause-words c =
    behind_write c.args.words.now c.next_word-word.new.self c.draw_write.new.words c.next_word-word.result c.next_word-word.ensures (search arith)
    c.draw_write.ensures.words
