use Rattle.memory_dump.proofs.Frames.{frame_untouched}
use Rattle.memory_dump.proofs.writing.may_have_lines.Goals as goal

pub returns : goal.returns
returns c = λ untouched.
    frame_untouched c.args.memory.now.memory _ c.args.address _ c.top.ensures.value c.frame_at.ensures.place c.requires.ram (c.touched.ensures.blank untouched)
