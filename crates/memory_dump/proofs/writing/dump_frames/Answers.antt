use Rattle.std.proofs.Common.{ap, ◌∙◌}
use Rattle.vt_outside.proofs.Results.{on_err}
use Rattle.memory_dump.proofs.Rows.{rows_none}
use Rattle.memory_dump.proofs.Frames.{frame_ram, frame_took, frame_passed, frame_failed}
use Rattle.memory_dump.proofs.writing.dump_frames.Goals as goal
use Rattle.memory_dump.proofs.writing.dump_frames.Goals.{then-may_have_lines+in_ok-dump_frame, else-may_have_lines}

pub loop-k-init : goal.loop-k-init
loop-k-init g c = rows_none _ _ _

pub may_have_lines-requires-clause-ram : goal.may_have_lines-requires-clause-ram
may_have_lines-requires-clause-ram g c = frame_ram _ _ c.args.count _ c.requires.ram c.loop-k-test.true

pub dump_frame-requires-clause-ram : goal.dump_frame-requires-clause-ram
dump_frame-requires-clause-ram g c = frame_ram _ _ c.args.count _ c.requires.ram c.loop-k-test.true

pub returns-in_err-dump_frame-clause-front : goal.returns-in_err-dump_frame-clause-front
returns-in_err-dump_frame-clause-front g c =
    on_err c.from_residual.result _
    (frame_failed _ _ _ c.args.memory.now.memory c.args.start _ c.args.count c.loop-k-test.true c.loop-k.invariant c.in_err-dump_frame.ensures.front)

pub loop-k-preserved : goal.loop-k-preserved
loop-k-preserved g c =
    elim c.if-may_have_lines.branch [
      | then-may_have_lines+in_ok-dump_frame w ↦ ap g.K.Sink.seen w.out-is
          ∙ frame_took _ _ _ c.args.memory.now.memory c.args.start _ c.loop-k.invariant w.in_ok-dump_frame.ensures.ok
      | else-may_have_lines w ↦ ap g.K.Sink.seen w.out-is
          ∙ frame_passed _ _ c.args.memory.now.memory c.args.start _ c.loop-k.invariant (c.may_have_lines.ensures w.if-may_have_lines.false)
    ]
