use Rattle.std.proofs.Common.{◌≡◌, length, arith, ap, subst, ◌∙◌}
use Rattle.vt_bytes.specs.Memory.{ram_ranges}
use Rattle.memory_dump.specs.Dump.{ranges_text}
use Rattle.vt_outside.specs.Stream.{Took, TookFront}
use Rattle.vt_outside.proofs.Results.{on_err}
use Rattle.memory_dump.proofs.Parts.{ranges_none, ranges_more, ranges_failed}
use Rattle.memory_dump.proofs.Frames.{range_text-frames}
use Rattle.memory_dump.proofs.writing.dump_ranges.Goals as goal

pub loop-range-init : goal.loop-range-init
loop-range-init g c = ranges_none _ _

pub returns-in_err-dump_frames-clause-front : goal.returns-in_err-dump_frames-clause-front
returns-in_err-dump_frames-clause-front g c =
    let map : c.ram_ranges-range-items.result ≡ ram_ranges c.args.memory.now.memory.top =
    c.ram_ranges-range-items.ensures ∙ ap ram_ranges c.top.ensures.value in
    let size : length c.ram_ranges-range-items.result ≡ 3 = ap length map in
    let lines = range_text-frames c.args.memory.now.memory c.ram_ranges-range-items.result c.loop-range.range-index _ c.top.ensures.lawful.top map
    (omega arith) in
    let failed = ranges_failed _ _ _ c.args.memory.now.memory c.ram_ranges-range-items.result c.loop-range.range-index _ (omega arith)
    c.loop-range.invariant
    (subst (λ text. TookFront text (g.K.Sink.seen c.loop-range.out) (g.K.Sink.seen c.dump_frames.new.out)) lines c.in_err-dump_frames.ensures.front) in
    on_err c.from_residual.result _
    (subst (λ ranges. TookFront (ranges_text c.args.memory.now.memory ranges) (g.K.Sink.seen c.args.out.now) (g.K.Sink.seen c.dump_frames.new.out)) map failed)

pub loop-range-preserved : goal.loop-range-preserved
loop-range-preserved g c =
    let map : c.ram_ranges-range-items.result ≡ ram_ranges c.args.memory.now.memory.top =
    c.ram_ranges-range-items.ensures ∙ ap ram_ranges c.top.ensures.value in
    let size : length c.ram_ranges-range-items.result ≡ 3 = ap length map in
    let lines = range_text-frames c.args.memory.now.memory c.ram_ranges-range-items.result c.loop-range.range-index _ c.top.ensures.lawful.top map
    (omega arith) in
    ranges_more _ _ _ c.args.memory.now.memory c.ram_ranges-range-items.result c.loop-range.range-index _ (omega arith) c.loop-range.invariant
    (subst (λ text. Took text (g.K.Sink.seen c.loop-range.out) (g.K.Sink.seen c.dump_frames.new.out)) lines c.in_ok-dump_frames.ensures.ok)
