use Rattle.std.proofs.Common.{◌<◌, ◌≤◌, ◌-◌, ◌+◌, length, take, drop, length-drop, arith}
use Rattle.std.proofs.lemmas.Result.{err_from_is_err_and}
use Rattle.std.proofs.lemmas.List.{take_rest}
use Rattle.aml_decode.proofs.Segments.{next_segment, last_segment, bad_segment}
use Rattle.aml_decode.proofs.path.read_segments.Goals as goal

pub returns-in_err-read_segment-clause-segments : goal.returns-in_err-read_segment-clause-segments
returns-in_err-read_segment-clause-segments c =
    let p = err_from_is_err_and c.from_residual-in_err-read_segment.result c.from_residual-in_err-read_segment.ensures.1 in
    let some : 0 < c.args.count - c.loop-index._index = omega arith in
    let left = drop c.loop-index.size c.args.text.now in
    rw (p.1, p.2)
    (bad_segment c.in_err-read_segment.field-0.0 c.loop-index.segments (c.args.count - c.loop-index._index) (c.args.place + c.loop-index.size) c.loop-index.size
    left (take (length c.args.text.now - c.loop-index.size) left) _ some c.in_err-read_segment.ensures.segment
    (take_rest c.args.text.now c.loop-index.size) c.loop-index.invariant.all)

pub loop-index-preserved : goal.loop-index-preserved
loop-index-preserved c = record {
  all =
      next_segment c.loop-index.segments c.push.new.self c.in_ok-read_segment.field-0 c.args.count c.loop-index._index c.args.place c.loop-index.size
      c.args.text.now _
      (omega arith) c.in_ok-read_segment.ensures.segment c.in_ok-push.ensures.ok c.loop-index.invariant.all;
  within =
      let more : 4 ≤ length (drop c.loop-index.size c.args.text.now) = rw take_rest at c.in_ok-read_segment.ensures.within in
      omega (arith, length-drop c.loop-index.size c.args.text.now);
}

pub returns-clause-segments : goal.returns-clause-segments
returns-clause-segments c =
    last_segment c.loop-index.segments (c.args.count - c.loop-index._index) (c.args.place + c.loop-index.size) c.loop-index.size
    (drop c.loop-index.size c.args.text.now) _ (omega arith) c.loop-index.invariant.all
