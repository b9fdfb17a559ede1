use Rattle.std.proofs.Common.{ℕ, arith, slice_index, ap, ◌∙◌}
use Rattle.std.proofs.lemmas.List.{length-set}
use Rattle.std.proofs.lemmas.Nat.{and_mask}
use Rattle.hex.specs.Hex.{lower_digits}
use Rattle.memory_dump.proofs.DumpLines.{digits_more, digits_done}
use Rattle.memory_dump.proofs.digits.digits.Goals as goal

pub loop-i-preserved : goal.loop-i-preserved
loop-i-preserved c =
    let byte : ℕ = slice_index c.args.bytes.now c.loop-i.i in
    let low = c.digit-in-loop-i.ensures ∙ ap (slice_index lower_digits) (and_mask byte 4) in
    record {
      size = length-set _ _ _ ∙ length-set _ _ _ ∙ c.loop-i.invariant.size;
      so_far = digits_more c.args.bytes.now c.loop-i.text c.loop-i.i _ _ (omega arith) (omega (arith, c.loop-i.invariant.size)) c.digit.ensures low
          c.loop-i.invariant.so_far;
    }

pub returns : goal.returns
returns c = digits_done c.args.bytes.now _ c.loop-i.i (omega arith) (omega (arith, c.loop-i.invariant.size)) c.loop-i.invariant.so_far
