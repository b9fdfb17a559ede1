use Rattle.std.proofs.Common.{refl, arith, ◌∙◌}
use Rattle.std.proofs.lemmas.List.{length-set}
use Rattle.memory_dump.proofs.ByteSteps.{byte_more, bytes_done}
use Rattle.memory_dump.proofs.digits.put_bytes.Goals as goal

pub loop-i-init : goal.loop-i-init
loop-i-init c = record { size = refl; so_far = refl }

pub loop-i-preserved : goal.loop-i-preserved
loop-i-preserved c = record {
  size = length-set _ _ _ ∙ c.loop-i.invariant.size;
  so_far = byte_more c.args.digits.now c.loop-i.bytes c.loop-i.i _ _ _ (omega (arith, c.loop-i.invariant.size)) (omega (arith, c.requires))
      c.value.ensures.value c.value-in-loop-i.ensures.value refl c.loop-i.invariant.so_far;
}

pub returns : goal.returns
returns c =
    bytes_done c.args.digits.now _ c.loop-i.i (omega (arith, c.loop-i.invariant.size)) (omega (arith, c.requires, c.loop-i.invariant.size))
    c.loop-i.invariant.so_far
