use Rattle.std.proofs.Common.{take, arith, ap, ◌∙◌}
use Rattle.acpi_told.proofs.Unpadded.{other_next, space_next}
use Rattle.acpi_told.proofs.maker.unpadded_length.Goals.{then-byte-ne32, else-byte-ne32}
use Rattle.acpi_told.proofs.maker.unpadded_length.Goals as goal

pub loop-place-preserved : goal.loop-place-preserved
loop-place-preserved c =
    elim c.if-byte-ne32.branch [
      | then-byte-ne32 w ↦ record {
        within = omega (arith, w.length-is);
        front = ap (λ n. take n c.args.padded.now) w.length-is
            ∙ other_next c.args.padded.now c.loop-place.place c.loop-place-test.true w.if-byte-ne32.true;
      }
      | else-byte-ne32 w ↦ record {
        within = omega (arith, w.length-is, c.loop-place.invariant.within);
        front = ap (λ n. take n c.args.padded.now) w.length-is ∙ c.loop-place.invariant.front
            ∙ space_next c.args.padded.now c.loop-place.place c.loop-place-test.true w.if-byte-ne32.false;
      }
    ]
