use Rattle.std.proofs.Common.{◌≡◌, ◌+◌, ◌-◌, ◌*◌, length, reverse, take, drop, length-take, length-drop, arith, ap, sym, ◌∙◌}
use Rattle.vt_bytes.specs.Numbers.{be}
use Rattle.vt_bytes.proofs.Numbers.{pushed, be_more}
use Rattle.vt_bytes.proofs.number.get_be.Goals as goal

pub loop-byte-preserved : goal.loop-byte-preserved
loop-byte-preserved c =
    let bytes = take (c.args.at + c.args.n - c.args.at) (drop c.args.at c.args.bytes.now) in
    let index = c.loop-byte.byte-index in
    let size : length bytes ≡ c.args.n = simp (length-take, length-drop) (omega arith) in
    let both = pushed (reverse (take index bytes)) index _ c.from.result (omega arith) c.loop-byte.invariant.value c.loop-byte.invariant.small
    (omega (arith, c.type_inv.bytes (c.args.at + index))) in
    record {
      value = both.value ∙ ap (λ byte. byte + 256 * be (take index bytes)) c.from.ensures ∙ sym (be_more bytes index c.loop-byte-test.true);
      small = both.small;
    }
