use Rattle.std.proofs.Common.{◌≡◌, ◌+◌, ◌-◌, ◌*◌, ◌%◌, ◌^◌, ◌<◌, take, drop, slice_index, bit_or, arith, ap, subst, sym, ◌∙◌}
use Rattle.vt_bytes.specs.Numbers.{le}
use Rattle.vt_bytes.proofs.Numbers.{pushed, le_before}
use Rattle.vt_bytes.proofs.number.get_le.Goals as goal

pub loop-place-preserved : goal.loop-place-preserved
loop-place-preserved c =
    let bytes = c.args.bytes.now in
    let place = c.loop-place.place in
    let done = c.args.at + c.args.n - place in
    let next : place - 1 + 1 ≡ place = omega arith in
    let count : c.args.at + c.args.n - (place - 1) ≡ done + 1 = omega arith in
    let within : done < 8 = omega arith in
    let both = pushed (take done (drop place bytes)) done _ c.from.result within c.loop-place.invariant.value c.loop-place.invariant.small
    (omega (arith, c.type_inv.bytes (place - 1))) in
    let spelt : c.from.result + 256 * le (take done (drop place bytes)) ≡ le (take (done + 1) (drop (place - 1) bytes)) =
    ap (λ byte. byte + 256 * le (take done (drop place bytes))) c.from.ensures
    ∙ ap (λ p. slice_index bytes (place - 1) + 256 * le (take done (drop p bytes))) (sym next)
    ∙ sym (le_before bytes (place - 1) done (omega arith)) in
    record {
      from = omega arith;
      value = both.value ∙ spelt ∙ ap (λ k. le (take k (drop (place - 1) bytes))) (sym count);
      small = subst (λ k. bit_or (c.loop-place.number * 256 % 0x10000000000000000) c.from.result < 256 ^ k) (sym count) both.small;
    }
