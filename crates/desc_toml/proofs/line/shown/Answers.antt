use Rattle.std.proofs.Common.{arith}
use Rattle.desc_toml.proofs.Shown.{shown_to_64, shown_to_end}
use Rattle.desc_toml.proofs.line.shown.Goals as goal

pub returns-else-place-lt64 : goal.returns-else-place-lt64
returns-else-place-lt64 c =
    let (is, _, _, within) = c.loop-place.invariant in
    shown_to_64 c.args.key.now c.loop-place.shown.bytes c.loop-place.place is (omega (arith, within, c.if-place-lt64.false))

pub returns-after-loop-place : goal.returns-after-loop-place
returns-after-loop-place c =
    let (is, _, _, within) = c.loop-place.invariant in
    shown_to_end c.args.key.now c.loop-place.shown.bytes c.loop-place.place is c.loop-place-test.false within
