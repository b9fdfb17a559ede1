use Rattle.std.proofs.Common.{◌≡◌, ◌≤◌, true, arith, sym, ◌∙◌}
use Rattle.smbios_install.specs.Selectors.{is_taken}
use Rattle.smbios_install.proofs.Selectors.{taken_below, taken_passed}
use Rattle.smbios_install.proofs.selecting.least_free.Goals as goal

pub loop-select-smaller : goal.loop-select-smaller
loop-select-smaller c =
    let taken : is_taken c.args.items.now c.loop-select.select ≡ true = sym c.is_taken.ensures ∙ c.loop-select-test.true in
    let below : c.loop-select.select ≤ 0x3FFF = taken_below c.args.items.now c.loop-select.select c.requires.distinct taken in
    omega arith

pub loop-select-preserved : goal.loop-select-preserved
loop-select-preserved c =
    let taken : is_taken c.args.items.now c.loop-select.select ≡ true = sym c.is_taken.ensures ∙ c.loop-select-test.true in
    let below : c.loop-select.select ≤ 0x3FFF = taken_below c.args.items.now c.loop-select.select c.requires.distinct taken in
    record { same = c.loop-select.invariant.same ∙ taken_passed c.args.items.now c.loop-select.select taken; few = omega arith }
