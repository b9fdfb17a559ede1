use Rattle.std.proofs.Common.{◌≡◌, ◌+◌, ◌^◌, ◌≤◌, not, is_some, arith, ap, sym, ◌∙◌}
use Rattle.acpi_decode.proofs.InRam.{each_ram, none_ram}
use Rattle.acpi_decode.proofs.view.MemView.is_ram_range.Goals as goal

pub returns-in_default : goal.returns-in_default
returns-in_default g c =
    let seen = g.Self.MemView.seen c.args.self.now in
    let past : 2 ^ 64 ≤ c.args.address + c.loop-offset.offset = omega (arith, c.in_default.ensures) in
    sym (none_ram seen c.args.address c.args.count c.loop-offset.offset c.loop-offset-test.true
    (ap is_some (g.met.Self.MemView.bounded c.args.self.now (c.args.address + c.loop-offset.offset) past)))

pub returns-then-is_none : goal.returns-then-is_none
returns-then-is_none g c =
    let seen = g.Self.MemView.seen c.args.self.now in
    let place : c.in-Some.place ≡ c.args.address + c.loop-offset.offset = omega (arith, c.in-Some.ensures) in
    sym (none_ram seen c.args.address c.args.count c.loop-offset.offset c.loop-offset-test.true
    (ap (λ a. is_some (seen a)) (sym place) ∙ ap is_some (sym c.byte.ensures) ∙ c.is_none.ensures ∙ ap not c.if-is_none.true))

pub returns : goal.returns
returns g c =
    let seen = g.Self.MemView.seen c.args.self.now in
    sym (each_ram seen c.args.address c.args.count (λ i below. c.loop-offset.invariant i (omega (arith, below, c.loop-offset-test.false))))
