use Rattle.std.proofs.Common.{◌≡◌, ◌+◌, arith, subst, ◌∙◌}
use Rattle.acpi_decode.proofs.InRam.{address_fits}
use Rattle.acpi_decode.proofs.Bytewise.{not_none, summed_more, summed_all}
use Rattle.acpi_decode.proofs.view.MemView.sum_range.Goals as goal
use Rattle.acpi_decode.proofs.view.MemView.sum_range.Goals.{in-Some, in_default}

pub overflow_add-address : goal.overflow_add-address
overflow_add-address g c =
    let seen = g.Self.MemView.seen c.args.self.now in
    omega (
      arith,
      address_fits seen c.args.address c.args.count c.loop-offset.offset (g.met.Self.MemView.bounded c.args.self.now) c.requires
          c.loop-offset-test.true,
    )

pub loop-offset-preserved : goal.loop-offset-preserved
loop-offset-preserved g c =
    let seen = g.Self.MemView.seen c.args.self.now in
    let address = c.args.address in
    let offset = c.loop-offset.offset in
    let found = c.byte.result in
    let at = subst (λ o. found ≡ seen (address + o)) c.from.ensures c.byte.ensures in
    elim c.match-byte.branch [
      | in-Some w ↦
          w.sum-is ∙ summed_more seen address c.args.count offset w.in-Some.byte c.loop-offset.sum found c.requires c.loop-offset-test.true at
          w.in-Some.is c.loop-offset.invariant
      | in_default w ↦ absurd (not_none seen address c.args.count offset found c.requires c.loop-offset-test.true at w.in_default.is)
    ]

pub returns : goal.returns
returns g c =
    summed_all (g.Self.MemView.seen c.args.self.now) c.args.address c.args.count c.loop-offset.offset c.loop-offset.sum c.requires
    c.loop-offset-test.false c.loop-offset.invariant
