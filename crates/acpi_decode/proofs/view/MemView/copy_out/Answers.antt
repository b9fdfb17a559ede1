use Rattle.std.proofs.Common.{◌+◌, length, take, arith, ap, ◌∙◌}
use Rattle.acpi_decode.proofs.InRam.{address_fits}
use Rattle.acpi_decode.proofs.Bytewise.{not_none, copied_more, copied_all}
use Rattle.acpi_decode.proofs.view.MemView.copy_out.Goals as goal
use Rattle.acpi_decode.proofs.view.MemView.copy_out.Goals.{in-Some, in_default}

pub overflow_add-address : goal.overflow_add-address
overflow_add-address g c =
    let seen = g.Self.MemView.seen c.args.self.now in
    omega (
      arith,
      address_fits seen c.args.address (length c.args.bytes.now) c.loop-offset.offset (g.met.Self.MemView.bounded c.args.self.now) c.requires
          c.loop-offset-test.true,
    )

pub loop-offset-preserved : goal.loop-offset-preserved
loop-offset-preserved g c =
    let seen = g.Self.MemView.seen c.args.self.now in
    let address = c.args.address in
    let count = length c.args.bytes.now in
    let offset = c.loop-offset.offset in
    let found = c.byte.result in
    elim c.match-byte.branch [
      | in-Some w ↦
          ap (take (offset + 1)) w.bytes-is ∙ copied_more seen address count offset w.in-Some.byte found c.loop-offset.bytes c.requires
          c.loop-offset-test.true c.byte.ensures w.in-Some.is c.loop-offset.auto.bytes c.loop-offset.invariant
      | in_default w ↦ absurd (not_none seen address count offset found c.requires c.loop-offset-test.true c.byte.ensures w.in_default.is)
    ]

pub returns : goal.returns
returns g c =
    copied_all (g.Self.MemView.seen c.args.self.now) c.args.address (length c.args.bytes.now) c.loop-offset.offset c.loop-offset.bytes c.requires
    c.loop-offset-test.false c.loop-offset.auto.bytes c.loop-offset.invariant
