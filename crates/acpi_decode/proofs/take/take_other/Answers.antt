use Rattle.std.proofs.Common.{arith}
use Rattle.acpi_decode.proofs.Takings.{other_taken}
use Rattle.acpi_decode.proofs.take.take_other.Goals as goal

pub returns-clause-taken : goal.returns-clause-taken
returns-clause-taken g c =
    other_taken c.args.form (g.V.MemView.seen c.args.view.now) c.args.address c.args.found.now c.push.new.self c.args.front.signature c.args.front.length
    c.requires.signed c.requires.told c.requires.other (omega (arith, c.if-front-lt-HEADER_SIZE.false))
    c.in_ok-test_whole.ensures.passes c.in_ok-push.ensures.ok
