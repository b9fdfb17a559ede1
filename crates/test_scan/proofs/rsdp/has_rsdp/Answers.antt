use Rattle.std.proofs.Common.{arith, refl}
use Rattle.test_scan.proofs.StandingRsdp.{rsdp_stands}
use Rattle.test_scan.proofs.rsdp.has_rsdp.Goals as goal

pub returns-then-is_signed : goal.returns-then-is_signed
returns-then-is_signed g c passes =
    rsdp_stands (g.V.MemView.seen c.args.view.now) c.args.rsdp c.copy_out.new.bytes (omega (arith, c.if-rsdp-lt917504.false))
    (omega (arith, c.if-rsdp-ne0.false)) (omega (arith, c.if-rsdp.false)) c.copy_out.ensures (c.if-is_signed.ensures refl)
    (c.has_revision_and_sums.ensures passes)
