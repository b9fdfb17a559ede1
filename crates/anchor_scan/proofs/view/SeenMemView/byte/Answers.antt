use Rattle.std.proofs.Common.{Some, arith, ap, sym, ◌∙◌}
use Rattle.std.proofs.lemmas.Bool.{false≢true}
use Rattle.vt_bytes.proofs.Seen.{seen-ram, seen-none}
use Rattle.anchor_scan.proofs.SeenWithin.{within_below}
use Rattle.anchor_scan.proofs.view.SeenMemView.byte.Goals as goal

pub returns-then-is_ram : goal.returns-then-is_ram
returns-then-is_ram c =
    let m = c.args.self.now.0.now.memory in
    ap Some c.read.ensures ∙ sym (seen-ram m c.args.address (c.is_ram.ensures.0 c.if-is_ram.true))
    ∙ sym (within_below m c.args.address (omega (arith, c.ranges.address.fits)))

pub returns-else-is_ram : goal.returns-else-is_ram
returns-else-is_ram c =
    let m = c.args.self.now.0.now.memory in
    sym (seen-none m c.args.address (λ ram. false≢true (sym c.if-is_ram.false ∙ c.is_ram.ensures.1 ram)))
    ∙ sym (within_below m c.args.address (omega (arith, c.ranges.address.fits)))
