use Rattle.std.proofs.Common.{arith}
use Rattle.anchor_scan.proofs.Rsdps.{rsdp_stands, rsdp_sums}
use Rattle.vt_bytes.specs.Memory.{seen}
use Rattle.anchor_scan.proofs.rsdp.RsdpAnchorAnchorKind.stands.Goals as goal

pub returns : goal.returns
returns c =
    let m = c.args.memory.now.memory in
    let form = c.args.self.now.0 in
    let address = c.args.address in (
      λ passes. rsdp_stands m form address c.requires.from c.requires.aligned (omega (arith, c.requires.below, c.if-address-from.false))
          (c.has_signature.ensures.0 c.if-not-has_signature.false) (c.has_revision_and_sums.ensures.0 passes),
      λ has. c.has_revision_and_sums.ensures.1 (rsdp_sums form (seen m) address has),
    )
