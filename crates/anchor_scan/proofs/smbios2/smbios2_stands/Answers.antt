use Rattle.std.proofs.Common.{arith}
use Rattle.vt_bytes.specs.Memory.{seen}
use Rattle.anchor_scan.proofs.OldAnchors.{old_stands, old_sums}
use Rattle.anchor_scan.proofs.smbios2.smbios2_stands.Goals as goal

pub returns : goal.returns
returns c =
    let m = c.args.memory.now.memory in
    let address = c.args.address in (
      λ passes. old_stands m address c.requires.from c.requires.aligned (omega (arith, c.requires.below, c.if-address-from.false))
          (c.has_mark.ensures.0 c.if-not-has_mark.false) (c.has_mark-2.ensures.0 c.if-not-has_mark-2.false) (c.has_length_and_sums.ensures.0 passes),
      λ has. c.has_length_and_sums.ensures.1 (old_sums (seen m) address has),
    )
