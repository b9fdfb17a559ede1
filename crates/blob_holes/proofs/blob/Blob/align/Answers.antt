use Rattle.std.proofs.Common.{◌≡◌, ◌-◌, length, arith, ap, ◌∙◌}
use Rattle.blob_holes.proofs.Kept.{kept_appended}
use Rattle.blob_holes.proofs.blob.Blob.align.Goals as goal

pub invariant_of-self-2 : goal.invariant_of-self-2
invariant_of-self-2 c =
    let zeros : length c.deref.result.now ≡ c.next_multiple_of.result - c.len-len.result = c.deref.ensures.len ∙ c.in_ok-zeros.ensures.len in
    let same : length c.self.inside.bytes ≡ length c.args.self.now.bytes = ap (λ b. length b.bytes) c.self.view_is in
    kept_appended c.args.self.now (record { bytes = c.self.inside.bytes; pointers = c.self.inside.pointers; sums = c.self.inside.sums }) _ _ c.self.view_is
    c.self.invariant c.in_ok-extend.ensures.ok (omega arith)
