use Rattle.std.proofs.Common.{length, length-set, ap, ◌∙◌}
use Rattle.blob_holes.proofs.Kept.{kept_sum}
use Rattle.blob_holes.proofs.blob.Blob.hole_sum.Goals as goal

pub invariant_of-self-2 : goal.invariant_of-self-2
invariant_of-self-2 c =
    kept_sum _ (record { bytes = c.self.inside.bytes; pointers = c.self.inside.pointers; sums = c.self.inside.sums })
    (record { at = c.args.at; start = c.args.start; length = c.args.length }) _ _
    c.self.view_is c.self.invariant c.requires c.in_ok-push.ensures.ok (ap length c.set.ensures ∙ length-set c.self.inside.bytes c.args.at 0)
