use Rattle.blob_holes.proofs.Kept.{kept_appended}
use Rattle.blob_holes.proofs.blob.Blob.append.Goals as goal

pub invariant_of-self-2 : goal.invariant_of-self-2
invariant_of-self-2 c =
    kept_appended _ (record { bytes = c.self.inside.bytes; pointers = c.self.inside.pointers; sums = c.self.inside.sums }) _ _ c.self.view_is c.self.invariant
    c.in_ok-extend.ensures.ok c.requires
