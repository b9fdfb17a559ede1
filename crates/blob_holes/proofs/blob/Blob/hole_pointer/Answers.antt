use Rattle.std.proofs.Common.{◌≡◌, length, take, length-take, arith, ap, ◌∙◌}
use Rattle.vt_bytes.proofs.PutAt.{length-put_at}
use Rattle.blob_holes.proofs.Kept.{kept_pointer}
use Rattle.blob_holes.proofs.blob.Blob.hole_pointer.Goals as goal

pub invariant_of-self-2 : goal.invariant_of-self-2
invariant_of-self-2 c =
    let piece = take c.from-2.result c.to_le_bytes-bytes.result in
    let whole : length c.to_le_bytes-bytes.result ≡ 8 = ap length c.to_le_bytes-bytes.ensures in
    let size : length piece ≡ c.args.size = length-take c.from-2.result c.to_le_bytes-bytes.result ∙ omega arith in
    let same : length c.self.inside.bytes ≡ length c.args.self.now.bytes = ap (λ b. length b.bytes) c.self.view_is in
    kept_pointer c.args.self.now (record { bytes = c.self.inside.bytes; pointers = c.self.inside.pointers; sums = c.self.inside.sums })
    (record { at = c.args.at; size = c.args.size; target = c.args.target }) _ _
    c.self.view_is c.self.invariant c.requires.fits c.in_ok-push.ensures.ok (ap length c.put.ensures
    ∙ length-put_at c.self.inside.bytes c.args.at piece (omega arith))
