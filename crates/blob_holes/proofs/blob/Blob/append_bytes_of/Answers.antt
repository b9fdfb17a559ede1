use Rattle.std.proofs.Common.{◌+◌, ◌<◌, ◌^◌, length, arith}
use Rattle.vt_layout.specs.Rows.{bytes_of}
use Rattle.vt_layout.proofs.Sizes.{length-bytes_of}
use Rattle.blob_holes.proofs.Kept.{kept_either}
use Rattle.blob_holes.proofs.blob.Blob.append_bytes_of.Goals as goal

pub invariant_of-self : goal.invariant_of-self
invariant_of-self c =
    let row = c.args.row.now in
    let short : length c.args.self.now.bytes + length (bytes_of row) < 2 ^ 32 = omega (arith, length-bytes_of row c.requires.row, c.requires.short) in
    kept_either c.put_row.result c.args.self.now (record { bytes = c.self.inside.bytes; pointers = c.self.inside.pointers; sums = c.self.inside.sums }) _
    (bytes_of row)
    c.self.view_is c.self.invariant c.put_row.ensures.ok c.put_row.ensures.err short
