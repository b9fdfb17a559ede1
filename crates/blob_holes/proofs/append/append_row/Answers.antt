use Rattle.std.proofs.Common.{◌++◌, ap, subst, ◌∙◌}
use Rattle.vt_layout.specs.Rows.{IsRow, bytes_of}
use Rattle.blob_holes.proofs.Appended.{new_pointer_fits}
use Rattle.blob_holes.proofs.append.append_row.Goals as goal

pub hole_pointer-requires-clause-fits : goal.hole_pointer-requires-clause-fits
hole_pointer-requires-clause-fits c =
    let old = c.args.blob.now in
    new_pointer_fits old c.append_bytes_of.new.self c.in-Pointer.offset
    (record { at = c.len-at.result; size = c.in-Pointer.width; target = c.in-Pointer.target })
    c.len-at.ensures.blob (c.in_ok-append_bytes_of.ensures.ok ∙ ap (λ row. record old { bytes = old.bytes ++ bytes_of row }) c.in-Pointer.is)
    c.len-at.ensures.value (subst IsRow c.in-Pointer.is c.requires.row).0
