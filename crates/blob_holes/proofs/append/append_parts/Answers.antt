use Rattle.blob_holes.proofs.PartRows.{part_is_row, part_room, parts_more}
use Rattle.blob_holes.proofs.append.append_parts.Goals as goal

pub append_part-requires-clause-row : goal.append_part-requires-clause-row
append_part-requires-clause-row c =
    part_is_row c.args.parts.now c.loop-part.part-index c.part-item.result c.part-item.result c.loop-part-test.true c.part-item.is c.requires.rows

pub append_part-requires-clause-short : goal.append_part-requires-clause-short
append_part-requires-clause-short c =
    part_room c.args.parts.now c.loop-part.part-index c.part-item.result c.part-item.result c.loop-part-test.true c.part-item.is
    c.args.blob.now c.loop-part.blob c.requires.rows c.loop-part.invariant c.requires.short

pub loop-part-preserved : goal.loop-part-preserved
loop-part-preserved c =
    parts_more c.args.parts.now c.loop-part.part-index c.part-item.result c.part-item.result c.loop-part-test.true c.part-item.is
    c.args.blob.now c.loop-part.blob c.requires.rows c.loop-part.invariant c.append_part.new.blob c.in_ok-append_part.ensures
