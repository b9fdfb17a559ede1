use Rattle.std.proofs.Common.{arith}
use Rattle.blob_holes.proofs.PartRows.{part_size_room, part_size_more}
use Rattle.blob_holes.proofs.part.size_of_parts.Goals as goal

pub width-total-requires : goal.width-total-requires
width-total-requires c =
    let part = c.part-item.result in
    let room = part_size_room c.args.parts.now c.loop-part.part-index part part c.loop-part-test.true c.part-item.is in
    omega (arith, room, c.requires)

pub overflow_add-total : goal.overflow_add-total
overflow_add-total c =
    let part = c.part-item.result in
    let room = part_size_room c.args.parts.now c.loop-part.part-index part part c.loop-part-test.true c.part-item.is in
    omega (arith, room, c.width-total.ensures, c.loop-part.invariant, c.requires)

pub loop-part-preserved : goal.loop-part-preserved
loop-part-preserved c =
    let part = c.part-item.result in
    let more = part_size_more c.args.parts.now c.loop-part.part-index part part c.loop-part-test.true c.part-item.is in
    omega (arith, more, c.width-total.ensures, c.loop-part.invariant)
