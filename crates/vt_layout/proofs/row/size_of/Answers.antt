use Rattle.std.proofs.Common.{arith, ap}
use Rattle.vt_layout.specs.Rows.{width_of}
use Rattle.vt_layout.proofs.Sizes.{size_more, size_room}
use Rattle.vt_layout.proofs.row.size_of.Goals as goal

pub overflow_add-total : goal.overflow_add-total
overflow_add-total c =
    let row = c.row-item.result in
    let room = size_room c.args.rows.now c.loop-row.row-index row c.loop-row-test.true in
    let width = ap width_of c.row-item.is in
    omega (arith, room, width, c.width-total.ensures, c.loop-row.invariant, c.requires)

pub loop-row-preserved : goal.loop-row-preserved
loop-row-preserved c =
    let row = c.row-item.result in
    let more = size_more c.args.rows.now c.loop-row.row-index row c.loop-row-test.true in
    let width = ap width_of c.row-item.is in
    omega (arith, more, width, c.width-total.ensures, c.loop-row.invariant)
