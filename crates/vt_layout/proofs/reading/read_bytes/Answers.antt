use Rattle.std.proofs.Common.{arith, ap}
use Rattle.vt_layout.specs.declared.row.Row.TheVariants.{Reserved}
use Rattle.vt_layout.specs.Rows.{width_of}
use Rattle.vt_layout.proofs.Sizes.{size_room}
use Rattle.vt_layout.proofs.reading.read_bytes.Goals as goal

pub size_of-start-requires : goal.size_of-start-requires
size_of-start-requires c =
    let room = size_room c.args.rows.now c.args.index (Reserved 0) c.requires.row in
    omega (arith, room, c.requires.within)

pub slice_bounds-result-end : goal.slice_bounds-result-end
slice_bounds-result-end c =
    let room = size_room c.args.rows.now c.args.index c.index-rows-index.result c.requires.row in
    omega (arith, room, ap width_of c.index-rows-index.is, c.width.ensures, c.size_of-start.ensures, c.requires.within)
