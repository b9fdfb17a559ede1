use Rattle.std.proofs.Common.{◌+◌, ◌≤◌, arith, ap, ◌∙◌}
use Rattle.vt_layout.specs.Rows.{width_of, size}
use Rattle.blob_holes.proofs.SumsFree.{Summed, next_fits, next_zero, place_more, place_room, summed_more}
use Rattle.blob_holes.proofs.append.add_sums.Goals as goal

pub add_sum-requires-clause-fits : goal.add_sum-requires-clause-fits
add_sum-requires-clause-fits c =
    next_fits c.args.blob.now c.loop-row.blob c.args.start c.args.at c.loop-row.place c.args.rows.now c.loop-row.row-index c.row-item.result c.row-item.result
    c.row-item.is
    (record {
      fit = c.requires.fit;
      zero = c.requires.zero;
      here = c.loop-row-test.true;
      is = c.loop-row.invariant.blob;
      place_is = c.loop-row.invariant.place;
    })

pub add_sum-requires-clause-zero : goal.add_sum-requires-clause-zero
add_sum-requires-clause-zero c =
    next_zero c.args.blob.now c.loop-row.blob c.args.start c.args.at c.loop-row.place c.args.rows.now c.loop-row.row-index c.row-item.result c.row-item.result
    c.row-item.is
    (record {
      fit = c.requires.fit;
      zero = c.requires.zero;
      here = c.loop-row-test.true;
      is = c.loop-row.invariant.blob;
      place_is = c.loop-row.invariant.place;
    })

pub overflow_add-place : goal.overflow_add-place
overflow_add-place c =
    let row = c.row-item.result in
    let room : c.loop-row.place + width_of row ≤ c.args.at + size c.args.rows.now =
    place_room c.args.blob.now c.loop-row.blob c.args.start c.args.at c.loop-row.place c.args.rows.now c.loop-row.row-index row row c.row-item.is
    (record {
      fit = c.requires.fit;
      zero = c.requires.zero;
      here = c.loop-row-test.true;
      is = c.loop-row.invariant.blob;
      place_is = c.loop-row.invariant.place;
    }) in
    omega (arith, c.width-place.ensures, c.requires.short)

pub loop-row-preserved : goal.loop-row-preserved
loop-row-preserved c =
    let row = c.row-item.result in
    let summed : Summed c.args.blob.now c.loop-row.blob c.args.start c.args.at c.loop-row.place c.args.rows.now c.loop-row.row-index =
    record {
      fit = c.requires.fit;
      zero = c.requires.zero;
      here = c.loop-row-test.true;
      is = c.loop-row.invariant.blob;
      place_is = c.loop-row.invariant.place;
    } in
    record {
      blob = summed_more c.args.blob.now c.loop-row.blob c.args.start c.args.at c.loop-row.place c.args.rows.now c.loop-row.row-index row row c.row-item.is
          summed
          c.add_sum.new.blob c.in_ok-add_sum.ensures;
      place = ap (λ n. c.loop-row.place + n) c.width-place.ensures
          ∙ place_more c.args.blob.now c.loop-row.blob c.args.start c.args.at c.loop-row.place c.args.rows.now c.loop-row.row-index row row
          c.row-item.is summed;
    }
