use Rattle.blob_holes.proofs.Appended.{row_room, unsummed_more}
use Rattle.blob_holes.proofs.append.append_unsummed.Goals as goal

pub append_row-requires-clause-short : goal.append_row-requires-clause-short
append_row-requires-clause-short c =
    row_room c.args.blob.now c.loop-row.blob c.args.rows.now c.loop-row.row-index c.row-item.result c.row-item.result
    c.loop-row-test.true c.row-item.is c.requires.rows c.loop-row.invariant c.requires.short

pub loop-row-preserved : goal.loop-row-preserved
loop-row-preserved c =
    unsummed_more c.args.blob.now c.loop-row.blob c.append_row.new.blob c.args.rows.now c.loop-row.row-index c.row-item.result c.row-item.result
    c.loop-row-test.true c.row-item.is c.requires.rows c.loop-row.invariant c.in_ok-append_row.ensures
