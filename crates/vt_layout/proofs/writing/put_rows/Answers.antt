use Rattle.vt_layout.proofs.Sizes.{put_more}
use Rattle.vt_layout.proofs.writing.put_rows.Goals as goal

pub loop-row-preserved : goal.loop-row-preserved
loop-row-preserved c =
    put_more c.args.bytes.now c.loop-row.bytes c.put_row.new.bytes c.args.rows.now c.loop-row.row-index c.row-item.result c.row-item.result
    c.loop-row-test.true c.row-item.is c.loop-row.invariant c.in_ok-put_row.ensures.ok
