use Rattle.std.proofs.Common.{[]}
use Rattle.inventory_items.proofs.EqualRecords.{record_test}
use Rattle.inventory_items.proofs.records.are_same_records.Goals as goal

-- The rows and the texts that were gathered are those of the two records.
pub returns : goal.returns
returns g c =
    let made = g.T.Laid.made in
    let one = c.in_ok-rows in
    let other = c.in_ok-others in
    record_test g.T.Laid.ROWS g.T.Laid.fields made c.args.left.now c.args.right.now (g.met.T.Laid.lawful c.args.left.now (made []))
    (g.met.T.Laid.lawful c.args.right.now (made [])) one.rows.rows other.others.rows one.rows.texts other.others.texts c.are_same_lists.result
    one.ensures.rows other.ensures.rows one.ensures.texts other.ensures.texts c.are_same_lists.ensures
