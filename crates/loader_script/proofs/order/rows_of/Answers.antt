use Rattle.std.proofs.Common.{arith, ◌∙◌}
use Rattle.loader_script.proofs.Orders.{one_row_more, one_name_more}
use Rattle.loader_script.proofs.order.rows_of.Goals as goal

pub loop-file-preserved : goal.loop-file-preserved
loop-file-preserved c = record {
  rows = c.push_reserved.ensures.items
      ∙ one_row_more c.args.files.now c.loop-file.file-index c.file-item.result c.loop-file.rows.items _ c.loop-file-test.true c.file-item.is
      c.loop-file.invariant.rows c.bytes.ensures.field (c.len-index.ensures ∙ c.loop-file.invariant.len);
  names = one_name_more c.args.files.now c.loop-file.file-index c.file-item.result c.loop-file-test.true c.file-item.is
      c.loop-file.invariant.names c.bytes.ensures.name;
  len = omega (arith, c.loop-file.invariant.len, c.push_reserved.ensures.len);
  room = omega (arith, c.loop-file.invariant.room, c.push_reserved.ensures.capacity);
}
