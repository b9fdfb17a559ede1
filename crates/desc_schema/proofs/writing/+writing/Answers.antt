use Rattle.std.proofs.Common.{◌≡◌, ◌<◌, ◌-◌, sym, ◌∙◌, arith}
use Rattle.toml.proofs.Views.{view-Table}
use Rattle.toml.specs.View.{table_view}
use Rattle.toml.specs.declared.value.Value.{Table}
use Rattle.desc_schema.specs.Form.{schema_of}
use Rattle.desc_schema.specs.Written.{hyphenated, written_to}
use Rattle.desc_schema.proofs.WriterSteps.{spliced_none, tables_go_on, fields_done, written_more}
use Rattle.desc_schema.proofs.writing.+writing.Goals as goal

pub write_elements-loop-left-preserved : goal.write_elements-loop-left-preserved
write_elements-loop-left-preserved t c = record {
  texts = c.in_ok-table.ensures.texts;
  so_far = rw c.in_ok-push.ensures.items
      (tables_go_on (written_to hyphenated (schema_of c.args.schema.now) c.args.depth) c.args.number c.loop-left.left c.loop-left.values
      c.write_table.new.values c.loop-left.nodes.items (Table c.in_ok-table.table) (table_view c.in_ok-table.table) _ c.loop-left-test.true
      c.in_ok-table.ensures.made (view-Table c.in_ok-table.table) c.loop-left.invariant.so_far);
}

pub write_elements-returns-clause-made : goal.write_elements-returns-clause-made
write_elements-returns-clause-made t c =
    let none : c.loop-left.left ≡ 0 = omega arith in
    sym (spliced_none c.loop-left.nodes.items c.loop-left.values) ∙ (rw none at c.loop-left.invariant.so_far)

pub write_table-returns-clause-made : goal.write_table-returns-clause-made
write_table-returns-clause-made t c =
    let within : 0 < c.args.depth = omega arith in
    fields_done hyphenated (written_to hyphenated (schema_of c.args.schema.now) (c.args.depth - 1)) c.loop-index.index c.keys_at-keys.result.now
    c.loop-index.values (table_view c.loop-index.made) _ c.loop-index-test.false c.loop-index.invariant.so_far
    ∙ written_more hyphenated (schema_of c.args.schema.now) c.args.depth c.args.number c.args.values.now _ within c.keys_at-keys.ensures
