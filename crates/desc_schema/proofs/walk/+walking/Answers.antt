use Rattle.std.proofs.Common.{◌≡◌, ◌∷◌, [], ◌<◌, ◌-◌, length, arith}
use Rattle.std.proofs.lemmas.Result.{err_from_is_err_and}
use Rattle.toml.specs.View.{view, table_view, items_view}
use Rattle.desc_schema.specs.Form.{form_of, shape_of, schema_of}
use Rattle.desc_schema.specs.Walk.{after, table_walked, elements, singles, shaped}
use Rattle.desc_schema.specs.declared.value.Value.{Value}
use Rattle.desc_schema.proofs.Parts.{after_after}
use Rattle.desc_schema.proofs.Loops.{fields_go_on, fields_stop, fields_done, elements_go_on, elements_stop, elements_done, count_of-view}
use Rattle.desc_schema.proofs.Depth.{walked_none, walked_known, walked_unknown}
use Rattle.desc_schema.proofs.walk.+walking.Goals as goal

pub push_table-returns-then-depth-eq0 : goal.push_table-returns-then-depth-eq0
push_table-returns-then-depth-eq0 most c =
    walked_none c.args.progress.now.values (schema_of c.args.schema.now) c.args.depth c.args.place
    (table_view c.args.table.now) c.args.progress.now.positions c.if-depth-eq0.true

pub push_table-returns-in_err-only_known : goal.push_table-returns-in_err-only_known
push_table-returns-in_err-only_known most c =
    let p = err_from_is_err_and c.from_residual.result c.from_residual.ensures.1 in
    let within : 0 < c.args.depth = omega arith in
    rw (p.1, p.2)
    (walked_unknown c.in_err-only_known.field-0.0 c.args.progress.now.values (schema_of c.args.schema.now) c.args.depth c.args.place
    (table_view c.args.table.now) c.args.progress.now.positions _ within
    c.keys_at-keys.ensures c.in_err-only_known.ensures)

pub push_table-returns-in_err-push_key : goal.push_table-returns-in_err-push_key
push_table-returns-in_err-push_key most c =
    let p = err_from_is_err_and c.from_residual-in_err-push_key.result c.from_residual-in_err-push_key.ensures.1 in
    let within : 0 < c.args.depth = omega arith in
    let table = table_view c.args.table.now in
    let inner = table_walked (schema_of c.args.schema.now) (c.args.depth - 1) in
    let known = walked_known
    (schema_of c.args.schema.now) c.args.depth c.args.place table c.args.progress.now.positions _ _ within c.keys_at-keys.ensures c.in_ok-only_known.ensures in
    rw (p.1, p.2, known)
    (fields_stop c.in_err-push_key.field-0.0 c.loop-index.progress.values c.loop-index.progress.positions inner c.args.place c.loop-index.index
    c.keys_at-keys.result.now _ table _
    c.loop-index-test.true c.in_err-push_key.ensures c.loop-index.invariant)

pub push_table-loop-index-preserved : goal.push_table-loop-index-preserved
push_table-loop-index-preserved most c =
    let inner = table_walked (schema_of c.args.schema.now) (c.args.depth - 1) in
    fields_go_on c.loop-index.progress.values c.push_key.new.progress.values c.loop-index.progress.positions c.push_key.new.progress.positions inner
    c.args.place c.loop-index.index
    c.keys_at-keys.result.now _ (table_view c.args.table.now) _ c.loop-index-test.true
    c.in_ok-push_key.ensures c.loop-index.invariant

pub push_table-returns : goal.push_table-returns
push_table-returns most c =
    let within : 0 < c.args.depth = omega arith in
    let table = table_view c.args.table.now in
    let inner = table_walked (schema_of c.args.schema.now) (c.args.depth - 1) in
    let known = walked_known
    (schema_of c.args.schema.now) c.args.depth c.args.place table c.args.progress.now.positions _ _ within c.keys_at-keys.ensures c.in_ok-only_known.ensures in
    rw known
    (fields_done c.loop-index.progress.values c.loop-index.progress.positions inner c.args.place c.loop-index.index c.keys_at-keys.result.now table _
    c.loop-index-test.false c.loop-index.invariant)

pub push_elements-returns-in_err-push_element : goal.push_elements-returns-in_err-push_element
push_elements-returns-in_err-push_element most c =
    let p = err_from_is_err_and c.from_residual.result c.from_residual.ensures.1 in
    rw (p.1, p.2)
    (elements_stop c.in_err-push_element.field-0.0 c.loop-index.progress.values c.loop-index.progress.positions
    (table_walked (schema_of c.args.schema.now) c.args.depth) c.args.at c.args.table
    c.loop-index.index c.args.nodes.now _ _ c.loop-index-test.true c.index-nodes-index.is c.in_err-push_element.ensures c.loop-index.invariant)

pub push_elements-loop-index-preserved : goal.push_elements-loop-index-preserved
push_elements-loop-index-preserved most c =
    elements_go_on c.loop-index.progress.values c.push_element.new.progress.values c.loop-index.progress.positions c.push_element.new.progress.positions
    (table_walked (schema_of c.args.schema.now) c.args.depth) c.args.at c.args.table c.loop-index.index c.args.nodes.now _ _ c.loop-index-test.true
    c.index-nodes-index.is c.in_ok-push_element.ensures
    c.loop-index.invariant

pub push_elements-returns : goal.push_elements-returns
push_elements-returns most c =
    elements_done c.loop-index.progress.values c.loop-index.progress.positions
    (table_walked (schema_of c.args.schema.now) c.args.depth) c.args.at c.args.table c.loop-index.index c.args.nodes.now _
    c.loop-index-test.false c.loop-index.invariant

pub push_node-returns-in_ok-push-in-Tables : goal.push_node-returns-in_ok-push-in-Tables
push_node-returns-in_ok-push-in-Tables most c =
    let inner = table_walked (schema_of c.args.schema.now) c.args.depth in
    let nodes = c.in_ok-nodes-in-Tables.nodes.now in
    let front = c.args.progress.now.values in
    let before = c.args.progress.now.positions in
    let given = elements inner c.args.at c.in-Tables.table (items_view nodes) before in
    let pushed = c.in_ok-push-in-Tables.ensures.ok in
    let e : after front (shaped inner c.args.at (shape_of c.args.kind) (view c.args.node.now) before) ≡ after c.push-in-Tables.new.self given =
    rw (c.in-Tables.is, c.in_ok-nodes-in-Tables.ensures, count_of-view nodes, pushed) (after_after front (Value.Count (length nodes) ∷ []) given) in
    rw e c.push_elements.ensures

pub push_node-returns-in_ok-push-in-Values : goal.push_node-returns-in_ok-push-in-Values
push_node-returns-in_ok-push-in-Values most c =
    let inner = table_walked (schema_of c.args.schema.now) c.args.depth in
    let nodes = c.in_ok-nodes-in-Values.nodes.now in
    let front = c.args.progress.now.values in
    let before = c.args.progress.now.positions in
    let given = singles c.args.at (form_of c.in-Values.scalar) (items_view nodes) before in
    let pushed = c.in_ok-push-in-Values.ensures.ok in
    let e : after front (shaped inner c.args.at (shape_of c.args.kind) (view c.args.node.now) before) ≡ after c.push-in-Values.new.self given =
    rw (c.in-Values.is, c.in_ok-nodes-in-Values.ensures, count_of-view nodes, pushed) (after_after front (Value.Count (length nodes) ∷ []) given) in
    rw e c.push_singles.ensures
