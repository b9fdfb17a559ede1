use Rattle.std.proofs.Common.{length, ◌-◌, ◌+◌, ◌*◌, ◌≡◌, drop}
use Rattle.toml.specs.View.{table_view, items_view}
use Rattle.desc_schema.specs.Form.{fields_of, schema_of}
use Rattle.desc_schema.specs.Walk.{after, at_fields, elements, table_walked}
use Rattle.desc_schema.proofs.walk.+walking.Given as goal

abbrev pub invariant-push_table-loop-index : goal.invariant-push_table-loop-index
invariant-push_table-loop-index l =
    let inner = table_walked (schema_of l.schema) l.inner in
    after l.progress.values (at_fields inner l.place (fields_of (drop l.index l.keys)) (table_view l.table) l.progress.positions)
    ≡ after l.fn.progress.values (at_fields inner l.place (fields_of l.keys) (table_view l.table) l.fn.progress.positions)

abbrev pub decreases-push_table-loop-index : goal.decreases-push_table-loop-index
decreases-push_table-loop-index l = length l.keys - l.index

abbrev pub invariant-push_elements-loop-index : goal.invariant-push_elements-loop-index
invariant-push_elements-loop-index l =
    let inner = table_walked (schema_of l.schema) l.depth in
    after l.progress.values (elements inner l.at l.table (items_view (drop l.index l.nodes)) l.progress.positions)
    ≡ after l.fn.progress.values (elements inner l.at l.table (items_view l.nodes) l.fn.progress.positions)

abbrev pub decreases-push_elements-loop-index : goal.decreases-push_elements-loop-index
decreases-push_elements-loop-index l = length l.nodes - l.index

abbrev pub decreases-push_table : goal.decreases-push_table
decreases-push_table l = 5 * l.depth

abbrev pub decreases-push_key : goal.decreases-push_key
decreases-push_key l = 5 * l.depth + 4

abbrev pub decreases-push_node : goal.decreases-push_node
decreases-push_node l = 5 * l.depth + 3

abbrev pub decreases-push_elements : goal.decreases-push_elements
decreases-push_elements l = 5 * l.depth + 2

abbrev pub decreases-push_element : goal.decreases-push_element
decreases-push_element l = 5 * l.depth + 1
