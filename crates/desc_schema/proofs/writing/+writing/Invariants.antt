use Rattle.std.proofs.Common.{length, ◌-◌, ◌+◌, ◌*◌, ◌≡◌, drop}
use Rattle.toml.specs.Data.{no_members}
use Rattle.toml.specs.View.{table_view}
use Rattle.desc_schema.specs.Form.{fields_of, schema_of}
use Rattle.desc_schema.specs.Written.{hyphenated, AreTexts, tables_written, fields_written, written_to}
use Rattle.desc_schema.proofs.WriterSteps.{spliced}
use Rattle.desc_schema.proofs.writing.+writing.Given as goal

abbrev pub invariant-write_table-loop-index : goal.invariant-write_table-loop-index
invariant-write_table-loop-index l =
    let write = written_to hyphenated (schema_of l.schema) l.inner in
    record {
      texts : AreTexts l.values;
      so_far : fields_written hyphenated write (fields_of (drop l.index l.keys)) l.values (table_view l.made)
          ≡ fields_written hyphenated write (fields_of l.keys) l.fn.values no_members;
    }

abbrev pub decreases-write_table-loop-index : goal.decreases-write_table-loop-index
decreases-write_table-loop-index l = length l.keys - l.index

abbrev pub invariant-write_elements-loop-left : goal.invariant-write_elements-loop-left
invariant-write_elements-loop-left l =
    let write = written_to hyphenated (schema_of l.schema) l.depth in
    record {
      texts : AreTexts l.values;
      so_far : spliced l.nodes.items (tables_written write l.number l.left l.values) ≡ tables_written write l.number l.count l.fn.values;
    }

abbrev pub decreases-write_elements-loop-left : goal.decreases-write_elements-loop-left
decreases-write_elements-loop-left l = l.left

abbrev pub decreases-write_table : goal.decreases-write_table
decreases-write_table l = 6 * l.depth

abbrev pub decreases-write_key : goal.decreases-write_key
decreases-write_key l = 6 * l.depth + 5

abbrev pub decreases-write_node : goal.decreases-write_node
decreases-write_node l = 6 * l.depth + 4

abbrev pub decreases-write_tables : goal.decreases-write_tables
decreases-write_tables l = 6 * l.depth + 3

abbrev pub decreases-write_elements : goal.decreases-write_elements
decreases-write_elements l = 6 * l.depth + 2

abbrev pub decreases-write_inner : goal.decreases-write_inner
decreases-write_inner l = 6 * l.depth + 1
