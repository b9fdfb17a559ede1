use Rattle.std.proofs.Common.{◌≡◌}
use Rattle.toml.specs.View.{table_view}
use Rattle.desc_schema.specs.Form.{fields_of}
use Rattle.desc_schema.specs.Walk.{all_known}
use Rattle.desc_schema.proofs.Known.{names_known}
use Rattle.desc_schema.proofs.walk.only_known.Given as goal

abbrev pub invariant-loop-name : goal.invariant-loop-name
invariant-loop-name l = all_known l.place (fields_of l.keys) (table_view l.table) ≡ names_known l.place (fields_of l.keys) l.name-iterator
