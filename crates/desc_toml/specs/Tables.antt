-- What a description's tables say of a machine: each key by the schema, in its order.
use Rattle.std.specs.Prelude.{◌≡◌, ℕ, List, Some}
use Rattle.std.specs.Str.{IsUtf8}
use Rattle.toml.specs.Data.{Members}
use Rattle.toml.specs.Parse.{parse_document}
use Rattle.desc_schema.specs.declared.value.Value.{Value}
use Rattle.desc_schema.specs.Says.{Says}
use Rattle.machine_desc.specs.Rules.{IsAccepted}
use Rattle.machine_desc.specs.declared.machine.Machine.{Machine}
use Rattle.desc_toml.specs.Keys.{schema}
use Rattle.desc_toml.specs.Values.{machine_of}

-- The bytes describe a machine: they are the text of a document, its tables say values by the schema, the machine is the one of these
-- values, and it keeps the rules.
pub record Describes (bytes : List ℕ) (m : Machine) : Type 0 where
  pub text : IsUtf8 bytes
  pub tables : (root : Members) × (values : List Value) × (parse_document bytes ≡ Some root) × Says schema root values × (m ≡ machine_of values)
  pub accepted : IsAccepted m
