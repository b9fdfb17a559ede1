-- What bytes are read as: a machine, or the first fault. The bytes are a TOML document (TOML 1.1) in UTF-8.
use Rattle.std.specs.Prelude.{◌≡◌, ℕ, List, Option, Some, None, Result, Ok, Err, if◌then◌else◌}
use Rattle.std.specs.Str.{is_utf8}
use Rattle.vt_outside.specs.Readings.{◌into◌}
use Rattle.std.specs.Option.{ok_or}
use Rattle.toml.specs.Data.{Members}
use Rattle.toml.specs.Parse.{parse_document}
use Rattle.desc_schema.specs.declared.value.Value.{Value}
use Rattle.desc_schema.specs.declared.fault.WalkFault.{WalkFault}
use Rattle.desc_schema.specs.declared.fault.WalkFault.TheVariants as walk
use Rattle.desc_schema.specs.Walk.{walked}
use Rattle.machine_desc.specs.declared.machine.Machine.{Machine}
use Rattle.machine_desc.specs.declared.machine.Broken.{Broken as BrokenRule}
use Rattle.machine_desc.specs.Rules.{broken_rule}
use Rattle.desc_toml.specs.declared.fault.DescFault.{DescFault}
use Rattle.desc_toml.specs.declared.fault.DescFault.TheVariants.{NotToml, UnknownKey, MissingKey, WrongKind, OutOfRange, Broken, OutOfMemory}
use Rattle.desc_toml.specs.Keys.{schema}
use Rattle.desc_toml.specs.Values.{machine_of}

-- the bytes of a text
abbrev pub text_in : List ℕ → Result (List ℕ) DescFault
text_in bytes = if is_utf8 bytes then Ok bytes else Err NotToml

-- the root table of a document
abbrev pub root_in : List ℕ → Result Members DescFault
root_in text = ok_or (parse_document text) NotToml

-- the fault of a walk, as the reader tells it
abbrev pub told : WalkFault → DescFault
told (walk.UnknownKey place key) = UnknownKey place.table place.index key
told (walk.MissingKey at) = MissingKey at.table at.index at.key
told (walk.WrongKind at) = WrongKind at.table at.index at.key
told (walk.OutOfRange at) = OutOfRange at.table at.index at.key

-- the values that a walk gives
abbrev pub values_found : Result (List Value) WalkFault → Result (List Value) DescFault
values_found (Ok values) = Ok values
values_found (Err fault) = Err (told fault)

unfoldable pub values_in : Members → Result (List Value) DescFault
values_in root = values_found (walked schema root)

-- a machine that breaks no rule; else the first rule that it breaks, with the least index at which it does
abbrev pub unless_broken : Machine → Option BrokenRule → Result Machine DescFault
unless_broken machine None = Ok machine
unless_broken machine (Some broken) = Err (Broken broken.rule broken.index)

abbrev pub accepted : Machine → Result Machine DescFault
accepted machine = unless_broken machine (broken_rule machine)

-- the machine that a text describes, whether or not it keeps the rules
abbrev pub machine_in : List ℕ → Result Machine DescFault
machine_in text = root_in text into λ root. values_in root into λ values. Ok (machine_of values)

-- what bytes are read as
abbrev pub read_of : List ℕ → Result Machine DescFault
read_of bytes = text_in bytes into λ text. machine_in text into accepted

-- the bytes are read as a machine
abbrev pub Reads : List ℕ → Machine → Type 0
Reads bytes machine = read_of bytes ≡ Ok machine

-- the fault of bytes that aren't read as a machine
abbrev pub fault_in : Result Machine DescFault → Option DescFault
fault_in (Ok machine) = None
fault_in (Err fault) = Some fault

abbrev pub fault_of : List ℕ → Option DescFault
fault_of bytes = fault_in (read_of bytes)

-- the fault that an error reports, or none where memory ran out
abbrev pub reported : DescFault → Option DescFault
reported OutOfMemory = None
reported fault = Some fault
