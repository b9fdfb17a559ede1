-- A machine is read from bytes exactly where they describe it.
use Rattle.std.proofs.Common.{◌≡◌, ℕ, List, Option, Some, None, Result, Ok, Err, sym, ap, ◌∙◌, ⊎_elim}
use Rattle.std.proofs.lemmas.Bool.{cases_Bool}
use Rattle.std.proofs.lemmas.Str.{IsUtf8-from_is_utf8}
use Rattle.std.specs.Str.{is_utf8}
use Rattle.vt_outside.specs.Readings.{◌into◌}
use Rattle.std.specs.Option.{ok_or}
use Rattle.vt_outside.proofs.Readings.{part_read}
use Rattle.toml.specs.Data.{Members}
use Rattle.toml.specs.Parse.{parse_document}
use Rattle.machine_desc.specs.declared.machine.Machine.{Machine}
use Rattle.machine_desc.specs.Rules.{broken_rule}
use Rattle.desc_schema.specs.declared.value.Value.{Value}
use Rattle.desc_schema.specs.declared.fault.WalkFault.{WalkFault}
use Rattle.desc_schema.specs.Walk.{walked}
use Rattle.desc_schema.specs.Says.{Says}
use Rattle.desc_schema.proofs.Saying.{walked_says}
use Rattle.desc_toml.specs.declared.fault.DescFault.{DescFault}
use Rattle.desc_toml.specs.declared.fault.DescFault.TheVariants.{NotToml}
use Rattle.desc_toml.specs.Keys.{schema}
use Rattle.desc_toml.specs.Values.{machine_of}
use Rattle.desc_toml.specs.Reading.{root_in, values_found, values_in, machine_in, unless_broken, accepted, Reads}
use Rattle.desc_toml.specs.Tables.{Describes}
use Rattle.desc_toml.proofs.Steps.{read_of_text}
use Rattle.desc_toml.proofs.OneMachine.{kept, read_accepted}

-- from what the tables say

described_in : (text : List ℕ) (root : Members) (values : List Value) (m : Machine) → parse_document text ≡ Some root → Says schema root values
    → m ≡ machine_of values → machine_in text ≡ Ok m
unfolding values_in
described_in text root values m parsed says made = rw (parsed, (walked_says schema root values).1 says) (ap Ok (sym made))

pub reads_described : (bytes : List ℕ) (m : Machine) → Describes bytes m → Reads bytes m
reads_described bytes m is =
    let (root, values, parsed, says, made) = is.tables in
    read_of_text bytes is.text ∙ rw (described_in bytes root values m parsed says made) (ap (unless_broken m) is.accepted)

-- from what is read

abbrev no_machine : Result Machine DescFault
no_machine = Err NotToml

abbrev some_machine : Machine → Result Machine DescFault
some_machine m = Ok m

not_read : (m : Machine) → no_machine ≡ Ok m → ⊥
not_read m is = cc

same_machine : (a b : Machine) → some_machine a ≡ Ok b → b ≡ a
same_machine a b is = cc

root_read : (found : Option Members) (root : Members) → ok_or found NotToml ≡ Ok root → found ≡ Some root
root_read None root is = absurd (cc)
root_read (Some other) root is = cc

values_read : (found : Result (List Value) WalkFault) (values : List Value) → values_found found ≡ Ok values → found ≡ Ok values
values_read (Ok other) values is = cc
values_read (Err fault) values is = absurd (cc)

pub described_reads : (bytes : List ℕ) (m : Machine) → Reads bytes m → Describes bytes m
unfolding values_in
described_reads bytes m is =
    ⊎_elim
    (λ utf8.
    let text = IsUtf8-from_is_utf8 bytes utf8 in
    let (found, read, keeps) = part_read (machine_in bytes) accepted m (sym (read_of_text bytes text) ∙ is) in
    let (root, parsed, of_root) = part_read (root_in bytes) (λ root. values_in root into λ values. Ok (machine_of values)) found read in
    let (values, gave, made) = part_read (values_in root) (λ values. Ok (machine_of values)) found of_root in
    let says = (walked_says schema root values).0 (values_read (walked schema root) values gave) in
    let this : m ≡ machine_of values = sym (kept found m (broken_rule found) keeps).0 ∙ same_machine (machine_of values) found made in
    record { text = text; tables = (root, values, root_read (parse_document bytes) root parsed, says, this); accepted = read_accepted bytes m is })
    (λ other. absurd (not_read m (rw other at is)))
    (cases_Bool (is_utf8 bytes))

-- the values of a machine that is read are those of a walk
pub values_walked : (bytes : List ℕ) (m : Machine) → Reads bytes m
    → (root : Members) × (values : List Value) × (walked schema root ≡ Ok values) × (m ≡ machine_of values)
values_walked bytes m is =
    let (root, values, parsed, says, made) = (described_reads bytes m is).tables in
    (root, values, (walked_says schema root values).1 says, made)
