-- The document of an accepted machine is walked as its values, so that its text is read as the machine; and it can be printed.
use Rattle.std.proofs.Common.{◌≡◌, ℕ, ◌≤◌, true, List, Some, Ok, sym, arith}
use Rattle.std.specs.Str.{IsUtf8}
use Rattle.toml.specs.Data.{members_depth, members_have_valid_dates}
use Rattle.toml.specs.Parse.{parse_document}
use Rattle.desc_schema.specs.Walk.{walked}
use Rattle.desc_schema.specs.Written.{hyphenated, WrittenDocumentsAreShallow, WrittenDocumentsHaveValidDates}
use Rattle.desc_schema.proofs.Saying.{walked_says}
use Rattle.desc_schema.proofs.UuidText.{hyphenated_reads}
use Rattle.desc_schema.proofs.WalkedAgain.{written_walked}
use Rattle.machine_desc.specs.declared.machine.Machine.{Machine}
use Rattle.machine_desc.specs.Rules.{IsAccepted}
use Rattle.machine_desc.specs.Fields.{HasFittingFields}
use Rattle.desc_toml.specs.Keys.{schema}
use Rattle.desc_toml.specs.Printed.{values_of, document_of}
use Rattle.desc_toml.specs.Reading.{Reads}
use Rattle.desc_toml.proofs.Says.{reads_described}
use Rattle.desc_toml.proofs.SoundSchema.{sound_schema}
use Rattle.desc_toml.proofs.ValuedMachine.{machine_back, values_fit}

document_walked : (m : Machine) → IsAccepted m → HasFittingFields m → walked schema (document_of m) ≡ Ok (values_of m)
unfolding document_of
document_walked m accepted fits =
    written_walked hyphenated schema (values_of m) hyphenated_reads (sound_schema hyphenated) (values_fit m accepted fits)

pub printed_reads : (m : Machine) → IsAccepted m → HasFittingFields m → (text : List ℕ) → IsUtf8 text → parse_document text ≡ Some (document_of m)
    → Reads text m
printed_reads m accepted fits text utf8 parsed =
    let says = (walked_says schema (document_of m) (values_of m)).0 (document_walked m accepted fits) in
    reads_described text m (record {
      text = utf8;
      tables = (document_of m, values_of m, parsed, says, sym (machine_back m accepted fits));
      accepted = accepted;
    })

-- tables and arrays in it are inside one another few enough for the reader
pub document_shallow : WrittenDocumentsAreShallow → (m : Machine) → members_depth (document_of m) ≤ 80
unfolding document_of
document_shallow shallow m = omega (arith, shallow hyphenated schema (values_of m))

pub document_dated : WrittenDocumentsHaveValidDates → (m : Machine) → members_have_valid_dates (document_of m) ≡ true
unfolding document_of
document_dated dated m = dated hyphenated schema (values_of m)
