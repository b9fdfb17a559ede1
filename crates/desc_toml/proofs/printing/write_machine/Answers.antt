use Rattle.std.proofs.Common.{◌≡◌, ℕ, List, Some, Result, Ok, Err, IfOk, sym, subst}
use Rattle.toml.specs.Parse.{parse_document}
use Rattle.desc_toml.specs.Printed.{document_of}
use Rattle.desc_toml.specs.Reading.{Reads}
use Rattle.desc_toml.proofs.Printed.{printed_reads, document_shallow, document_dated}
use Rattle.desc_toml.proofs.printing.write_machine.Goals as goal

pub text_of-requires-clause-shallow : goal.text_of-requires-clause-shallow
text_of-requires-clause-shallow c = rw c.in_ok-table.ensures (document_shallow c.written_documents_are_shallow.ensures c.args.machine.now)

pub text_of-requires-clause-dated : goal.text_of-requires-clause-dated
text_of-requires-clause-dated c = rw c.in_ok-table.ensures (document_dated c.written_documents_have_valid_dates.ensures c.args.machine.now)

-- what holds of a text holds of its bytes
of_bytes : {E : Type 0} (P : List ℕ → Type 0) (text : List ℕ) (result : Result (List ℕ) E) → P text → IfOk result (λ bytes. bytes ≡ text)
    → IfOk result P
of_bytes P text (Ok bytes) has same = subst P (sym same) has
of_bytes P text (Err e) has same = tt

pub returns-clause-document : goal.returns-clause-document
returns-clause-document c =
    let text = c.as_str.result.now in
    let parsed : parse_document text ≡ Some (document_of c.args.machine.now) = cc (c.as_str.ensures.value, c.in_ok-text.ensures, c.in_ok-table.ensures) in
    of_bytes (λ bytes. parse_document bytes ≡ Some (document_of c.args.machine.now)) text c.bytes_of.result parsed c.bytes_of.ensures

pub returns-clause-read : goal.returns-clause-read
returns-clause-read c =
    let text = c.as_str.result.now in
    let parsed : parse_document text ≡ Some (document_of c.args.machine.now) = cc (c.as_str.ensures.value, c.in_ok-text.ensures, c.in_ok-table.ensures) in
    of_bytes (λ bytes. Reads bytes c.args.machine.now) text c.bytes_of.result
    (printed_reads c.args.machine.now c.requires c.numbers_of_a_machine_fit.ensures text c.as_str.utf8 parsed) c.bytes_of.ensures
