use Rattle.std.proofs.Common.{◌+◌, take, arith, refl, sym, ◌∙◌}
use Rattle.std.proofs.lemmas.List.{length-take-le}
use Rattle.vt_outside.proofs.Results.{on_err}
use Rattle.smbios_decode.specs.Faults.{BeginsStrings}
use Rattle.smbios_decode.proofs.Pieces.{Begins, pieces, both_within, strings_begin, none_begin, no_strings}
use Rattle.smbios_decode.proofs.strings.read_strings.Goals as goal
use Rattle.smbios_decode.proofs.strings.read_strings.Goals.{then-end-eq0, else-end-eq0+in_ok-texts}

pub returns-in_default-clause-none : goal.returns-in_default-clause-none
returns-in_default-clause-none c = λ none. no_strings c.args.bytes.now (c.end_of_strings.ensures.none c.in_default.is)

pub slice_bounds-texts_in-end : goal.slice_bounds-texts_in-end
slice_bounds-texts_in-end c =
    let within = both_within c.args.bytes.now c.in-Some.end c.in-Some.ensures.some.0 in
    sym (length-take-le c.in-Some.end c.args.bytes.now (omega arith))

pub overflow_add-result : goal.overflow_add-result
overflow_add-result c = omega (arith, both_within c.args.bytes.now c.in-Some.end c.in-Some.ensures.some.0)

pub returns-in_err-texts-clause-no_memory : goal.returns-in_err-texts-clause-no_memory
returns-in_err-texts-clause-no_memory c =
    let bytes = c.args.bytes.now in
    let strings = pieces (take c.in-Some.end bytes) in
    let begins = strings_begin bytes c.in-Some.end strings c.in-Some.ensures.some c.if-end-eq0.false refl in
    on_err c.from_residual.result (BeginsStrings bytes) (strings, begins.rest, begins.are, begins.split)

pub returns-clause-found : goal.returns-clause-found
returns-clause-found c =
    let begins : Begins c.args.bytes.now (c.in-Some.end + 2) c.if-end-eq0.texts =
    elim c.if-end-eq0.branch [
      | then-end-eq0 w ↦
          none_begin c.args.bytes.now c.in-Some.end c.if-end-eq0.texts c.in-Some.ensures.some w.if-end-eq0.true (w.texts-is ∙ w.new-texts.ensures)
      | else-end-eq0+in_ok-texts w ↦
          strings_begin c.args.bytes.now c.in-Some.end c.if-end-eq0.texts c.in-Some.ensures.some w.if-end-eq0.false
          (w.texts-is ∙ w.in_ok-texts.ensures)
    ] in
    (begins.are, begins.sized, begins.rest, begins.split)
