use Rattle.std.proofs.Common.{map, string_bytes, ap}
use Rattle.word_schema.specs.Forms.{kind_of, form_of, row_of, rows_of}
use Rattle.word_schema.proofs.Walking.{none_named, flag_in_front, value_missing, no_value_in_front, some_value_in_front, map_nothing}
use Rattle.word_schema.proofs.given.first_given.Goals as goal

pub returns-in_err-option-clause-option : goal.returns-in_err-option-clause-option
returns-in_err-option-clause-option c = rw c.from_residual.ensures (none_named _ _ _ c.in_err-option.ensures)

pub returns-in_err-word-in-Valued-clause-option : goal.returns-in_err-word-in-Valued-clause-option
returns-in_err-word-in-Valued-clause-option c =
    rw c.from_residual-in_err-word-in-Valued.ensures
    (value_missing (rows_of c.args.options.now) (row_of c.in_ok-option.option) (form_of c.in-Valued.form) c.args.name.now (map string_bytes c.args.words.now)
    c.in_ok-option.ensures (ap kind_of c.in-Valued.is) (map_nothing string_bytes c.args.words.now c.in_err-word-in-Valued.ensures.cases))

pub returns-in_err-value-in-Valued-clause-option : goal.returns-in_err-value-in-Valued-clause-option
returns-in_err-value-in-Valued-clause-option c =
    rw c.from_residual-in_err-value-in-Valued.ensures
    (no_value_in_front (rows_of c.args.options.now) (row_of c.in_ok-option.option) (form_of c.in-Valued.form) c.args.name.now
    (string_bytes c.in_ok-word-in-Valued.word.now) c.as_str.result.now (map string_bytes c.args.words.now) (map string_bytes c.in_ok-word-in-Valued.behind.now)
    c.in_ok-option.ensures (ap kind_of c.in-Valued.is) (ap (map string_bytes) c.in_ok-word-in-Valued.ensures.cases.0) c.as_str.ensures.value
    c.in_err-value-in-Valued.ensures)

pub returns-in-Flag-clause-option : goal.returns-in-Flag-clause-option
returns-in-Flag-clause-option c =
    flag_in_front (rows_of c.args.options.now) (row_of c.in_ok-option.option) c.args.name.now (map string_bytes c.args.words.now)
    c.in_ok-option.ensures (ap kind_of c.in-Flag.is)

pub returns-in_ok-value-in-Valued-clause-option : goal.returns-in_ok-value-in-Valued-clause-option
returns-in_ok-value-in-Valued-clause-option c =
    some_value_in_front (rows_of c.args.options.now) (row_of c.in_ok-option.option) (form_of c.in-Valued.form) c.args.name.now
    (string_bytes c.in_ok-word-in-Valued.word.now) c.as_str.result.now (map string_bytes c.args.words.now) (map string_bytes c.in_ok-word-in-Valued.behind.now)
    c.in_ok-value-in-Valued.value
    c.in_ok-option.ensures (ap kind_of c.in-Valued.is) (ap (map string_bytes) c.in_ok-word-in-Valued.ensures.cases.0) c.as_str.ensures.value
    c.in_ok-value-in-Valued.ensures
