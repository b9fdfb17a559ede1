use Rattle.std.proofs.Common.{◌≡◌, ◌∷◌, ℕ, List, map, length, string_bytes, arith, ap, sym, ◌∙◌}
use Rattle.std.proofs.lemmas.Grind.{common_steps}
use Rattle.word_schema.specs.Forms.{rows_of}
use Rattle.word_schema.specs.Given.{given_by}
use Rattle.word_schema.specs.Steps.{options_given}
use Rattle.word_schema.proofs.Fronts.{behind, given_done}
use Rattle.word_schema.proofs.Counting.{given_full, length-rows_of}
use Rattle.word_schema.proofs.Walking.{map_nothing}
use Rattle.word_schema.proofs.given.given_by.Goals as goal

pub returns-in_err-ok-clause-none : goal.returns-in_err-ok-clause-none
returns-in_err-ok-clause-none c =
    let full : length c.loop-name.given.items ≡ 16 = grind (arith, common_steps, c.try_push.ensures.full, c.in_err-ok.ensures) in
    let rows = rows_of c.args.options.now in
    let after = map string_bytes c.in-Some.after.now in
    λ none.
    given_full rows (map string_bytes c.args.words.now) c.loop-name.given.items c.in_ok-option.option (given_by rows (c.as_str.result.now ∷ after)) _
    (omega (arith, length-rows_of c.args.options.now)) c.in_ok-option.ensures.option
    (c.loop-name.invariant
    ∙ ap (λ (words : List (List ℕ)). behind (options_given c.loop-name.given.items) (given_by rows words))
    (ap (map string_bytes) c.in-Some.ensures.cases.0 ∙ ap (λ (name : List ℕ). name ∷ after) (sym c.as_str.ensures.value)))

pub returns-clause-some : goal.returns-clause-some
returns-clause-some c =
    given_done (rows_of c.args.options.now) c.loop-name.given.items (map string_bytes c.loop-name.rest.now) _
    (map_nothing string_bytes c.loop-name.rest.now c.in_default.ensures.cases) c.loop-name.invariant
