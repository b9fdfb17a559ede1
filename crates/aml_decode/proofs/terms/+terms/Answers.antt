use Rattle.std.proofs.Common.{◌+◌, ◌≤◌, [], ◌∷◌, length, map, drop, ap, ◌∙◌, arith, length-drop}
use Rattle.std.proofs.lemmas.Result.{err_from_is_err_and}
use Rattle.std.proofs.lemmas.List.{take_rest, map-append}
use Rattle.aml_terms.specs.Trees.{view}
use Rattle.aml_terms.specs.Reading.{term_behind, value_at, term_at, all_in}
use Rattle.aml_decode.specs.Rooms.{inside_at}
use Rattle.aml_decode.proofs.Each.{with_front, next_read, next_bad, none_left}
use Rattle.aml_decode.proofs.Led.{led_none, led_bad, led_read}
use Rattle.aml_decode.proofs.Levels.{term_led, term_moves}
use Rattle.aml_decode.proofs.terms.+terms.Goals as goal

pub read_term-returns-in_err-byte-clause-term : goal.read_term-returns-in_err-byte-clause-term
read_term-returns-in_err-byte-clause-term t c =
    let p = err_from_is_err_and c.from_residual.result c.from_residual.ensures.1 in
    rw (p.1, p.2, term_led)
    (led_none (λ byte. term_behind (value_at c.args.room) (inside_at c.args.room)) c.in_err-byte.field-0.0 c.args.place c.args.text.now
    c.in_err-byte.ensures.byte)

pub read_term-returns-in_err-term-clause-term : goal.read_term-returns-in_err-term-clause-term
read_term-returns-in_err-term-clause-term t c =
    let p = err_from_is_err_and c.from_residual-in_err-term.result c.from_residual-in_err-term.ensures.1 in
    rw (p.1, p.2, term_led)
    (led_bad (λ byte. term_behind (value_at c.args.room) (inside_at c.args.room)) c.in_err-term.field-0.0 c.args.place c.in_ok-byte.byte c.args.text.now
    c.of.result c.of.ensures.opcode c.in_ok-byte.ensures.byte c.in_err-term.ensures.term)

pub read_term-returns-clause-term : goal.read_term-returns-clause-term
read_term-returns-clause-term t c =
    rw term_led
    (led_read (λ byte. term_behind (value_at c.args.room) (inside_at c.args.room)) c.args.place c.in_ok-byte.byte c.args.text.now c.of.result
    c.in_ok-term.term c.behind.result c.of.ensures.opcode c.in_ok-byte.ensures.byte c.in_ok-term.ensures.term c.behind.ensures.value c.behind.ensures.size)

pub read_terms-returns-in_err-found : goal.read_terms-returns-in_err-found
read_terms-returns-in_err-found t c =
    let p = err_from_is_err_and c.from_residual.result c.from_residual.ensures.1 in
    rw (p.1, p.2)
    (next_bad (term_at c.args.room) (term_moves c.args.room) c.in_err-found.field-0.0 c.args.place c.loop-size.size c.args.text.now
    (map view c.loop-size.terms) _ (omega arith) c.in_err-found.ensures.term c.loop-size.invariant.all)

pub read_terms-loop-size-preserved : goal.read_terms-loop-size-preserved
read_terms-loop-size-preserved t c =
    let within : c.in_ok-found.found.size ≤ length (drop c.loop-size.size c.args.text.now) = rw take_rest at c.in_ok-found.ensures.within in
    let size = c.loop-size.size + c.in_ok-found.found.size in
    record {
      all =
          ap (λ front. with_front front (all_in (term_at c.args.room) (c.args.place + size) (drop size c.args.text.now)))
          (ap (map view) c.in_ok-push.ensures.ok ∙ map-append view c.loop-size.terms (c.in_ok-found.found.value ∷ []))
          ∙ next_read (term_at c.args.room) (term_moves c.args.room) c.args.place c.loop-size.size c.in_ok-found.found.size c.args.text.now
          (map view c.loop-size.terms) (view c.in_ok-found.found.value) _ (omega arith) c.in_ok-found.ensures.term c.loop-size.invariant.all;
      within = omega (arith, within, length-drop c.loop-size.size c.args.text.now);
    }

pub read_terms-returns : goal.read_terms-returns
read_terms-returns t c =
    none_left (term_at c.args.room) (term_moves c.args.room) c.args.place c.loop-size.size c.args.text.now
    (map view c.loop-size.terms) _ (omega arith) c.loop-size.invariant.all
