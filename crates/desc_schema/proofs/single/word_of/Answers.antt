use Rattle.std.proofs.Common.{sym, ◌∙◌}
use Rattle.desc_schema.proofs.OneValue.{word_found, word_passed, no_word}
use Rattle.desc_schema.proofs.single.word_of.Goals as goal

pub returns-then-eq : goal.returns-then-eq
returns-then-eq c = word_found c.args.at c.loop-place.place c.args.words.now _ c.args.text.now _ c.loop-place-test.true
    (sym c.eq.ensures ∙ c.if-eq.true) c.loop-place.invariant

pub loop-place-preserved : goal.loop-place-preserved
loop-place-preserved c = word_passed c.args.at c.loop-place.place c.args.words.now _ c.args.text.now _ c.loop-place-test.true
    (sym c.eq.ensures ∙ c.if-eq.false) c.loop-place.invariant

pub returns : goal.returns
returns c = rw c.out_of_range.ensures (no_word c.args.at c.loop-place.place c.args.words.now c.args.text.now _ c.loop-place-test.false c.loop-place.invariant)
