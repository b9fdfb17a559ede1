use Rattle.std.proofs.Common.{◌+◌, ◌++◌, take, Ok, sym, ap, ◌∙◌, arith}
use Rattle.std.proofs.lemmas.List.Sums.{prefix_len-le-length}
use Rattle.aml_decode.specs.Chars.{is_char}
use Rattle.aml_decode.proofs.Views.{view-chars}
use Rattle.aml_decode.proofs.CharCounts.{text_cut, text_bad, text_found}
use Rattle.aml_decode.proofs.values.read_chars.Goals as goal

pub returns-then-count-text-clause-chars : goal.returns-then-count-text-clause-chars
returns-then-count-text-clause-chars c = text_cut c.args.place c.char_count-count.result c.args.text.now c.char_count-count.ensures c.if-count-text.true

pub bounds-text-count : goal.bounds-text-count
bounds-text-count c = omega (arith, prefix_len-le-length is_char c.args.text.now)

pub returns-then-text-count-ne0-clause-chars : goal.returns-then-text-count-ne0-clause-chars
returns-then-text-count-ne0-clause-chars c =
    text_bad c.args.place c.char_count-count.result c.args.text.now c.char_count-count.ensures (omega (arith, prefix_len-le-length is_char c.args.text.now))
    c.if-text-count-ne0.true

pub returns-clause-chars : goal.returns-clause-chars
returns-clause-chars c =
    text_found c.args.place c.char_count-count.result c.args.text.now c.extend.new.self c.char_count-count.ensures
    (omega (arith, prefix_len-le-length is_char c.args.text.now)) c.if-text-count-ne0.false
    (c.in_ok-extend.ensures.ok ∙ ap (λ front. front ++ take c.char_count-count.result c.args.text.now) c.new-chars.ensures)
    ∙ ap (λ t. Ok (t, c.char_count-count.result + 1)) (sym (view-chars c.extend.new.self))
