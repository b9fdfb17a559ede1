use Rattle.std.proofs.Common.{refl}
use Rattle.desc_schema.proofs.WriterSteps.{word_within, word_past}
use Rattle.desc_schema.proofs.writing.word_of.Goals as goal

pub returns-in_ok-string_node-in-Some : goal.returns-in_ok-string_node-in-Some
returns-in_ok-string_node-in-Some c =
    rw (
      c.in-Word.is,
      word_within c.args.words.now c.in-Word.place c.in-Some.word.now c.in-Some.ensures.lookup.3.0 c.in-Some.ensures.lookup.1,
      c.in_ok-string_node-in-Some.ensures,
    ) refl

pub returns-in-None : goal.returns-in-None
returns-in-None c = rw (c.in-Word.is, word_past c.args.words.now c.in-Word.place c.in-None.ensures.lookup.3) refl
