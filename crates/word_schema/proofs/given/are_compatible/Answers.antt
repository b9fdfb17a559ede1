use Rattle.std.proofs.Common.{rules, tests, sym, ◌∙◌, not, ◌&&◌}
use Rattle.std.proofs.lemmas.Iterator.{YieldsList-from_slice}
use Rattle.std.proofs.lemmas.Iterator.Search.{all_from_yields_List}
use Rattle.word_schema.specs.declared.schema.Exclusive.{Exclusive}
use Rattle.word_schema.specs.Forms.{pair_of}
use Rattle.word_schema.specs.Given.{is_given}
use Rattle.word_schema.specs.Steps.{options_given}
use Rattle.word_schema.proofs.Mapped.{all_of_mapped}
use Rattle.word_schema.proofs.given.are_compatible.Goals as goal

pub returns : goal.returns
returns c =
    let given = options_given c.args.given.now in
    let all = all_from_yields_List (λ (pair : Exclusive). not (is_given pair.one.now given && is_given pair.other.now given)) _ _ c.all.result c.all.ensures.ran
    (YieldsList-from_slice c.args.exclusive.now cc) (λ x b q k. search (rules, tests)) in
    all ∙ sym (all_of_mapped _ pair_of c.args.exclusive.now)
