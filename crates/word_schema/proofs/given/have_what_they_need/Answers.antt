use Rattle.std.proofs.Common.{rules, tests, sym, ◌∙◌, not}
use Rattle.std.proofs.lemmas.Iterator.{YieldsList-from_slice}
use Rattle.std.proofs.lemmas.Iterator.Search.{all_from_yields_List}
use Rattle.std.specs.Prelude.{◌||◌}
use Rattle.word_schema.specs.declared.schema.Need.{Need}
use Rattle.word_schema.specs.Forms.{need_of}
use Rattle.word_schema.specs.Given.{is_given}
use Rattle.word_schema.specs.Steps.{options_given}
use Rattle.word_schema.proofs.Mapped.{all_of_mapped}
use Rattle.word_schema.proofs.given.have_what_they_need.Goals as goal

pub returns : goal.returns
returns c =
    let given = options_given c.args.given.now in
    let all = all_from_yields_List (λ (need : Need). not (is_given need.one.now given) || is_given need.other.now given) _ _ c.all.result c.all.ensures.ran
    (YieldsList-from_slice c.args.needs.now cc) (λ x b q k. search (rules, tests)) in
    all ∙ sym (all_of_mapped _ need_of c.args.needs.now)
