use Rattle.std.proofs.Common.{rules, tests, sym, ◌∙◌}
use Rattle.std.proofs.lemmas.Iterator.{YieldsList-from_slice}
use Rattle.std.proofs.lemmas.Iterator.Search.{any_from_yields_List}
use Rattle.std.specs.Str.{bytes_eq}
use Rattle.word_schema.specs.declared.given.Given.{Given as CodeGiven}
use Rattle.word_schema.proofs.Mapped.{any_of_mapped}
use Rattle.word_schema.specs.Steps.{option_given}
use Rattle.word_schema.proofs.given.is_given.Goals as goal

pub returns : goal.returns
returns c =
    let any = any_from_yields_List (λ (option : CodeGiven). bytes_eq option.name.now c.args.name.now) _ _ c.any.result c.any.ensures.ran
    (YieldsList-from_slice c.args.given.now cc) (λ x b q k. search (rules, tests)) in
    any ∙ sym (any_of_mapped _ option_given c.args.given.now)
