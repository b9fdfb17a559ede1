use Rattle.std.proofs.Common.{rules, tests, sym, ap, ◌∙◌, option_map}
use Rattle.std.proofs.lemmas.Iterator.{YieldsList-from_slice}
use Rattle.std.proofs.lemmas.Iterator.Search.{find_from_yields_List}
use Rattle.std.specs.Str.{bytes_eq}
use Rattle.word_schema.specs.declared.schema.OptionSchema.{OptionSchema}
use Rattle.word_schema.specs.Forms.{row_of}
use Rattle.word_schema.proofs.Mapped.{find_mapped}
use Rattle.word_schema.proofs.given.row_named.Goals as goal

pub returns : goal.returns
returns c =
    let found = find_from_yields_List (λ (option : OptionSchema). bytes_eq option.name.now c.args.name.now) _ _ c.find.result c.find.ensures.ran
    (YieldsList-from_slice c.args.options.now cc) (λ x b q k. search (rules, tests)) in
    ap (option_map row_of) (c.copied.ensures ∙ found) ∙ sym (find_mapped _ row_of c.args.options.now)
