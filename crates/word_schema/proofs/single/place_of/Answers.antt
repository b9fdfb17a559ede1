use Rattle.std.proofs.Common.{rules, tests, ◌∙◌, Bor, List, ℕ}
use Rattle.std.proofs.lemmas.Iterator.{YieldsList-from_slice}
use Rattle.std.proofs.lemmas.Iterator.Search.{position_from_yields_List}
use Rattle.std.specs.Str.{bytes_eq}
use Rattle.word_schema.proofs.Walking.{position_is_place}
use Rattle.word_schema.proofs.single.place_of.Goals as goal

pub returns : goal.returns
returns c =
    let found = position_from_yields_List (λ (other : Bor (List ℕ)). bytes_eq c.args.word.now other.now) _ _ c.position.result c.position.ensures.ran
    (YieldsList-from_slice c.args.words.now cc) (λ x b q k. search (rules, tests)) in
    found ∙ position_is_place c.args.word.now c.args.words.now
