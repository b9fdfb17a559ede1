use Rattle.std.proofs.Common.{arith, rules, tests}
use Rattle.std.proofs.lemmas.Bool.Decides.{nat_tests}
use Rattle.std.proofs.lemmas.Iterator.{YieldsList-from_slice}
use Rattle.std.proofs.lemmas.Iterator.Search.{position_from_yields_List}
use Rattle.std.proofs.lemmas.List.Sums.{prefix_len-le-length}
use Rattle.image_files.specs.Files.{ImageFile, is_not_behind}
use Rattle.image_files.proofs.by_name.place_among.Goals as goal

pub returns-clause-first : goal.returns-clause-first
returns-clause-first c =
    let found = position_from_yields_List (λ (other : ImageFile). is_not_behind c.args.name other.name) _ _ c.position.result c.position.ensures.ran
    (YieldsList-from_slice c.args.files.now cc) (λ x b q k. search (rules, tests)) in
    grind (arith, nat_tests, prefix_len-le-length)
