use Rattle.std.proofs.Common.{◌∙◌}
use Rattle.zone_alloc.proofs.Drawn.{first_generator, drawn}
use Rattle.zone_alloc.proofs.words.Words.of_seed.Goals as goal

pub returns : goal.returns
returns c =
    drawn c.args.seed 0 c.next_word-next.result c.seed_from_u64-rest.result c.next_word-next.new.self c.next_word-next.ensures
    (c.seed_from_u64-rest.ensures ∙ first_generator c.args.seed)
