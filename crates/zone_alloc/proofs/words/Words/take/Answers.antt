use Rattle.std.proofs.Common.{◌+◌}
use Rattle.zone_alloc.proofs.Drawn.{drawn}
use Rattle.zone_alloc.proofs.words.Words.take.Goals as goal

pub returns : goal.returns
returns c =
    λ seed k next. drawn seed (k + 1) c.next_word-self.result c.args.self.now.rest c.next_word-self.new.self c.next_word-self.ensures next.1
