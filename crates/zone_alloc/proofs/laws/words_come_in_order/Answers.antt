use Rattle.zone_alloc.proofs.Drawn.{words_in_order}
use Rattle.zone_alloc.proofs.laws.words_come_in_order.Goals as goal

pub returns : goal.returns
returns c = words_in_order
