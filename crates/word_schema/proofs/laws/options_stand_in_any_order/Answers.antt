use Rattle.word_schema.proofs.Orders.{any_order}
use Rattle.word_schema.proofs.laws.options_stand_in_any_order.Goals as goal

pub returns : goal.returns
returns c = any_order
