use Rattle.resource_decode.proofs.OneItem.{item_back, item_stands}
use Rattle.resource_decode.proofs.laws.an_item_is_read_where_it_stands.Goals as goal

pub returns : goal.returns
returns c = record { written = item_back; read = item_stands }
