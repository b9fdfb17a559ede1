use Rattle.resource_items.proofs.OneItem.{same_item, same_bytes}
use Rattle.resource_items.proofs.laws.no_item_is_the_front_of_another.Goals as goal

pub returns : goal.returns
returns c = record { same = same_item; whole = same_bytes }
