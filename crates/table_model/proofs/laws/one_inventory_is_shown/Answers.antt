use Rattle.table_model.proofs.OneInventory.{one_inventory}
use Rattle.table_model.proofs.laws.one_inventory_is_shown.Goals as goal

pub returns : goal.returns
returns c = one_inventory
