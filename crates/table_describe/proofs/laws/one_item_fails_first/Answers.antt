use Rattle.std.proofs.Common.{refl}
use Rattle.table_model.specs.Inventory.{inventory_of}
use Rattle.table_describe.proofs.Failing.{none_fails, one_fails_first}
use Rattle.table_describe.proofs.laws.one_item_fails_first.Goals as goal

pub returns-clause-one : goal.returns-clause-one
returns-clause-one c = one_fails_first

pub returns-clause-none : goal.returns-clause-none
returns-clause-none c = λ m item accepted fits failing. none_fails (inventory_of m) m item accepted fits refl failing
