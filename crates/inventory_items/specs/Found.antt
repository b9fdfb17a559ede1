-- What is found where two inventories are asked some of the items, one after the other.
use Rattle.std.specs.Prelude.{ℕ, List, Option, MatchOption}
use Rattle.table_model.specs.declared.inventory.Inventory.{Inventory}
use Rattle.inventory_items.specs.Items.{AgreeInAll, IsFirstDifference}

-- None where they agree in all of them; else the number of the first in which they don't, where the first of them has this number.
abbrev pub IsFound : ℕ → List (Inventory → Inventory → Type 0) → Inventory → Inventory → Option ℕ → Type 0
IsFound number some a b found = MatchOption found (AgreeInAll some a b) (IsFirstDifference number some a b)
