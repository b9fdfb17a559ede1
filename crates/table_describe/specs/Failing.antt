-- Why an inventory is no machine's: the first item that fails.
use Rattle.std.specs.Prelude.{◌≡◌, ℕ, ◌⊎◌}
use Rattle.machine_desc.specs.Rules.{IsAccepted}
use Rattle.table_model.specs.declared.inventory.Inventory.{Inventory}
use Rattle.table_model.specs.Inventory.{inventory_of}
use Rattle.inventory_items.specs.Items.{items, IsFirstDifference}
use Rattle.table_describe.specs.Candidate.{candidate}

-- Item 0 fails where the candidate breaks a rule. Else its inventory is compared, item by item, and the first that differs fails.
abbrev pub IsFirstFailing : Inventory → ℕ → Type 0
IsFirstFailing i item =
    ((item ≡ 0) × (IsAccepted (candidate i) → ⊥))
    ⊎ (IsAccepted (candidate i) × IsFirstDifference 1 items i (inventory_of (candidate i)) item)
