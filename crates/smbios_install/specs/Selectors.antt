-- The selector of a file that is added.
use Rattle.std.specs.Prelude.{ℕ, zero, suc, ◌+◌, Bool, ◌==◌, List, [], ◌∷◌, length, max, nat_le, if◌then◌else◌}
use Rattle.std.specs.List.{list_any}
use Rattle.cfg_directory.specs.declared.item.Item.{Item}

-- the greatest selector of items, or 0 where there are none
abbrev pub greatest_select : List Item → ℕ
greatest_select [] = 0
greatest_select (item ∷ items) = max item.select (greatest_select items)

-- whether an item has the selector
abbrev pub is_taken : List Item → ℕ → Bool
is_taken items select = list_any (λ (item : Item). item.select == select) items

-- the least selector from one on that no item has, of as many as there are items and one more
abbrev pub least_free : List Item → ℕ → ℕ → ℕ
least_free items zero from = from
least_free items (suc left) from = if is_taken items from then least_free items left (suc from) else from

-- One above the greatest selector, or where that is no file's the least one from 0x20 on that no item has.
abbrev pub next_select : List Item → ℕ
next_select items =
    let next = greatest_select items + 1 in
    if nat_le next 0x3FFF then next else least_free items (length items) 0x20
