-- What files that may be written held once, and the items with it put back.
use Rattle.std.specs.Prelude.{◌≡◌, ℕ, true, List, [], ◌∷◌, length, map, if◌then◌else◌}
use Rattle.cfg_directory.specs.declared.item.Item.{Item}

-- what a file that may be written holds, and no bytes of any other
abbrev pub kept_bytes : Item → List ℕ
kept_bytes item = if item.writable then item.bytes else []

-- the same of each item, in order
abbrev pub kept_of : List Item → List (List ℕ)
kept_of items = map kept_bytes items

-- an item with these bytes where it may be written, and as it is otherwise
abbrev pub restored_item : Item → List ℕ → Item
restored_item item bytes = if item.writable then record item { bytes = bytes } else item

-- the same of each item, in order, as far as there are bytes
abbrev pub restored : List Item → List (List ℕ) → List Item
restored [] kept = []
restored (item ∷ items) [] = item ∷ items
restored (item ∷ items) (bytes ∷ kept) = restored_item item bytes ∷ restored items kept

-- There are bytes for each item, as many as it has where it may be written.
abbrev pub AreKept : List Item → List (List ℕ) → Type 0
AreKept [] [] = Unit {0}
AreKept [] (bytes ∷ kept) = ⊥
AreKept (item ∷ items) [] = ⊥
AreKept (item ∷ items) (bytes ∷ kept) = (item.writable ≡ true → length bytes ≡ length item.bytes) × AreKept items kept
