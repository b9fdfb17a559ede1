-- No item is the front of another.
use Rattle.std.proofs.Common.{◌≡◌, ℕ, List, ◌++◌, Ok, sym, ap, ◌∙◌}
use Rattle.resource_items.specs.declared.resource_item.ResourceItem.{ResourceItem}
use Rattle.resource_items.specs.Templates.{FitsItem, item_bytes}
use Rattle.resource_items.proofs.ReadItems.{item_in, item_back}

-- what is read of the same bytes is the same
pub same_item : (a b : ResourceItem) (x y : List ℕ) → FitsItem a → FitsItem b → item_bytes a ++ x ≡ item_bytes b ++ y → a ≡ b
same_item a b x y fits_a fits_b same =
    let read : Ok a ≡ Ok b = sym (item_back a x fits_a) ∙ ap item_in same ∙ item_back b y fits_b in
    cc read

pub same_bytes : (a b : ResourceItem) (x y : List ℕ) → FitsItem a → FitsItem b → item_bytes a ++ x ≡ item_bytes b ++ y
    → item_bytes a ≡ item_bytes b
same_bytes a b x y fits_a fits_b same = ap item_bytes (same_item a b x y fits_a fits_b same)
