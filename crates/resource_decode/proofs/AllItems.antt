-- Items that stand one after the other: how many are looked for doesn't matter, and those of a template are read.
use Rattle.std.proofs.Common.{◌≡◌, ℕ, zero, suc, ◌<◌, ◌≤◌, List, [], ◌∷◌, ◌++◌, length, drop, Option, Some, None, refl, sym, ap, ◌∙◌, arith, append_assoc}
use Rattle.std.specs.List.{AllByRecursion, flat_map}
use Rattle.std.proofs.lemmas.List.{length-append}
use Rattle.std.proofs.Math.Seq.{drop-append_seam}
use Rattle.resource_items.specs.declared.resource_item.ResourceItem.{ResourceItem}
use Rattle.resource_items.specs.Templates.{FitsItem, item_bytes, end_tag, template_of}
use Rattle.resource_decode.specs.Items.{first_item, behind_item, items_behind, items_from, items_in}
use Rattle.resource_decode.proofs.OneItem.{item_back, item_stands, item_some}

-- an item that is read is within the bytes, and fewer are left behind it
pub record IsWithin (bytes : List ℕ) (item : ResourceItem) : Type 0 where
  pub within : length (item_bytes item) ≤ length bytes
  pub fewer : length (behind_item item bytes) < length bytes

-- as the item stands there and has bytes
pub item_within : (bytes : List ℕ) (item : ResourceItem) → first_item bytes ≡ Some item → IsWithin bytes item
item_within bytes item is =
    let there = item_stands bytes item is in
    let own = item_bytes item in
    let long = ap length there.1 ∙ length-append own there.0 in
    let left = ap (λ these. length (drop (length own) these)) there.1 ∙ ap length (drop-append_seam own there.0) in
    let some = item_some item in
    record { within = omega (arith, long); fewer = omega (arith, long, left, some) }

-- with room for as many items as there are bytes, more room tells no more
behind_same : (a b : ℕ) (bytes : List ℕ) (told : Option ResourceItem)
    → ((item : ResourceItem) → told ≡ Some item → items_from a (behind_item item bytes) ≡ items_from b (behind_item item bytes))
    → items_behind (items_from a) bytes told ≡ items_behind (items_from b) bytes told
behind_same a b bytes None same = refl
behind_same a b bytes (Some item) same = ap (λ more. item ∷ more) (same item refl)

-- by as many steps as there are bytes
pub items_enough : (a b : ℕ) (bytes : List ℕ) → length bytes ≤ a → length bytes ≤ b → items_from a bytes ≡ items_from b bytes
items_enough zero zero bytes few also = refl
items_enough zero (suc b) [] few also = refl
items_enough zero (suc b) (byte ∷ bytes) few also = absurd (omega (arith, few))
items_enough (suc a) zero [] few also = refl
items_enough (suc a) zero (byte ∷ bytes) few also = absurd (omega (arith, also))
items_enough (suc a) (suc b) bytes few also =
    behind_same a b bytes (first_item bytes)
    (λ item is.
    let fewer = (item_within bytes item is).fewer in
    items_enough a b (behind_item item bytes) (omega (arith, few, fewer)) (omega (arith, also, fewer)))

-- the first item, and those behind it
pub items_turn : (bytes : List ℕ) (item : ResourceItem) → first_item bytes ≡ Some item → items_in bytes ≡ item ∷ items_in (behind_item item bytes)
items_turn [] item is = absurd (cc is)
items_turn (byte ∷ bytes) item is =
    let all = byte ∷ bytes in
    let left = behind_item item all in
    let fewer = (item_within all item is).fewer in
    ap (items_behind (items_from (length bytes)) all) is
    ∙ ap (λ more. item ∷ more) (items_enough (length bytes) (length left) left (omega (arith, fewer)) (omega arith))

-- where none begins there, there are none
pub items_end : (bytes : List ℕ) → first_item bytes ≡ None → items_in bytes ≡ []
items_end [] is = refl
items_end (byte ∷ bytes) is = ap (items_behind (items_from (length bytes)) (byte ∷ bytes)) is

-- one item in front of others, in the words of a loop
pub more_items : (all : List ResourceItem) (items more : List ResourceItem) (item : ResourceItem) (bytes : List ℕ)
    → items ++ items_in bytes ≡ all → first_item bytes ≡ Some item → more ≡ items ++ item ∷ [] → more ++ items_in (behind_item item bytes) ≡ all
more_items all items more item bytes so_far is pushed =
    ap (λ these. these ++ items_in (behind_item item bytes)) pushed ∙ append_assoc items (item ∷ []) (items_in (behind_item item bytes))
    ∙ ap (λ these. items ++ these) (sym (items_turn bytes item is)) ∙ so_far

-- the items of a template
pub template_back : (items : List ResourceItem) → AllByRecursion FitsItem items → items_in (template_of items) ≡ items
template_back [] fit = items_end end_tag refl
template_back (item ∷ items) fit =
    let own = item_bytes item in
    let later = template_of items in
    let joined : template_of (item ∷ items) ≡ own ++ later = append_assoc own (flat_map item_bytes items) end_tag in
    ap items_in joined ∙ items_turn (own ++ later) item (item_back item later fit.0)
    ∙ ap (λ bytes. item ∷ items_in bytes) (drop-append_seam own later) ∙ ap (λ more. item ∷ more) (template_back items fit.1)
