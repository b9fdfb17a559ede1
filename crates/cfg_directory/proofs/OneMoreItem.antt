-- Items with one more at their end.
use Rattle.std.proofs.Common.{◌≡◌, ℕ, ◌+◌, ◌<◌, ◌≤◌, ◌==◌, false, List, [], ◌∷◌, ◌++◌, length, Result, Ok, Err, arith, sym, subst}
use Rattle.std.specs.Prelude.{OnOk, OnErr}
use Rattle.std.specs.Str.{bytes_eq}
use Rattle.std.proofs.lemmas.Bool.{ne_eqb, eqb-false}
use Rattle.std.proofs.lemmas.List.{length_push}
use Rattle.std.proofs.lemmas.List.Sums.{sum_by_push}
use Rattle.vt_outside.proofs.Texts.{other_turned}
use Rattle.vt_bytes.proofs.Each.{each_push}
use Rattle.cfg_directory.specs.declared.item.Item.{Item}
use Rattle.cfg_directory.specs.Items.{IsItems, IsFileSelect, HasNoName, HasNoSelect, AreDistinct, AreNumberedFrom, total_size, file_limit, bytes_limit}

-- numbers that differ do so from either side
pub other_select : (a b : ℕ) → (a == b) ≡ false → (b == a) ≡ false
other_select a b differ = ne_eqb b a (λ same. eqb-false a b differ (sym same))

-- names and selectors still differ
pub AreDistinct-push : (items : List Item) (item : Item) → AreDistinct items → HasNoName items item.name → HasNoSelect items item.select
    → IsFileSelect item.select → AreDistinct (items ++ item ∷ [])
AreDistinct-push [] item distinct names selects is_select = (tt, tt, is_select, tt)
AreDistinct-push (first ∷ items) item distinct names selects is_select = (
  each_push (λ (other : Item). bytes_eq other.name first.name ≡ false) items item distinct.0 (other_turned first.name item.name names.0),
  each_push (λ (other : Item). (other.select == first.select) ≡ false) items item distinct.1 (other_select first.select item.select selects.0),
  distinct.2,
  AreDistinct-push items item distinct.3 names.1 selects.1 is_select,
)

-- and they are a device's
pub IsItems-push : (items : List Item) (item : Item) → IsItems items → HasNoName items item.name → HasNoSelect items item.select → IsFileSelect item.select
    → length items < file_limit → total_size items + length item.bytes ≤ bytes_limit → IsItems (items ++ item ∷ [])
IsItems-push items item are names selects is_select few small = record {
  few = omega (arith, length_push items item);
  small = omega (arith, sum_by_push (λ (i : Item). length i.bytes) items item);
  distinct = AreDistinct-push items item are.distinct names selects is_select;
}

-- items numbered in order have no selector that comes later
pub none_later : (items : List Item) (next select : ℕ) → AreNumberedFrom next items → next + length items ≤ select → HasNoSelect items select
none_later [] next select numbered later = tt
none_later (item ∷ items) next select numbered later =
    (ne_eqb item.select select (λ same. omega (arith, numbered.0)), none_later items (next + 1) select numbered.1 (omega arith))

-- a push leaves them so, whether it failed or not
pub IsItems-pushed : {E T : Type 0} (inside now new : List Item) (item : Item) (result : Result T E) → inside ≡ now → OnOk result (new ≡ inside ++ item ∷ [])
    → OnErr result (new ≡ inside) → IsItems inside → HasNoName now item.name → HasNoSelect now item.select → IsFileSelect item.select
    → length now < file_limit → total_size now + length item.bytes ≤ bytes_limit → IsItems new
IsItems-pushed inside now new item (Ok done) view ok err are names selects is_select few small =
    let now_are = subst IsItems view are in
    subst IsItems (sym (subst (λ (items : List Item). new ≡ items ++ item ∷ []) view ok)) (IsItems-push now item now_are names selects is_select few small)
IsItems-pushed inside now new item (Err fault) view ok err are names selects is_select few small = subst IsItems (sym err) are
