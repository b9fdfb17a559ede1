-- Items of which the one with a selector is changed, in a way that keeps its name and its selector.
use Rattle.std.proofs.Common.{◌≡◌, ℕ, zero, suc, ◌+◌, ◌≤◌, ◌==◌, Bool, true, false, cond, List, [], ◌∷◌, length, map, Option, Some, None}
use Rattle.std.proofs.Common.{slice_set, ltb, inl, inr, arith, sym, refl, ap, ap₂, subst, ◌∙◌}
use Rattle.std.specs.Prelude.{IsSomeAnd}
use Rattle.std.specs.List.{AllByRecursion, slice_get, position, position_or_len}
use Rattle.std.specs.Str.{bytes_eq}
use Rattle.std.proofs.lemmas.Bool.{ltb-false, ne_eqb, eqb-false, eqb-true, eq-eqb, cond-true, cond-false, cases_Bool, cond_both}
use Rattle.std.proofs.lemmas.List.{length-set, set-get_or}
use Rattle.std.proofs.lemmas.List.Folds.{find_at}
use Rattle.std.proofs.lemmas.List.Quantifiers.{position-Some}
use Rattle.std.proofs.lemmas.List.Sums.{sum_by-set}
use Rattle.std.proofs.lemmas.Option.{none-some, same_Some, cond_some, slice_get_within, slice_get_past, get_or_from_slice_get}
use Rattle.vt_bytes.proofs.Each.{each_at}
use Rattle.cfg_directory.specs.declared.item.Item.{Item}
use Rattle.cfg_directory.specs.Items.{IsItems, HasNoName, HasNoSelect, AreDistinct, total_size, bytes_limit, selected}

-- whether an item has the selector
abbrev pub has : ℕ → Item → Bool
has select item = item.select == select

-- an item that is changed only where it has the selector
abbrev pub changed_if : ℕ → (Item → Item) → Item → Item
changed_if select change item = cond (has select item) (change item) item

-- the change keeps each item's name and selector
pub record AreAlike (change : Item → Item) : Type 0 where
  pub name : (item : Item) → (change item).name ≡ item.name
  pub select : (item : Item) → (change item).select ≡ item.select

pub alike_if : (change : Item → Item) → AreAlike change → (select : ℕ) → AreAlike (changed_if select change)
alike_if change alike select = record {
  name = λ item. cond_both (has select item) (change item) item (λ (i : Item). i.name ≡ item.name) (λ _. alike.name item) (λ _. refl);
  select = λ item. cond_both (has select item) (change item) item (λ (i : Item). i.select ≡ item.select) (λ _. alike.select item) (λ _. refl);
}

-- ---- the one item

-- where no item has the selector nothing changes
pub none_changed : (change : Item → Item) (items : List Item) (select : ℕ) → HasNoSelect items select → map (changed_if select change) items ≡ items
none_changed change [] select none = refl
none_changed change (item ∷ items) select none =
    ap₂ (λ (i : Item) (is : List Item). i ∷ is) (cond-false (has select item) (change item) item none.0) (none_changed change items select none.1)

-- one item alone has the selector, so only it changes
pub one_changed : (change : Item → Item) (items : List Item) (select place : ℕ) (item : Item) → AreDistinct items → slice_get items place ≡ Some item
    → item.select ≡ select → slice_set items place (change item) ≡ map (changed_if select change) items
one_changed change [] select place item distinct at is = absurd (none-some item at)
one_changed change (first ∷ items) select zero item distinct at is =
    let same : first ≡ item = same_Some first item at in
    let its : first.select ≡ select = ap (λ (i : Item). i.select) same ∙ is in
    let head : change item ≡ changed_if select change first =
    ap change (sym same) ∙ sym (cond-true (has select first) (change first) first (eq-eqb first.select select its)) in
    ap₂ (λ (i : Item) (is : List Item). i ∷ is) head (sym (none_changed change items select (subst (HasNoSelect items) its distinct.1)))
one_changed change (first ∷ items) select (suc place) item distinct at is =
    let other : (item.select == first.select) ≡ false =
    each_at (λ (i : Item). (i.select == first.select) ≡ false) items place item item (slice_get_within items place item at)
    (sym (get_or_from_slice_get items place item item at)) distinct.1 in
    let fails : has select first ≡ false = ne_eqb first.select select (λ same. eqb-false item.select first.select other (is ∙ sym same)) in
    ap₂ (λ (i : Item) (is : List Item). i ∷ is) (sym (cond-false (has select first) (change first) first fails))
    (one_changed change items select place item distinct.3 at is)

-- names and selectors still differ
each_changed : (P : Item → Type 0) (change : Item → Item) → ((item : Item) → P item → P (change item)) → (items : List Item) → AllByRecursion P items
    → AllByRecursion P (map change items)
each_changed P change keeps [] all = tt
each_changed P change keeps (item ∷ items) all = (keeps item all.0, each_changed P change keeps items all.1)

AreDistinct-changed : (change : Item → Item) → AreAlike change → (items : List Item) → AreDistinct items → AreDistinct (map change items)
AreDistinct-changed change alike [] distinct = tt
AreDistinct-changed change alike (first ∷ items) distinct = (
  subst (HasNoName (map change items)) (sym (alike.name first)) (each_changed (λ (i : Item). bytes_eq i.name first.name ≡ false) change
      (λ item other. ap (λ (n : List ℕ). bytes_eq n first.name) (alike.name item) ∙ other) items distinct.0),
  subst (HasNoSelect (map change items)) (sym (alike.select first)) (each_changed (λ (i : Item). (i.select == first.select) ≡ false) change
      (λ item other. ap (λ s. s == first.select) (alike.select item) ∙ other) items distinct.1),
  subst (λ s. (0x20 ≤ s) × (s ≤ 0x3FFF)) (sym (alike.select first)) distinct.2,
  AreDistinct-changed change alike items distinct.3,
)

-- ---- a call that changes it

-- the item that a place of a selector is
pub record IsFound (items : List Item) (select place : ℕ) (item : Item) : Type 0 where
  pub at : slice_get items place ≡ Some item
  pub passes : item.select ≡ select
  pub found : selected items select ≡ Some item

-- what the call finds
pub record Finds (items now : List Item) (select place : ℕ) (item : Item) : Type 0 where
  pub lawful : IsItems items
  pub view : items ≡ now
  pub found : IsFound items select place item

pub Finds-from : (items now shown : List Item) (result : Option ℕ) (select place : ℕ) (item : Item) → IsItems items → items ≡ now
    → result ≡ position (has select) shown → shown ≡ items → result ≡ Some place → slice_get items place ≡ Some item → Finds items now select place item
Finds-from items now shown result select place item lawful view placed showing is at =
    let there : position (has select) items ≡ Some place = sym (ap (position (has select)) showing) ∙ sym placed ∙ is in
    let passes : has select item ≡ true =
    subst (λ (i : Item). has select i ≡ true) (get_or_from_slice_get items place item item at) (position-Some (has select) items place item there).1 in
    let found = find_at (has select) items ∙ ap (slice_get items) (cond_some _ _ place there).1 ∙ at in
    record { lawful = lawful; view = view; found = record { at = at; passes = eqb-true item.select select passes; found = found } }

-- what holds of the item of the selector holds of the one that is found
pub of_found : (P : Item → Type 0) (items now : List Item) (select place : ℕ) (item : Item) → Finds items now select place item
    → IsSomeAnd (selected now select) P → P item
of_found P items now select place item finds some =
    subst (λ (o : Option Item). IsSomeAnd o P) (ap (λ (is : List Item). selected is select) (sym finds.view) ∙ finds.found.found) some

-- one is found where there is one
pub always_found : (items now shown : List Item) (result : Option ℕ) (select : ℕ) → items ≡ now → result ≡ position (has select) shown → shown ≡ items
    → (selected now select ≡ None → ⊥) → result ≡ None → ⊥
always_found items now shown result select view placed showing some is =
    let none : position (has select) now ≡ None = sym (ap (position (has select)) (showing ∙ view)) ∙ sym placed ∙ is in
    elim (cases_Bool (ltb (position_or_len (has select) now) (length now))) as (λ _. ⊥) [
      | inl within ↦ none-some _ (sym none ∙ cond-true _ _ _ within)
      | inr past ↦ some (find_at (has select) now ∙ slice_get_past now _ (ltb-false _ _ past))
    ]

-- what the call leaves where it changes the item: it may be longer, as long as all have few enough bytes
pub record IsChanged (change : Item → Item) (now after : List Item) (select : ℕ) : Type 0 where
  pub lawful : IsItems after
  pub is : after ≡ map (changed_if select change) now

pub IsChanged-from : (change : Item → Item) → AreAlike change → (items now : List Item) (select place : ℕ) (item new : Item)
    → Finds items now select place item → new ≡ change item → total_size items + length (change item).bytes ≤ bytes_limit + length item.bytes
    → IsChanged change now (slice_set items place new) select
IsChanged-from change alike items now select place item new finds is small =
    let length_of : Item → ℕ = λ item. length item.bytes in
    let at = finds.found.at in
    let changed = ap (slice_set items place) is ∙ one_changed change items select place item finds.lawful.distinct at finds.found.passes in
    let size = sum_by-set length_of items place new item (slice_get_within items place item at) in
    record {
      lawful = record {
        few = omega (arith, finds.lawful.few, length-set items place new);
        small = omega (arith, small, size, ap length_of is, ap length_of (get_or_from_slice_get items place item item at));
        distinct = subst AreDistinct (sym changed)
            (AreDistinct-changed (changed_if select change) (alike_if change alike select) items finds.lawful.distinct);
      };
      is = changed ∙ ap (map (changed_if select change)) finds.view;
    }

-- and where it doesn't
pub unchanged : (items now : List Item) (select place : ℕ) (item new : Item) → Finds items now select place item → new ≡ item
    → slice_set items place new ≡ items
unchanged items now select place item new finds is =
    ap (slice_set items place) (is ∙ sym (get_or_from_slice_get items place item item finds.found.at)) ∙ set-get_or items place item
