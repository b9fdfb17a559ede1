-- The selector of a file that is added is a file's, and no item has it.
use Rattle.std.proofs.Common.{◌≡◌, ℕ, zero, suc, ◌+◌, ◌<◌, ◌≤◌, ◌==◌, ◌||◌, Bool, true, false, cond, nat_le, inl, inr, List, [], ◌∷◌, length}
use Rattle.std.proofs.Common.{refl, ap, sym, subst, ◌∙◌, arith, leb-true}
use Rattle.std.proofs.lemmas.Bool.{cases_Bool, cond-true, cond-false, ne_eqb, true≢false}
use Rattle.cfg_directory.specs.declared.item.Item.{Item}
use Rattle.cfg_directory.specs.Items.{IsItems, HasNoSelect, IsFileSelect, AreDistinct}
use Rattle.smbios_install.specs.Selectors.{greatest_select, is_taken, least_free, next_select}
use Rattle.smbios_install.proofs.Selectors.{count_from, count_few, count_taken, free_is}

-- above the greatest there is none
none_above : (items : List Item) (select : ℕ) → greatest_select items < select → HasNoSelect items select
none_above [] select above = tt
none_above (first ∷ items) select above =
    (ne_eqb first.select select (λ same. omega arith), none_above items select (omega arith))

greatest_from : (items : List Item) → 0 < length items → AreDistinct items → 0x20 ≤ greatest_select items
greatest_from [] some distinct = absurd (omega arith)
greatest_from (first ∷ items) some distinct = omega (arith, distinct.2.0)

both_false : (a b : Bool) → (a || b) ≡ false → (a ≡ false) × (b ≡ false)
both_false true b is = absurd (true≢false is)
both_false false b is = (refl, is)

-- a selector that isn't taken is no item's
none_taken : (items : List Item) (select : ℕ) → is_taken items select ≡ false → HasNoSelect items select
none_taken [] select free = tt
none_taken (first ∷ items) select free =
    let tests = both_false (first.select == select) (is_taken items select) free in
    (tests.0, none_taken items select tests.1)

-- the least one that is free is so, and isn't far
least_is_free : (items : List Item) (left from : ℕ) → count_from items from ≤ left → is_taken items (least_free items left from) ≡ false
least_is_free items zero from enough =
    elim (cases_Bool (is_taken items from)) as (λ _. is_taken items from ≡ false) [
      | inl taken ↦ absurd (omega (arith, count_taken items from taken))
      | inr free ↦ free
    ]
least_is_free items (suc left) from enough =
    elim (cases_Bool (is_taken items from)) as (λ _. is_taken items (least_free items (suc left) from) ≡ false) [
      | inl taken ↦
          ap (is_taken items) (cond-true _ (least_free items left (suc from)) from taken)
          ∙ least_is_free items left (suc from) (omega (arith, count_taken items from taken))
      | inr free ↦ ap (is_taken items) (free_is items (suc left) from free) ∙ free
    ]

least_from : (items : List Item) (left from : ℕ) → from ≤ least_free items left from
least_from items zero from = omega arith
least_from items (suc left) from =
    elim (is_taken items from) as (λ (taken : Bool). from ≤ cond taken (least_free items left (suc from)) from) [
      | true ↦ omega (arith, least_from items left (suc from))
      | false ↦ omega arith
    ]

least_near : (items : List Item) (left from : ℕ) → least_free items left from ≤ from + left
least_near items zero from = omega arith
least_near items (suc left) from =
    elim (is_taken items from) as (λ (taken : Bool). cond taken (least_free items left (suc from)) from ≤ from + suc left) [
      | true ↦ omega (arith, least_near items left (suc from))
      | false ↦ omega arith
    ]

-- A selector that a file may be added with.
pub record IsNew (items : List Item) (select : ℕ) : Type 0 where
  pub of_file : IsFileSelect select
  pub free : HasNoSelect items select

above_is_new : (items : List Item) → 0 < length items → AreDistinct items → greatest_select items + 1 ≤ 0x3FFF → IsNew items (greatest_select items + 1)
above_is_new items some distinct below = record {
  of_file = (omega (arith, greatest_from items some distinct), below);
  free = none_above items (greatest_select items + 1) (omega arith);
}

least_is_new : (items : List Item) → IsItems items → IsNew items (least_free items (length items) 0x20)
least_is_new items are = record {
  of_file = (least_from items (length items) 0x20, omega (arith, least_near items (length items) 0x20, are.few));
  free = none_taken items (least_free items (length items) 0x20) (least_is_free items (length items) 0x20 (count_few items 0x20));
}

pub next_is_new : (items : List Item) → 0 < length items → IsItems items → IsNew items (next_select items)
next_is_new items some are =
    let next = greatest_select items + 1 in
    elim (cases_Bool (nat_le (greatest_select items + 1) 0x3FFF)) as (λ _. IsNew items (next_select items)) [
      | inl below ↦
          subst (IsNew items) (sym (cond-true _ next (least_free items (length items) 0x20) below))
          (above_is_new items some are.distinct (leb-true (greatest_select items + 1) 0x3FFF below))
      | inr beyond ↦ subst (IsNew items) (sym (cond-false _ next (least_free items (length items) 0x20) beyond)) (least_is_new items are)
    ]
