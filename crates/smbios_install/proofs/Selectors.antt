-- Selectors that are taken, and the least that isn't.
use Rattle.std.proofs.Common.{◌≡◌, ℕ, zero, suc, ◌+◌, ◌<◌, ◌≤◌, ◌==◌, Bool, true, false, cond, leb, inl, inr, List, [], ◌∷◌, ◌++◌, length, max}
use Rattle.std.proofs.Common.{take, get_or, refl, ap, sym, ◌∙◌, arith, eqb-true, leb-true}
use Rattle.std.proofs.lemmas.Bool.{true≢false, cases_Bool, cond-true, cond-false, or_cases, le-leb}
use Rattle.std.proofs.lemmas.List.{take_more}
use Rattle.cfg_directory.specs.declared.item.Item.{Item}
use Rattle.cfg_directory.specs.Items.{AreDistinct}
use Rattle.smbios_install.specs.Selectors.{greatest_select, is_taken, least_free}

-- ---- the greatest

pub greatest-push : (items : List Item) (item : Item) → greatest_select (items ++ item ∷ []) ≡ max (greatest_select items) item.select
greatest-push [] item = omega arith
greatest-push (first ∷ items) item = omega (arith, greatest-push items item)

-- of one item more
pub greatest-more : (items : List Item) (i : ℕ) (item : Item) (before now : ℕ) → i < length items → item ≡ get_or items i item
    → before ≡ greatest_select (take i items) → now ≡ max before item.select → now ≡ greatest_select (take (i + 1) items)
greatest-more items i item before now within at is more =
    let next : take (i + 1) items ≡ take i items ++ item ∷ [] = take_more items i item within ∙ ap (λ (x : Item). take i items ++ x ∷ []) (sym at) in
    more ∙ ap (λ n. max n item.select) is ∙ sym (greatest-push (take i items) item) ∙ ap greatest_select (sym next)

pub greatest_below : (items : List Item) → AreDistinct items → greatest_select items ≤ 0x3FFF
greatest_below [] distinct = omega arith
greatest_below (first ∷ items) distinct = omega (arith, greatest_below items distinct.3, distinct.2.1)

-- ---- one that is taken

-- it is a file's
pub taken_below : (items : List Item) (select : ℕ) → AreDistinct items → is_taken items select ≡ true → select ≤ 0x3FFF
taken_below [] select distinct taken = absurd (true≢false (sym taken))
taken_below (first ∷ items) select distinct taken =
    elim (or_cases (first.select == select) (is_taken items select) taken) as (λ _. select ≤ 0x3FFF) [
      | inl here ↦ omega (arith, eqb-true first.select select here, distinct.2.1)
      | inr later ↦ taken_below items select distinct.3 later
    ]

-- how many items have a selector from one on
abbrev pub count_from : List Item → ℕ → ℕ
count_from [] from = 0
count_from (item ∷ items) from = cond (leb from item.select) 1 0 + count_from items from

pub count_few : (items : List Item) (from : ℕ) → count_from items from ≤ length items
count_few [] from = omega arith
count_few (item ∷ items) from =
    elim (leb from item.select) as (λ (passes : Bool). cond passes 1 0 + count_from items from ≤ suc (length items)) [
      | true ↦ omega (arith, count_few items from)
      | false ↦ omega (arith, count_few items from)
    ]

-- one item more or less
one_later : (select from : ℕ) → cond (leb (suc from) select) 1 0 ≤ cond (leb from select) 1 0
one_later select from =
    elim (cases_Bool (leb (suc from) select)) as (λ _. cond (leb (suc from) select) 1 0 ≤ cond (leb from select) 1 0) [
      | inl passes ↦
          let before : from ≤ select = omega (arith, leb-true (suc from) select passes) in
          omega (arith, cond-true {A = ℕ} _ 1 0 passes, cond-true {A = ℕ} _ 1 0 (le-leb from select before))
      | inr fails ↦ omega (arith, cond-false {A = ℕ} _ 1 0 fails)
    ]

one_here : (select from : ℕ) → select ≡ from → suc (cond (leb (suc from) select) 1 0) ≤ cond (leb from select) 1 0
one_here select from same =
    elim (cases_Bool (leb (suc from) select)) as (λ _. suc (cond (leb (suc from) select) 1 0) ≤ cond (leb from select) 1 0) [
      | inl passes ↦ absurd (omega (arith, leb-true (suc from) select passes, same))
      | inr fails ↦ omega (arith, cond-false {A = ℕ} _ 1 0 fails, cond-true {A = ℕ} _ 1 0 (le-leb from select (omega (arith, same))))
    ]

count_later : (items : List Item) (from : ℕ) → count_from items (suc from) ≤ count_from items from
count_later [] from = omega arith
count_later (item ∷ items) from = omega (arith, one_later item.select from, count_later items from)

-- behind one that is taken there are fewer
pub count_taken : (items : List Item) (from : ℕ) → is_taken items from ≡ true → suc (count_from items (suc from)) ≤ count_from items from
count_taken [] from taken = absurd (true≢false (sym taken))
count_taken (item ∷ items) from taken =
    elim (or_cases (item.select == from) (is_taken items from) taken) as
    (λ _. suc (count_from (item ∷ items) (suc from)) ≤ count_from (item ∷ items) from) [
      | inl here ↦ omega (arith, one_here item.select from (eqb-true item.select from here), count_later items from)
      | inr later ↦ omega (arith, one_later item.select from, count_taken items from later)
    ]

-- ---- the least that isn't

pub free_is : (items : List Item) (left from : ℕ) → is_taken items from ≡ false → least_free items left from ≡ from
free_is items zero from free = refl
free_is items (suc left) from free = cond-false _ _ _ free

-- it is the same for each number that is enough
enough : (items : List Item) (left more from : ℕ) → count_from items from ≤ left → count_from items from ≤ more
    → least_free items left from ≡ least_free items more from
enough items zero more from left_is more_is =
    elim (cases_Bool (is_taken items from)) as (λ _. least_free items zero from ≡ least_free items more from) [
      | inl taken ↦ absurd (omega (arith, count_taken items from taken))
      | inr free ↦ sym (free_is items more from free)
    ]
enough items (suc left) zero from left_is more_is =
    elim (cases_Bool (is_taken items from)) as (λ _. least_free items (suc left) from ≡ least_free items zero from) [
      | inl taken ↦ absurd (omega (arith, count_taken items from taken))
      | inr free ↦ free_is items (suc left) from free
    ]
enough items (suc left) (suc more) from left_is more_is =
    elim (cases_Bool (is_taken items from)) as (λ _. least_free items (suc left) from ≡ least_free items (suc more) from) [
      | inl taken ↦
          let fewer = count_taken items from taken in
          cond-true _ _ _ taken ∙ enough items left more (suc from) (omega (arith, fewer)) (omega (arith, fewer)) ∙ sym (cond-true _ _ _ taken)
      | inr free ↦ free_is items (suc left) from free ∙ sym (free_is items (suc more) from free)
    ]

-- so one that is taken is passed over
pub taken_passed : (items : List Item) (from : ℕ) → is_taken items from ≡ true
    → least_free items (length items) from ≡ least_free items (length items) (from + 1)
taken_passed items from taken =
    let few = count_few items from in
    let next : suc from ≡ from + 1 = omega arith in
    enough items (length items) (suc (length items)) from (omega (arith, few)) (omega (arith, few)) ∙ cond-true _ _ _ taken
    ∙ ap (least_free items (length items)) next
