-- Ranges in the order of their addresses.
use Rattle.std.proofs.Common.{◌≡◌, ℕ, ◌+◌, ◌<◌, ◌≤◌, ◌↔◌, inl, inr, List, [], ◌∷◌, ◌++◌, zero, suc, map, length, take, drop, get_or, arith, subst, sym, add-one}
use Rattle.std.specs.List.{AllByRecursion, insert}
use Rattle.std.proofs.lemmas.List.{take_more, drop_more, drop_all}
use Rattle.vt_outside.specs.Placement.{Range, Apart}
use Rattle.zone_alloc.specs.declared.searching.AddressRange.{AddressRange}
use Rattle.zone_alloc.specs.Ranges.{range_of, AreInOrder, IsPlaceInOrder}

-- what holds of each range holds of the one at a place of the list
pub each_at : (P : Range → Type 0) (ranges : List AddressRange) (i : ℕ) (d : AddressRange) → AllByRecursion P (map range_of ranges) → i < length ranges
    → P (range_of (get_or ranges i d))
each_at P [] i d all below = absurd (omega arith)
each_at P (r ∷ ranges) zero d all below = all.0
each_at P (r ∷ ranges) (suc i) d all below = each_at P ranges i d all.1 (omega arith)

-- a range of ranges in order has an address
has_address : (ranges : List AddressRange) (i : ℕ) (d : AddressRange) → AreInOrder ranges → i < length ranges
    → (get_or ranges i d).start < (get_or ranges i d).end
has_address [] i d order below = absurd (omega arith)
has_address (r ∷ ranges) zero d order below = order.0
has_address (r ∷ ranges) (suc i) d order below = has_address ranges i d order.2 (omega arith)

-- ranges up to one that ends at or below a place are apart from all that begins there
up_to : (ranges : List AddressRange) (i : ℕ) (d : AddressRange) (place end : ℕ) → AreInOrder ranges → i < length ranges
    → (get_or ranges i d).end ≤ place → AllByRecursion (Apart (record { start = place; end = end })) (map range_of (take (suc i) ranges))
up_to [] i d place end order below under = absurd (omega arith)
up_to (r ∷ ranges) zero d place end order below under = (inr under, tt)
up_to (r ∷ ranges) (suc i) d place end order below under =
    let short : i < length ranges = omega arith in
    let before : r.end ≤ (get_or ranges i d).start = each_at (λ (q : Range). r.end ≤ q.start) ranges i d order.1 short in
    let some : (get_or ranges i d).start < (get_or ranges i d).end = has_address ranges i d order.2 short in
    (inr (omega arith), up_to ranges i d place end order.2 short under)

pub apart_up_to : (ranges : List AddressRange) (i : ℕ) (d : AddressRange) (place end : ℕ) → AreInOrder ranges → i < length ranges
    → (get_or ranges i d).end ≤ place → AllByRecursion (Apart (record { start = place; end = end })) (map range_of (take (i + 1) ranges))
apart_up_to ranges i d place end order below under = rw add-one (up_to ranges i d place end order below under)

-- ranges that begin at or above an end are apart from all that ends there
apart_behind : (ranges : List AddressRange) (start end bound : ℕ) → end ≤ bound → AllByRecursion (λ (q : Range). bound ≤ q.start) (map range_of ranges)
    → AllByRecursion (Apart (record { start = start; end = end })) (map range_of ranges)
apart_behind [] start end bound under all = tt
apart_behind (r ∷ ranges) start end bound under all = (inl (omega (arith, all.0)), apart_behind ranges start end bound under all.1)

-- the ranges from one on are in order
order_from : (ranges : List AddressRange) (i : ℕ) → AreInOrder ranges → AreInOrder (drop i ranges)
order_from ranges zero order = order
order_from [] (suc i) order = tt
order_from (r ∷ ranges) (suc i) order = order_from ranges i order.2

-- ranges from one on that begins at or above an end are apart from all that ends there
pub apart_from : (ranges : List AddressRange) (i : ℕ) (d : AddressRange) (start end : ℕ) → AreInOrder ranges → i < length ranges
    → end ≤ (get_or ranges i d).start → AllByRecursion (Apart (record { start = start; end = end })) (map range_of (drop i ranges))
apart_from ranges i d start end order below under =
    let parts : drop i ranges ≡ get_or ranges i d ∷ drop (i + 1) ranges = drop_more ranges i d below in
    let split : AreInOrder (get_or ranges i d ∷ drop (i + 1) ranges) = subst AreInOrder parts (order_from ranges i order) in
    let some : (get_or ranges i d).start < (get_or ranges i d).end = split.0 in
    subst (λ (rs : List AddressRange). AllByRecursion (Apart (record { start = start; end = end })) (map range_of rs)) (sym parts)
    (inl under, apart_behind (drop (i + 1) ranges) start end (get_or ranges i d).end (omega arith) split.1)

-- what holds of each range and of one that is put among them
each_put : (P : Range → Type 0) (ranges : List AddressRange) (i : ℕ) (x : AddressRange) → P (range_of x) → AllByRecursion P (map range_of ranges)
    → AllByRecursion P (map range_of (insert ranges i x))
each_put P ranges zero x new all = (new, all)
each_put P [] (suc i) x new all = (new, tt)
each_put P (r ∷ ranges) (suc i) x new all = (all.0, each_put P ranges i x new all.1)

each_of_put : (P : Range → Type 0) (ranges : List AddressRange) (i : ℕ) (x : AddressRange) → AllByRecursion P (map range_of (insert ranges i x))
    → P (range_of x) × AllByRecursion P (map range_of ranges)
each_of_put P ranges zero x all = (all.0, all.1)
each_of_put P [] (suc i) x all = (all.0, tt)
each_of_put P (r ∷ ranges) (suc i) x all =
    let others = each_of_put P ranges i x all.1 in
    (others.0, (all.0, others.1))

-- and of one behind them
each_pushed : (P : Range → Type 0) (ranges : List AddressRange) (x : AddressRange) → P (range_of x) → AllByRecursion P (map range_of ranges)
    → AllByRecursion P (map range_of (ranges ++ x ∷ []))
each_pushed P [] x new all = (new, tt)
each_pushed P (r ∷ ranges) x new all = (all.0, each_pushed P ranges x new all.1)

each_of_pushed : (P : Range → Type 0) (ranges : List AddressRange) (x : AddressRange) → AllByRecursion P (map range_of (ranges ++ x ∷ []))
    → P (range_of x) × AllByRecursion P (map range_of ranges)
each_of_pushed P [] x all = (all.0, tt)
each_of_pushed P (r ∷ ranges) x all =
    let others = each_of_pushed P ranges x all.1 in
    (others.0, (all.0, others.1))

-- what begins at or above a number begins at or above a lower one
lower : (low high : ℕ) (ranges : List AddressRange) → low ≤ high → AllByRecursion (λ (q : Range). high ≤ q.start) (map range_of ranges)
    → AllByRecursion (λ (q : Range). low ≤ q.start) (map range_of ranges)
lower low high [] under all = tt
lower low high (r ∷ ranges) under all = (omega (arith, all.0), lower low high ranges under all.1)

-- a range that begins at or below the first of ranges in order, and is apart from them, ends before each begins
ends_before : (x r : AddressRange) (ranges : List AddressRange) → AreInOrder (r ∷ ranges) → x.start < x.end → Apart (range_of x) (range_of r)
    → x.start ≤ r.start → AllByRecursion (λ (q : Range). x.end ≤ q.start) (map range_of (r ∷ ranges))
ends_before x r ranges order some here under =
    let first : x.end ≤ r.start = elim here as (λ _. x.end ≤ r.start) [ inl l ↦ l | inr l ↦ absurd (omega (arith, order.0)) ] in
    (first, lower x.end r.end ranges (omega (arith, order.0)) order.1)

-- a range that is put in its place leaves ranges in order
pub put_in_order : (x : AddressRange) (ranges : List AddressRange) (i : ℕ) → AreInOrder ranges → x.start < x.end
    → AllByRecursion (Apart (range_of x)) (map range_of ranges) → IsPlaceInOrder x.start ranges i → AreInOrder (insert ranges i x)
put_in_order x [] zero order some apart place = (some, tt, tt)
put_in_order x [] (suc i) order some apart place = absurd (omega (arith, place.0))
put_in_order x (r ∷ ranges) zero order some apart place = (some, ends_before x r ranges order some apart.0 place.2, order)
put_in_order x (r ∷ ranges) (suc i) order some apart place =
    let first : r.end ≤ x.start = elim apart.0 as (λ _. r.end ≤ x.start) [ inl l ↦ absurd (omega (arith, place.1.0)) | inr l ↦ l ] in (
      order.0,
      each_put (λ (q : Range). r.end ≤ q.start) ranges i x first order.1,
      put_in_order x ranges i order.2 some apart.1 (omega (arith, place.0), place.1.1, place.2),
    )

-- a range is apart from ranges and one behind them where it is from the same ranges and the one put among others that are alike
pub alike_put : (P : Range → Type 0) (in_turn by_address : List AddressRange) (i : ℕ) (x : AddressRange)
    → (AllByRecursion P (map range_of in_turn) ↔ AllByRecursion P (map range_of by_address))
    → AllByRecursion P (map range_of (in_turn ++ x ∷ [])) ↔ AllByRecursion P (map range_of (insert by_address i x))
alike_put P in_turn by_address i x alike = (
  λ all. let parts = each_of_pushed P in_turn x all in each_put P by_address i x parts.0 (alike.0 parts.1),
  λ all. let parts = each_of_put P by_address i x all in each_pushed P in_turn x parts.0 (alike.1 parts.1),
)

-- a range is apart from none
pub apart_at_end : (range : Range) (ranges : List AddressRange) → AllByRecursion (Apart range) (map range_of (drop (length ranges) ranges))
apart_at_end range ranges = subst (λ (rs : List AddressRange). AllByRecursion (Apart range) (map range_of rs))
    (sym (drop_all (length ranges) ranges (omega arith))) tt

-- one range more behind those before a place of the list
pub apart_and_next : (ranges : List AddressRange) (i : ℕ) (d : AddressRange) (range : Range) → i < length ranges
    → Apart range (range_of (get_or ranges i d)) → AllByRecursion (Apart range) (map range_of (take i ranges))
    → AllByRecursion (Apart range) (map range_of (take (i + 1) ranges))
apart_and_next ranges i d range below here before =
    subst (λ (rs : List AddressRange). AllByRecursion (Apart range) (map range_of rs)) (sym (take_more ranges i d below))
    (each_pushed (Apart range) (take i ranges) (get_or ranges i d) here before)
