-- A free place for a small file: of places that lie far from one another one is left, since a small range meets no more than one.
use Rattle.std.proofs.Common.{◌≡◌, ℕ, zero, suc, ◌+◌, ◌-◌, ◌*◌, ◌/◌, ◌%◌, ◌<◌, ◌≤◌, ◌⊎◌, inl, inr, List, [], ◌∷◌, ◌++◌, length, Option}
use Rattle.std.proofs.Common.{Some, None, arith, refl, ap, subst, sym, ◌∙◌, length-append}
use Rattle.std.specs.Prelude.{MatchOption, IfSome}
use Rattle.std.specs.List.{AllByRecursion}
use Rattle.std.specs.Option.{option_map_or}
use Rattle.std.proofs.lemmas.Bool.{cases_lt}
use Rattle.std.proofs.lemmas.Nat.{div-add-mod'}
use Rattle.std.proofs.Math.Nat.{suc-mul}
use Rattle.vt_bytes.proofs.Each.{each_append, each_front, each_back, each_weaker, each_midst}
use Rattle.vt_outside.specs.Placement.{Range, Apart, IsFree}
use Rattle.image_files.specs.declared.file.Placing.{Placing}
use Rattle.zone_alloc.specs.declared.zone.Zone.{Zone}
use Rattle.zone_alloc.specs.declared.zone.Zone.TheVariants.{High, Fseg}
use Rattle.image_files.specs.Files.{ImageFile}
use Rattle.zone_alloc.specs.Zones.{zone_range}
use Rattle.image_files.specs.Places.{range_at, MayStand, ArePlaces, ranges_at}
use Rattle.image_files.specs.Room.{HaveRoom, small_part, IsSmall, AreSmall}

-- above a number there is a multiple of an align, less than one align away
multiple_above : (align base : ℕ) → 0 < align → (factor : ℕ) × (base ≤ factor * align) × (factor * align < base + align)
multiple_above align base some =
    let parts = div-add-mod' (base + (align - 1)) align in
    let left : (base + (align - 1)) % align < align = omega arith in
    ((base + (align - 1)) / align, omega arith, omega arith)

-- the range of so many bytes at a place
abbrev span : ℕ → ℕ → Range
span place size = record { start = place; end = place + size }

-- two ranges have an address in common
abbrev Meets : Range → Range → Type 0
Meets a b = (a.start < b.end) × (b.start < a.end)

-- ranges with one in their midst that meets this one
record HasMeeting (range : Range) (ranges : List Range) : Type 0 where
  front : List Range
  met : Range
  back : List Range
  are : ranges ≡ front ++ met ∷ back
  meets : Meets range met

-- a range is apart from another one, or they meet
apart_or_meets : (a b : Range) → Apart a b ⊎ Meets a b
apart_or_meets a b =
    elim (cases_lt a.start b.end) as (λ _. Apart a b ⊎ Meets a b) [
      | inl l ↦ elim (cases_lt b.start a.end) as (λ _. Apart a b ⊎ Meets a b) [ inl m ↦ inr (l, m) | inr m ↦ inl (inl m) ]
      | inr l ↦ inl (inr l)
    ]

-- a range is apart from each of others, or it meets one of them
apart_or_meeting : (range : Range) (ranges : List Range) → AllByRecursion (Apart range) ranges ⊎ HasMeeting range ranges
apart_or_meeting range [] = inl tt
apart_or_meeting range (first ∷ ranges) =
    elim (apart_or_meets range first) as (λ _. AllByRecursion (Apart range) (first ∷ ranges) ⊎ HasMeeting range (first ∷ ranges)) [
      | inl apart ↦
          elim (apart_or_meeting range ranges) as (λ _. AllByRecursion (Apart range) (first ∷ ranges) ⊎ HasMeeting range (first ∷ ranges)) [
            | inl all ↦ inl (apart, all)
            | inr one ↦
                inr (record { front = first ∷ one.front; met = one.met; back = one.back; are = ap (λ rs. first ∷ rs) one.are; meets = one.meets })
          ]
      | inr meets ↦ inr (record { front = []; met = first; back = ranges; are = refl; meets = meets })
    ]

-- a range is no longer than a part, or it begins at or behind an end
abbrev IsShort : ℕ → ℕ → Range → Type 0
IsShort part end range = (range.end ≤ range.start + part) ⊎ (end ≤ range.start)

-- what holds of each element still holds without one in the midst
each_without : (P : Range → Type 0) (front : List Range) (r : Range) (back : List Range) → AllByRecursion P (front ++ r ∷ back)
    → AllByRecursion P (front ++ back)
each_without P front r back all =
    each_append P front back (each_front P front (r ∷ back) all) (each_back P front (r ∷ back) all).1

-- what holds of the others and of one in the midst holds of each
each_with : (P : Range → Type 0) (front : List Range) (r : Range) (back : List Range) → AllByRecursion P (front ++ back) → P r
    → AllByRecursion P (front ++ r ∷ back)
each_with P front r back all one = each_append P front (r ∷ back) (each_front P front back all) (one, each_back P front back all)

module _ (part size align end : ℕ) (some : 0 < align) (fits : size + align ≤ part) where
  -- a multiple of the align, at or above a number, at which a file ends before the end and is apart from ranges
  record IsLeft (base : ℕ) (ranges : List Range) (factor : ℕ) : Type 0 where
    from : base ≤ factor * align
    below : factor * align + size ≤ end
    apart : AllByRecursion (Apart (span (factor * align) size)) ranges

  -- one that is left two parts further is apart from a short range that meets the file at the first multiple
  met_before : (base first factor : ℕ) (ranges : List Range) (range : Range) → first < base + align → first + size ≤ end
      → Meets (span first size) range → IsShort part end range → IsLeft (base + (part + part)) ranges factor
      → Apart (span (factor * align) size) range
  met_before base first factor ranges range near below meets short left =
      let from = left.from in
      elim short as (λ _. Apart (span (factor * align) size) range) [ inl l ↦ inr (omega (arith, meets.1)) | inr l ↦ absurd (omega (arith, meets.1)) ]

  -- of more places than ranges, two parts from one another, one is left
  one_left : (count base : ℕ) (ranges : List Range) → base + count * (part + part) ≤ end → length ranges < count
      → AllByRecursion (IsShort part end) ranges → (factor : ℕ) × IsLeft base ranges factor
  one_left zero base ranges within fewer short = absurd (omega arith)
  one_left (suc count) base ranges within fewer short =
      let one_more = suc-mul count (part + part) in
      let first = multiple_above align base some in
      let below : first.0 * align + size ≤ end = omega arith in
      elim (apart_or_meeting (span (first.0 * align) size) ranges) as (λ _. (factor : ℕ) × IsLeft base ranges factor) [
        | inl apart ↦ (first.0, record { from = first.1; below = below; apart = apart })
        | inr m ↦
            let all = subst (AllByRecursion (IsShort part end)) m.are short in
            let as_many = ap length m.are ∙ length-append m.front (m.met ∷ m.back) in
            let one_less = length-append m.front m.back in
            let left = one_left count (base + (part + part)) (m.front ++ m.back) (omega arith) (omega arith)
            (each_without (IsShort part end) m.front m.met m.back all) in
            let apart = met_before base (first.0 * align) left.0 (m.front ++ m.back) m.met first.2 below m.meets
            (each_midst (IsShort part end) m.front m.met m.back all) left.1 in
            let from = left.1.from in (
              left.0,
              record {
                from = omega arith;
                below = left.1.below;
                apart = subst (AllByRecursion (Apart (span (left.0 * align) size))) (sym m.are)
                    (each_with (Apart (span (left.0 * align) size)) m.front m.met m.back left.1.apart apart);
              },
            )
      ]

-- a range that lies in high memory below a top and is no longer than its small part, or one no longer than that of the F segment
abbrev IsSmallRange : ℕ → Range → Type 0
IsSmallRange top range =
    ((top - 0x1000000 ≤ range.start) × (range.end ≤ range.start + 0x80000)) ⊎ (range.end ≤ range.start + 0x400)

-- a small file has such a range at each place that it may be given
small_range : (top : ℕ) (zone : Zone) (handed : List Range) (size align place : ℕ) → IsFree (zone_range top zone) handed size align place
    → size + align ≤ small_part zone → IsSmallRange top (span place size)
small_range top High handed size align place free fits = inl (free.from, omega arith)
small_range top Fseg handed size align place free fits = inr (omega arith)

-- so have small files at lawful places
small_ranges : (top : ℕ) (handed : List Range) (files : List ImageFile) (places : List ℕ) → ArePlaces top handed files places
    → AllByRecursion IsSmall files → AllByRecursion (IsSmallRange top) (ranges_at files places)
small_ranges top handed [] places are small = tt
small_ranges top handed (file ∷ files) [] are small = tt
small_ranges top handed (file ∷ files) (place ∷ places) are small =
    elim file.placing as (λ placing. MatchOption placing (ArePlaces top handed files (place ∷ places))
    (λ (p : Placing). (at : ℕ) × (others : List ℕ) × (place ∷ places ≡ at ∷ others) × MayStand top handed file p at
    × ArePlaces top (handed ++ range_at file at ∷ []) files others)
    → IfSome placing (λ (p : Placing). (0 < p.align) × (length file.blob.bytes + p.align ≤ small_part p.zone))
    → AllByRecursion (IsSmallRange top) (option_map_or (λ (p : Placing). range_at file place ∷ ranges_at files places) placing
    (ranges_at files (place ∷ places)))) [
      | None ↦ λ are fits. small_ranges top handed files (place ∷ places) are small.1
      | Some p ↦ λ are fits.
          let there : are.0 ≡ place = cc (are.2) in
          let rest : are.1 ≡ places = cc (are.2) in (
            subst (λ at. IsSmallRange top (range_at file at)) there
                (small_range top p.zone handed (length file.blob.bytes) p.align are.0 are.3 fits.1),
            subst (λ others. AllByRecursion (IsSmallRange top) (ranges_at files others)) rest
                (small_ranges top (handed ++ range_at file are.0 ∷ []) files are.1 are.4 small.1),
          )
    ] are small.0

-- there are no more ranges than files
no_more_ranges : (files : List ImageFile) (places : List ℕ) → length (ranges_at files places) ≤ length files
no_more_ranges [] places = omega arith
no_more_ranges (file ∷ files) [] = omega arith
no_more_ranges (file ∷ files) (place ∷ places) =
    let placed = no_more_ranges files places in
    let passed = no_more_ranges files (place ∷ places) in
    elim file.placing as (λ placing. length (option_map_or (λ (p : Placing). range_at file place ∷ ranges_at files places) placing
    (ranges_at files (place ∷ places))) ≤ length (file ∷ files)) [
      | None ↦ omega arith
      | Some p ↦ omega arith
    ]

-- in each zone a place is free for a small file beside fewer than 16 ranges of small files
free_place : (top : ℕ) (zone : Zone) (ranges : List Range) (size align : ℕ) → 0x4000000 ≤ top → 0 < align → size + align ≤ small_part zone
    → length ranges < 16 → AllByRecursion (IsSmallRange top) ranges → (place : ℕ) × IsFree (zone_range top zone) ranges size align place
free_place top High ranges size align high some fits few small =
    let short = each_weaker (IsSmallRange top) (IsShort 0x80000 top)
    (λ range is. elim is as (λ _. IsShort 0x80000 top range) [ inl l ↦ inl l.1 | inr l ↦ inl (omega arith) ]) ranges small in
    let left = one_left 0x80000 size align top some fits 16 (top - 0x1000000) ranges (omega arith) few short in
    (left.0 * align, record { aligned = (left.0, refl); from = left.1.from; within = left.1.below; apart = left.1.apart })
free_place top Fseg ranges size align high some fits few small =
    let short = each_weaker (IsSmallRange top) (IsShort 0x400 0x100000)
    (λ range is. elim is as (λ _. IsShort 0x400 0x100000 range) [ inl l ↦ inr (omega (arith, l.0)) | inr l ↦ inl l ]) ranges small in
    let left = one_left 0x400 size align 0x100000 some fits 16 0xF0000 ranges (omega arith) few short in
    (left.0 * align, record { aligned = (left.0, refl); from = left.1.from; within = left.1.below; apart = left.1.apart })

-- few and small files have room
pub have_room : (top : ℕ) (files : List ImageFile) → 0x4000000 ≤ top → AreSmall files → HaveRoom top files
have_room top files high small before file after placing places is placed are =
    let all = subst (AllByRecursion IsSmall) is small.each in
    let as_many = ap length is ∙ length-append before (file ∷ after) in
    let few = small.few in
    let no_more = no_more_ranges before places in
    let fits = subst (λ (o : Option Placing). IfSome o (λ (p : Placing). (0 < p.align) × (length file.blob.bytes + p.align ≤ small_part p.zone))) placed
    (each_midst IsSmall before file after all) in
    free_place top placing.zone (ranges_at before places) (length file.blob.bytes) placing.align high fits.0 fits.1 (omega arith)
    (small_ranges top [] before places are (each_front IsSmall before (file ∷ after) all))
