-- Frames that are touched.
use Rattle.std.proofs.Common.{◌≡◌, ◌≢◌, ℕ, zero, suc, ◌+◌, ◌-◌, ◌*◌, ◌/◌, ◌%◌, ◌<◌, ◌≤◌, ◌⊎◌, inl, inr, Bool, true, false, ◌||◌, List, [], ◌∷◌}
use Rattle.std.proofs.Common.{length, set, refl, sym, ap, ◌∙◌, arith, add-zero}
use Rattle.std.proofs.Common.{slice_set, get_or, map, Option, Some, None}
use Rattle.std.proofs.lemmas.Bool.{cases_lt, false_from_ne_true}
use Rattle.vt_bytes.specs.Memory.{IsTop, IsRam, high_start}
use Rattle.guest_memory.specs.Frames.{frame_start, IsInFrame, meets}
use Rattle.guest_memory.specs.Store.{IsPlaceOf, is_filled}
use Rattle.guest_memory.proofs.Held.{in_high}
use Rattle.guest_memory.proofs.StoreFlags.{flags-set}
use Rattle.guest_memory.specs.Touched.{is_touched, touched_from, touched_at, TouchesOnly}

-- ---- the relation

pub touches_none : (Has : ℕ → Type 0) (top : ℕ) (touched : List Bool) → TouchesOnly Has top touched touched
touches_none Has top touched frame now = inl now

pub touches_then : (Has : ℕ → Type 0) (top : ℕ) (a b c : List Bool) → TouchesOnly Has top a b → TouchesOnly Has top b c → TouchesOnly Has top a c
touches_then Has top a b c first second frame now = elim (second frame now) as
    (λ _. (is_touched a frame ≡ true) ⊎ ((address : ℕ) × IsInFrame top frame address × Has address)) [
      | inl before ↦ first frame before
      | inr there ↦ inr there
    ]

pub touches_weaker : (Has Also : ℕ → Type 0) (top : ℕ) (a b : List Bool) → ((address : ℕ) → Has address → Also address) → TouchesOnly Has top a b
    → TouchesOnly Also top a b
touches_weaker Has Also top a b also only frame now = elim (only frame now) as
    (λ _. (is_touched a frame ≡ true) ⊎ ((address : ℕ) × IsInFrame top frame address × Also address)) [
      | inl before ↦ inl before
      | inr there ↦ inr (there.0, there.1, also there.0 there.2)
    ]

-- ---- one frame after others were touched

or_true : (a b : Bool) → (a || b) ≡ true → (a ≡ true) ⊎ (b ≡ true)
or_true true b is = inl refl
or_true false b is = inr is

pub flag_now : (test : ℕ → Bool) (index : ℕ) (touched : List Bool) (frame : ℕ) → is_touched (touched_from test index touched) frame ≡ true
    → (is_touched touched frame ≡ true) ⊎ (test (index + frame) ≡ true)
unfolding touched_from
flag_now test index [] frame now = inl now
flag_now test index (was ∷ touched) zero now = elim (or_true was (test index) now) as (λ _. (was ≡ true) ⊎ (test (index + zero) ≡ true)) [
  | inl before ↦ inl before
  | inr here ↦ inr (ap test (add-zero index) ∙ here)
]
flag_now test index (was ∷ touched) (suc frame) now =
    let next : suc index + frame ≡ index + suc frame = omega arith in
    elim (flag_now test (suc index) touched frame now) as (λ _. (is_touched touched frame ≡ true) ⊎ (test (index + suc frame) ≡ true)) [
      | inl before ↦ inl before
      | inr here ↦ inr (ap test (sym next) ∙ here)
    ]

-- a range has an address in each frame that it meets
meeting : (top address count frame : ℕ) → meets top address count frame ≡ true
    → (0 < count) × (address < frame_start top frame + 4096) × (frame_start top frame < address + count)
unfolding meets
meeting top address count frame is = (grind arith, grind arith, grind arith)

in_range : (top address count frame : ℕ) → meets top address count frame ≡ true
    → (a : ℕ) × IsInFrame top frame a × ((address ≤ a) × (a < address + count))
in_range top address count frame is =
    let met = meeting top address count frame is in
    elim (cases_lt address (frame_start top frame)) as (λ _. (a : ℕ) × IsInFrame top frame a × ((address ≤ a) × (a < address + count))) [
      | inl before ↦ (frame_start top frame, (omega arith, omega arith), (omega arith, met.2))
      | inr from ↦ (address, (from, met.1), (omega arith, omega (arith, met.0)))
    ]

pub touches_range : (top address count : ℕ) (touched : List Bool)
    → TouchesOnly (λ a. (address ≤ a) × (a < address + count)) top touched (touched_at top address count touched)
touches_range top address count touched frame now =
    elim (flag_now (meets top address count) 0 touched frame now) as (λ _. (is_touched touched frame ≡ true) ⊎
    ((a : ℕ) × IsInFrame top frame a × ((address ≤ a) × (a < address + count)))) [
      | inl before ↦ inl before
      | inr here ↦
          let is : meets top address count frame ≡ true = ap (meets top address count) (omega arith) ∙ here in
          inr (in_range top address count frame is)
    ]

-- ---- frames that are touched one range after the other

or_false : (a : Bool) → (a || false) ≡ a
or_false true = refl
or_false false = refl

or_one : (a b : Bool) → b ≡ true → (a || b) ≡ true
or_one true b is = refl
or_one false b is = is

or_three : (a b c d : Bool) → d ≡ (b || c) → ((a || b) || c) ≡ (a || d)
or_three true b c d is = refl
or_three false b c d is = sym is

same_test : (b c : Bool) → (b ≡ true → c ≡ true) → (c ≡ true → b ≡ true) → b ≡ c
same_test true c to from = sym (to refl)
same_test false true to from = from refl
same_test false false to from = refl

-- none are touched where none passes the test
from_none : (test : ℕ → Bool) (index : ℕ) (touched : List Bool) → ((k : ℕ) → k < length touched → test (index + k) ≡ false)
    → touched_from test index touched ≡ touched
unfolding touched_from
from_none test index [] none = refl
from_none test index (was ∷ touched) none =
    let here : test index ≡ false = ap test (sym (add-zero index)) ∙ none 0 (omega arith) in
    let later : touched_from test (suc index) touched ≡ touched = from_none test (suc index) touched (λ k below.
    let next : suc index + k ≡ index + suc k = omega arith in ap test next ∙ none (suc k) (omega arith)) in
    ap (λ b. (was || b) ∷ touched_from test (suc index) touched) here ∙ ap (λ b. b ∷ touched_from test (suc index) touched) (or_false was)
    ∙ ap (λ l. was ∷ l) later

-- one alone passes it
from_one : (test : ℕ → Bool) (index : ℕ) (touched : List Bool) (i : ℕ) → i < length touched → test (index + i) ≡ true
    → ((k : ℕ) → k < length touched → k ≢ i → test (index + k) ≡ false) → touched_from test index touched ≡ set touched i true
unfolding touched_from
from_one test index [] i below passes none = absurd (omega arith)
from_one test index (was ∷ touched) zero below passes none =
    let here : test index ≡ true = ap test (sym (add-zero index)) ∙ passes in
    let later : touched_from test (suc index) touched ≡ touched = from_none test (suc index) touched (λ k inside.
    let next : suc index + k ≡ index + suc k = omega arith in ap test next ∙ none (suc k) (omega arith) (λ e. omega arith)) in
    ap (λ b. b ∷ touched_from test (suc index) touched) (or_one was (test index) here) ∙ ap (λ l. true ∷ l) later
from_one test index (was ∷ touched) (suc i) below passes none =
    let here : test index ≡ false = ap test (sym (add-zero index)) ∙ none 0 (omega arith) (λ e. omega arith) in
    let at : suc index + i ≡ index + suc i = omega arith in
    let later : touched_from test (suc index) touched ≡ set touched i true = from_one test (suc index) touched i (omega arith) (ap test at
    ∙ passes) (λ k inside other.
    let next : suc index + k ≡ index + suc k = omega arith in ap test next ∙ none (suc k) (omega arith) (λ e. other (omega arith))) in
    ap (λ b. (was || b) ∷ touched_from test (suc index) touched) here ∙ ap (λ b. b ∷ touched_from test (suc index) touched) (or_false was)
    ∙ ap (λ l. was ∷ l) later

-- one test after another is one of both
from_both : (first second both : ℕ → Bool) (index : ℕ) (touched : List Bool) → ((k : ℕ) → both k ≡ (first k || second k))
    → touched_from second index (touched_from first index touched) ≡ touched_from both index touched
unfolding touched_from
from_both first second both index [] are = refl
from_both first second both index (was ∷ touched) are =
    ap (λ b. b ∷ touched_from second (suc index) (touched_from first (suc index) touched)) (or_three was (first index) (second index) (both index) (are index))
    ∙ ap (λ l. (was || both index) ∷ l) (from_both first second both (suc index) touched are)

-- when a frame is met
pub met : (top address count frame : ℕ) → 0 < count → address < frame_start top frame + 4096 → frame_start top frame < address + count
    → meets top address count frame ≡ true
unfolding meets
met top address count frame some before past = grind arith

meets_both : (top address first second frame : ℕ)
    → meets top address (first + second) frame ≡ (meets top address first frame || meets top (address + first) second frame)
meets_both top address first second frame =
    same_test (meets top address (first + second) frame) (meets top address first frame || meets top (address + first) second frame)
    (λ all. let has = meeting top address (first + second) frame all in
    elim (cases_lt (frame_start top frame) (address + first)) as (λ _. (meets top address first frame || meets top (address + first) second frame) ≡ true) [
      | inl early ↦ elim (cases_lt 0 first) as (λ _. (meets top address first frame || meets top (address + first) second frame) ≡ true) [
        | inl some ↦ ap (λ b. b || meets top (address + first) second frame) (met top address first frame some has.1 early)
        | inr none ↦ or_one (meets top address first frame) _ (met top (address + first) second frame (omega (arith, has.0)) (omega (arith, has.1))
            (omega (arith, has.2)))
      ]
      | inr late ↦ or_one (meets top address first frame) _ (met top (address + first) second frame (omega (arith, has.0, has.1, has.2))
          (omega (arith, has.1)) (omega (arith, has.2)))
    ])
    (λ either. elim (or_true (meets top address first frame) (meets top (address + first) second frame) either) as
    (λ _. meets top address (first + second) frame ≡ true) [
      | inl early ↦ let has = meeting top address first frame early in
          met top address (first + second) frame (omega (arith, has.0)) has.1 (omega (arith, has.2))
      | inr late ↦ let has = meeting top (address + first) second frame late in
          met top address (first + second) frame (omega (arith, has.0)) (omega (arith, has.1)) (omega (arith, has.2))
    ])

-- a range in two pieces
pub touched_more : (top address first second : ℕ) (touched : List Bool)
    → touched_at top (address + first) second (touched_at top address first touched) ≡ touched_at top address (first + second) touched
touched_more top address first second touched =
    from_both (meets top address first) (meets top (address + first) second) (meets top address (first + second)) 0 touched
    (meets_both top address first second)

-- no bytes
pub touched_nothing : (top address : ℕ) (touched : List Bool) → touched_at top address 0 touched ≡ touched
touched_nothing top address touched = from_none (meets top address 0) 0 touched (λ k below.
    false_from_ne_true (meets top address 0 (0 + k)) (λ is. let has = meeting top address 0 (0 + k) is in omega (arith, has.0)))

-- ---- bytes within one frame

pub length_flags : (frames : List (Option (List ℕ))) → length (map is_filled frames) ≡ length frames
length_flags [] = refl
length_flags (f ∷ fs) = ap suc (length_flags fs)

-- the flag of a frame
pub flag_is : (frames : List (Option (List ℕ))) (k : ℕ) → is_touched (map is_filled frames) k ≡ is_filled (get_or frames k None)
flag_is [] k = refl
flag_is (f ∷ fs) zero = refl
flag_is (f ∷ fs) (suc k) = flag_is fs k

-- where a frame begins
pub start_low : (top frame : ℕ) → frame < 256 → frame_start top frame ≡ frame * 4096
start_low top frame low = grind arith

pub start_high : (top frame : ℕ) → 256 ≤ frame → frame_start top frame ≡ high_start top + (frame - 256) * 4096
start_high top frame high = grind arith

-- the frame that has the bytes of a place meets them
here_met : (top a n place : ℕ) → IsTop top → IsRam top a → IsPlaceOf top a place → 0 < n → a % 4096 + n ≤ 4096
    → meets top a n (place / 4096) ≡ true
here_met top a n place lawful ram is some within = elim (cases_lt a 0x100000) as (λ _. meets top a n (place / 4096) ≡ true) [
  | inl low ↦
      let at = is.low low in let start = start_low top (place / 4096) (omega (arith, at)) in
      met top a n (place / 4096) some (omega (arith, at, start)) (omega (arith, at, start))
  | inr past ↦
      let at = is.high past in let high = in_high top a lawful ram past in
      let start = start_high top (place / 4096) (omega (arith, at, high.0, lawful.at_least)) in
      met top a n (place / 4096) some (omega (arith, at, start, high.0, lawful.at_least, lawful.whole))
      (omega (arith, at, start, high.0, lawful.at_least, lawful.whole))
]

-- and no other does
other_not_met : (top a n place k : ℕ) → IsTop top → IsRam top a → IsPlaceOf top a place → a % 4096 + n ≤ 4096 → k ≢ place / 4096
    → meets top a n k ≡ false
other_not_met top a n place k lawful ram is within other = false_from_ne_true (meets top a n k) (λ all.
    let has = meeting top a n k all in
    elim (cases_lt a 0x100000) as (λ _. ⊥) [
      | inl low ↦ let at = is.low low in elim (cases_lt k 256) as (λ _. ⊥) [
        | inl early ↦ let start = start_low top k early in other (omega (arith, at, start, has.1, has.2))
        | inr late ↦ let start = start_high top k late in absurd (omega (arith, start, has.2, lawful.at_least))
      ]
      | inr past ↦ let at = is.high past in let high = in_high top a lawful ram past in elim (cases_lt k 256) as (λ _. ⊥) [
        | inl early ↦ let start = start_low top k early in absurd (omega (arith, start, has.1, high.0, lawful.at_least))
        | inr late ↦ let start = start_high top k late in other (omega (arith, at, start, has.1, has.2, high.0, lawful.at_least, lawful.whole))
      ]
    ])

pub touched_in_frame : (top a n place : ℕ) (frames : List (Option (List ℕ))) (bytes : List ℕ) → IsTop top → IsRam top a → IsPlaceOf top a place
    → 0 < n → a % 4096 + n ≤ 4096 → place / 4096 < length frames
    → map is_filled (slice_set frames (place / 4096) (Some bytes)) ≡ touched_at top a n (map is_filled frames)
touched_in_frame top a n place frames bytes lawful ram is some within inside =
    let size = length_flags frames in
    sym (flags-set frames (place / 4096) bytes)
    ∙ sym (from_one (meets top a n) 0 (map is_filled frames) (place / 4096) (omega (arith, size)) (ap (meets top a n) (omega arith)
    ∙ here_met top a n place lawful ram is some within)
    (λ k below other. ap (meets top a n) (omega arith) ∙ other_not_met top a n place k lawful ram is within other))
