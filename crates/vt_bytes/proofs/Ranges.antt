-- The bytes of ranges of addresses, and what bytes that are put there leave.
use Rattle.std.proofs.Common.{◌≡◌, ℕ, ◌+◌, ◌-◌, ◌<◌, ◌≤◌, ◌⊎◌, inl, inr, true, false, List, [], ◌∷◌, length, slice_index, take}
use Rattle.std.proofs.Common.{cond, arith, refl, ap, sym, subst, ◌∙◌, length-take}
use Rattle.std.proofs.lemmas.Bool.Decides.{nat_tests}
use Rattle.std.proofs.lemmas.Bool.{cases_lt}
use Rattle.std.proofs.lemmas.List.{ext_get_or, take_all}
use Rattle.vt_bytes.specs.Parts.{put_at}
use Rattle.vt_bytes.specs.declared.memory.AddressRange.{AddressRange}
use Rattle.vt_bytes.proofs.PutAt.{length-put_at, index-put_at, index-beside_put, put_at-none}
use Rattle.vt_bytes.specs.Memory.{IsIn, is_in, IsInOne, Fit, byte_in, put_in}

-- an address beside a range
abbrev pub IsBeside : AddressRange → ℕ → Type 0
IsBeside range address = (address < range.start) ⊎ (range.end ≤ address)

cases_in : (range : AddressRange) (address : ℕ) → IsIn range address ⊎ IsBeside range address
cases_in range address = elim (cases_lt address range.start) as (λ _. IsIn range address ⊎ IsBeside range address) [
  | inl before ↦ inr (inl before)
  | inr from ↦ elim (cases_lt address range.end) as (λ _. IsIn range address ⊎ IsBeside range address) [
    | inl below ↦ inl (from, below)
    | inr past ↦ inr (inr past)
  ]
]

in_tested : (range : AddressRange) (address : ℕ) → IsIn range address → is_in range address ≡ true
in_tested range address inside = grind (arith, nat_tests)

beside_tested : (range : AddressRange) (address : ℕ) → IsBeside range address → is_in range address ≡ false
beside_tested range address beside = grind (arith, nat_tests)

-- the byte at an address of the first range, and at one of another
pub byte_here : (range : AddressRange) (ranges : List AddressRange) (part : List ℕ) (parts : List (List ℕ)) (address : ℕ) → IsIn range address
    → byte_in (range ∷ ranges) (part ∷ parts) address ≡ slice_index part (address - range.start)
unfolding byte_in
byte_here range ranges part parts address inside =
    ap (λ test. cond test (slice_index part (address - range.start)) (byte_in ranges parts address)) (in_tested range address inside)

pub byte_later : (range : AddressRange) (ranges : List AddressRange) (part : List ℕ) (parts : List (List ℕ)) (address : ℕ) → IsBeside range address
    → byte_in (range ∷ ranges) (part ∷ parts) address ≡ byte_in ranges parts address
unfolding byte_in
byte_later range ranges part parts address beside =
    ap (λ test. cond test (slice_index part (address - range.start)) (byte_in ranges parts address)) (beside_tested range address beside)

-- what bytes put in the first range leave, and in another
pub put_here : (range : AddressRange) (ranges : List AddressRange) (part : List ℕ) (parts : List (List ℕ)) (address : ℕ) (bytes : List ℕ)
    → IsIn range address
    → put_in (range ∷ ranges) (part ∷ parts) address bytes ≡ put_at part (address - range.start) (take (range.end - address) bytes) ∷ parts
unfolding put_in
put_here range ranges part parts address bytes inside =
    ap (λ test. cond test (put_at part (address - range.start) (take (range.end - address) bytes) ∷ parts) (part ∷ put_in ranges parts address bytes))
    (in_tested range address inside)

pub put_later : (range : AddressRange) (ranges : List AddressRange) (part : List ℕ) (parts : List (List ℕ)) (address : ℕ) (bytes : List ℕ)
    → IsBeside range address → put_in (range ∷ ranges) (part ∷ parts) address bytes ≡ part ∷ put_in ranges parts address bytes
unfolding put_in
put_later range ranges part parts address bytes beside =
    ap (λ test. cond test (put_at part (address - range.start) (take (range.end - address) bytes) ∷ parts) (part ∷ put_in ranges parts address bytes))
    (beside_tested range address beside)

-- the ranges stand in order from an address on, with a gap between each two
abbrev pub Ascend : ℕ → List AddressRange → Type 0
Ascend from [] = Unit {0}
Ascend from (range ∷ ranges) = (from ≤ range.start) × (range.start ≤ range.end) × Ascend (range.end + 1) ranges

past_from : (from : ℕ) (ranges : List AddressRange) (address : ℕ) → Ascend from ranges → IsInOne ranges address → from ≤ address
past_from from [] address ascend inside = absurd inside
past_from from (range ∷ ranges) address ascend inside = elim inside as (λ _. from ≤ address) [
  | inl here ↦ omega (arith, ascend.0, here.0)
  | inr later ↦ omega (arith, ascend.0, ascend.1, past_from (range.end + 1) ranges address ascend.2 later)
]

-- a run of addresses that begins in the first range ends there
pub run_ends : (from : ℕ) (range : AddressRange) (ranges : List AddressRange) (address count : ℕ) → Ascend from (range ∷ ranges) → IsIn range address
    → ((i : ℕ) → i < count → IsInOne (range ∷ ranges) (address + i)) → address + count ≤ range.end
run_ends from range ranges address count ascend inside each = elim (cases_lt range.end (address + count)) as (λ _. address + count ≤ range.end) [
  | inl over ↦ elim (each (range.end - address) (omega arith)) as (λ _. address + count ≤ range.end) [
    | inl here ↦ absurd (omega arith)
    | inr later ↦ absurd (omega (arith, past_from (range.end + 1) ranges (address + (range.end - address)) ascend.2 later))
  ]
  | inr within ↦ within
]

-- parts that fit still fit once bytes were put in them
pub put_fits : (ranges : List AddressRange) (parts : List (List ℕ)) (address : ℕ) (bytes : List ℕ) → Fit ranges parts
    → Fit ranges (put_in ranges parts address bytes)
unfolding put_in
put_fits [] [] address bytes fit = tt
put_fits [] (part ∷ parts) address bytes fit = absurd fit
put_fits (range ∷ ranges) [] address bytes fit = absurd fit
put_fits (range ∷ ranges) (part ∷ parts) address bytes fit =
    elim (cases_in range address) as (λ _. Fit (range ∷ ranges) (put_in (range ∷ ranges) (part ∷ parts) address bytes)) [
      | inl here ↦
          let room : length (take (range.end - address) bytes) ≤ range.end - address = simp length-take (omega arith) in
          subst (Fit (range ∷ ranges)) (sym (put_here range ranges part parts address bytes here))
          (length-put_at part (address - range.start) (take (range.end - address) bytes) (omega (arith, fit.0)) ∙ fit.0, fit.1)
      | inr beside ↦ subst (Fit (range ∷ ranges)) (sym (put_later range ranges part parts address bytes beside))
          (fit.0, put_fits ranges parts address bytes fit.1)
    ]

-- parts that fit are the same where their bytes are
pub same_parts : (from : ℕ) (ranges : List AddressRange) (parts others : List (List ℕ)) → Ascend from ranges → Fit ranges parts → Fit ranges others
    → ((a : ℕ) → IsInOne ranges a → byte_in ranges parts a ≡ byte_in ranges others a) → parts ≡ others
same_parts from [] [] [] ascend fit fits same = refl
same_parts from [] [] (other ∷ others) ascend fit fits same = absurd fits
same_parts from [] (part ∷ parts) others ascend fit fits same = absurd fit
same_parts from (range ∷ ranges) [] others ascend fit fits same = absurd fit
same_parts from (range ∷ ranges) (part ∷ parts) [] ascend fit fits same = absurd fits
same_parts from (range ∷ ranges) (part ∷ parts) (other ∷ others) ascend fit fits same =
    let first : part ≡ other = ext_get_or 0 part other (fit.0 ∙ sym fits.0) (λ i below.
    let here : IsIn range (range.start + i) = (omega arith, omega (arith, fit.0, ascend.1)) in
    let place : range.start + i - range.start ≡ i = omega arith in
    ap (slice_index part) (sym place) ∙ sym (byte_here range ranges part parts (range.start + i) here) ∙ same (range.start + i) (inl here)
    ∙ byte_here range ranges other others (range.start + i) here ∙ ap (slice_index other) place) in
    let rest : parts ≡ others = same_parts (range.end + 1) ranges parts others ascend.2 fit.1 fits.1 (λ a later.
    let beside : IsBeside range a = inr (omega (arith, past_from (range.end + 1) ranges a ascend.2 later)) in
    sym (byte_later range ranges part parts a beside) ∙ same a (inr later) ∙ byte_later range ranges other others a beside) in
    ap (λ p. p ∷ parts) first ∙ ap (λ ps. other ∷ ps) rest

-- a run of addresses that begins beside the first range is in the others
run_later : (from : ℕ) (range : AddressRange) (ranges : List AddressRange) (address count : ℕ) → Ascend from (range ∷ ranges) → IsBeside range address
    → 0 < count → ((i : ℕ) → i < count → IsInOne (range ∷ ranges) (address + i))
    → (range.end < address) × ((i : ℕ) → i < count → IsInOne ranges (address + i))
run_later from range ranges address count ascend beside some each =
    let after : range.end < address = elim (each 0 some) as (λ _. range.end < address) [
      | inl here ↦ absurd (omega arith)
      | inr later ↦ omega (arith, past_from (range.end + 1) ranges (address + 0) ascend.2 later)
    ] in
    (after, λ i below. elim (each i below) as (λ _. IsInOne ranges (address + i)) [ inl here ↦ absurd (omega arith) | inr later ↦ later ])

-- bytes that were put are there
pub byte_put : (from : ℕ) (ranges : List AddressRange) (parts : List (List ℕ)) (address : ℕ) (bytes : List ℕ) (i : ℕ) → Ascend from ranges
    → Fit ranges parts → ((j : ℕ) → j < length bytes → IsInOne ranges (address + j)) → i < length bytes
    → byte_in ranges (put_in ranges parts address bytes) (address + i) ≡ slice_index bytes i
byte_put from [] parts address bytes i ascend fit each below = absurd (each i below)
byte_put from (range ∷ ranges) [] address bytes i ascend fit each below = absurd fit
byte_put from (range ∷ ranges) (part ∷ parts) address bytes i ascend fit each below =
    elim (cases_in range address)
    as (λ _. byte_in (range ∷ ranges) (put_in (range ∷ ranges) (part ∷ parts) address bytes) (address + i) ≡ slice_index bytes i) [
      | inl here ↦
          let ends : address + length bytes ≤ range.end = run_ends from range ranges address (length bytes) ascend here each in
          let whole : take (range.end - address) bytes ≡ bytes = take_all (range.end - address) bytes (omega arith) in
          let inside : IsIn range (address + i) = (omega arith, omega arith) in
          let place : address + i - range.start ≡ address - range.start + i = omega arith in
          ap (λ ps. byte_in (range ∷ ranges) ps (address + i)) (put_here range ranges part parts address bytes here
          ∙ ap (λ piece. put_at part (address - range.start) piece ∷ parts) whole)
          ∙ byte_here range ranges (put_at part (address - range.start) bytes) parts (address + i) inside
          ∙ ap (slice_index (put_at part (address - range.start) bytes)) place
          ∙ index-put_at part (address - range.start) bytes i (omega (arith, fit.0)) below
      | inr beside ↦
          let later = run_later from range ranges address (length bytes) ascend beside (omega arith) each in
          let past : IsBeside range (address + i) = inr (omega (arith, later.0)) in
          ap (λ ps. byte_in (range ∷ ranges) ps (address + i)) (put_later range ranges part parts address bytes beside)
          ∙ byte_later range ranges part (put_in ranges parts address bytes) (address + i) past
          ∙ byte_put (range.end + 1) ranges parts address bytes i ascend.2 fit.1 later.1 below
    ]

-- the other bytes are what they were
pub byte_kept : (ranges : List AddressRange) (parts : List (List ℕ)) (address : ℕ) (bytes : List ℕ) (a : ℕ) → Fit ranges parts
    → (a < address) ⊎ (address + length bytes ≤ a) → byte_in ranges (put_in ranges parts address bytes) a ≡ byte_in ranges parts a
unfolding put_in
byte_kept [] parts address bytes a fit other = refl
byte_kept (range ∷ ranges) [] address bytes a fit other = absurd fit
byte_kept (range ∷ ranges) (part ∷ parts) address bytes a fit other =
    elim (cases_in range address)
    as (λ _. byte_in (range ∷ ranges) (put_in (range ∷ ranges) (part ∷ parts) address bytes) a ≡ byte_in (range ∷ ranges) (part ∷ parts) a) [
      | inl here ↦
          let piece = take (range.end - address) bytes in
          let room : length piece ≤ range.end - address = simp length-take (omega arith) in
          let cut : length piece ≤ length bytes = simp length-take (omega arith) in
          let after = put_at part (address - range.start) piece in
          ap (λ ps. byte_in (range ∷ ranges) ps a) (put_here range ranges part parts address bytes here)
          ∙ elim (cases_in range a) as (λ _. byte_in (range ∷ ranges) (after ∷ parts) a ≡ byte_in (range ∷ ranges) (part ∷ parts) a) [
            | inl inside ↦ byte_here range ranges after parts a inside
                ∙ index-beside_put part (address - range.start) piece (a - range.start) (omega (arith, fit.0))
                (elim other as (λ _. (a - range.start < address - range.start) ⊎ (address - range.start + length piece ≤ a - range.start)) [
                  | inl before ↦ inl (omega arith)
                  | inr past ↦ inr (omega arith)
                ])
                ∙ sym (byte_here range ranges part parts a inside)
            | inr beside ↦ byte_later range ranges after parts a beside ∙ sym (byte_later range ranges part parts a beside)
          ]
      | inr later ↦
          let after = put_in ranges parts address bytes in
          ap (λ ps. byte_in (range ∷ ranges) ps a) (put_later range ranges part parts address bytes later)
          ∙ elim (cases_in range a) as (λ _. byte_in (range ∷ ranges) (part ∷ after) a ≡ byte_in (range ∷ ranges) (part ∷ parts) a) [
            | inl inside ↦ byte_here range ranges part after a inside ∙ sym (byte_here range ranges part parts a inside)
            | inr beside ↦ byte_later range ranges part after a beside ∙ byte_kept ranges parts address bytes a fit.1 other
                ∙ sym (byte_later range ranges part parts a beside)
          ]
    ]

-- no bytes change nothing
pub put_in-none : (ranges : List AddressRange) (parts : List (List ℕ)) (address : ℕ) → put_in ranges parts address [] ≡ parts
unfolding put_in
put_in-none [] parts address = refl
put_in-none (range ∷ ranges) [] address = refl
put_in-none (range ∷ ranges) (part ∷ parts) address =
    elim (cases_in range address) as (λ _. put_in (range ∷ ranges) (part ∷ parts) address [] ≡ part ∷ parts) [
      | inl here ↦
          let none : take {A = ℕ} (range.end - address) [] ≡ [] = take_all (range.end - address) [] (omega arith) in
          put_here range ranges part parts address [] here ∙ ap (λ piece. put_at part (address - range.start) piece ∷ parts) none
          ∙ ap (λ p. p ∷ parts) (put_at-none part (address - range.start))
      | inr beside ↦ put_later range ranges part parts address [] beside ∙ ap (λ ps. part ∷ ps) (put_in-none ranges parts address)
    ]
