-- Segments that are read one after the other.
use Rattle.std.proofs.Common.{◌≡◌, ℕ, suc, ◌+◌, ◌-◌, ◌<◌, List, [], ◌∷◌, ◌++◌, length, take, drop, refl, sym, ap, ◌∙◌, append_assoc, append-nil}
use Rattle.std.proofs.Common.{arith, Result, Ok, Err}
use Rattle.std.proofs.lemmas.List.{drop-drop, take_rest}
use Rattle.vt_outside.specs.Readings.{◌into◌, Agrees}
use Rattle.aml_terms.specs.declared.fault.AmlFault.{AmlFault}
use Rattle.aml_terms.specs.Reading.{behind, made_at, segment_at, segments_at, reported}
use Rattle.aml_decode.specs.declared.found.Found.{Found}
use Rattle.aml_decode.proofs.Faults.{fault_of_all, bind_twice}

-- segments of so many bytes, before those that are read
abbrev pub with_segments : List (List ℕ) → ℕ → Result (List (List ℕ) × ℕ) AmlFault → Result (List (List ℕ) × ℕ) AmlFault
with_segments front size read = read into λ x. Ok (front ++ x.0, size + x.1)

-- what is read behind a segment of so many bytes
abbrev behind_one : ℕ → ℕ → List ℕ → List ℕ × ℕ → Result (List (List ℕ) × ℕ) AmlFault
behind_one left place text x = behind x.1 (made_at (λ ss. x.0 ∷ ss) (segments_at left) (place + x.1) (drop x.1 text))

one_more : (left place : ℕ) (text : List ℕ) → segments_at (suc left) place text ≡ (segment_at place text into behind_one left place text)
unfolding segments_at
one_more left place text = refl

regroup : (front : List (List ℕ)) (s : List ℕ) (size : ℕ) (read : Result (List (List ℕ) × ℕ) AmlFault)
    → with_segments (front ++ s ∷ []) (size + 4) read ≡ with_segments front size (behind 4 (read into λ x. Ok (s ∷ x.0, x.1)))
regroup front s size (Ok x) =
    let count : size + 4 + x.1 ≡ size + (4 + x.1) = omega arith in
    ap (λ ss. Ok (ss, size + 4 + x.1)) (append_assoc front (s ∷ []) x.0) ∙ ap (λ n. Ok (front ++ s ∷ x.0, n)) count
regroup front s size (Err fault) = refl

next_one : (front : List (List ℕ)) (s : List ℕ) (size left place : ℕ) (text : List ℕ) → segment_at place text ≡ Ok (s, 4)
    → with_segments (front ++ s ∷ []) (size + 4) (segments_at left (place + 4) (drop 4 text)) ≡ with_segments front size (segments_at (suc left) place text)
next_one front s size left place text e =
    regroup front s size (segments_at left (place + 4) (drop 4 text))
    ∙ ap (λ r. with_segments front size (r into behind_one left place text)) (sym e)
    ∙ ap (with_segments front size) (sym (one_more left place text))

-- a segment is read, and fewer are still to come
pub next_segment : (front new : List (List ℕ)) (s : List ℕ) (count index place size : ℕ) (text : List ℕ)
    (all : Result (List (List ℕ) × ℕ) AmlFault) → index < count
    → segment_at (place + size) (take (length text - size) (drop size text)) ≡ Ok (s, 4) → new ≡ front ++ s ∷ []
    → with_segments front size (segments_at (count - index) (place + size) (drop size text)) ≡ all
    → with_segments new (size + 4) (segments_at (count - (index + 1)) (place + (size + 4)) (drop (size + 4) text)) ≡ all
next_segment front new s count index place size text all more is pushed e =
    let left : count - index ≡ suc (count - (index + 1)) = omega arith in
    let at : place + (size + 4) ≡ place + size + 4 = omega arith in
    let behind : drop (size + 4) text ≡ drop 4 (drop size text) = sym (drop-drop 4 size text) in
    let next : segment_at (place + size) (drop size text) ≡ Ok (s, 4) = ap (segment_at (place + size)) (sym (take_rest text size)) ∙ is in
    rw (pushed, at, behind) (next_one front s size (count - (index + 1)) (place + size) (drop size text) next)
    ∙ ap (λ n. with_segments front size (segments_at n (place + size) (drop size text))) (sym left) ∙ e

-- none is still to come
pub last_segment : (front : List (List ℕ)) (left place size : ℕ) (text : List ℕ) (all : Result (List (List ℕ) × ℕ) AmlFault) → left ≡ 0
    → with_segments front size (segments_at left place text) ≡ all → all ≡ Ok (front, size)
unfolding segments_at
last_segment front left place size text all none e =
    let count : size + 0 ≡ size = omega arith in
    sym e ∙ ap (λ n. with_segments front size (segments_at n place text)) none
    ∙ ap (λ ss. Ok (ss, size + 0)) (append-nil front) ∙ ap (λ n. Ok (front, n)) count

-- the next segment is at fault, and so are all
pub bad_segment : (fault : AmlFault) (front : List (List ℕ)) (left place size : ℕ) (text rest : List ℕ)
    (all : Result (List (List ℕ) × ℕ) AmlFault) → 0 < left → Agrees {Value = List ℕ} reported (λ s. (s, 4)) (Err fault) (segment_at place rest) → rest ≡ text
    → with_segments front size (segments_at left place text) ≡ all
    → Agrees {Value = Found (List (List ℕ))} reported (λ found. (found.value, found.size)) (Err fault) all
bad_segment fault front left place size text rest all some is same e =
    let one : left ≡ suc (left - 1) = omega arith in
    fault_of_all {X = List ℕ} {Y = Found (List (List ℕ))} (λ s. (s, 4)) (λ found. (found.value, found.size)) fault (segment_at place rest)
    (λ x. with_segments front size (behind_one (left - 1) place text x)) all is
    (ap (λ r. segment_at place r into (λ x. with_segments front size (behind_one (left - 1) place text x))) same
    ∙ sym (bind_twice (segment_at place text) (behind_one (left - 1) place text) (λ x. Ok (front ++ x.0, size + x.1)))
    ∙ ap (with_segments front size) (sym (one_more (left - 1) place text)) ∙ ap (λ n. with_segments front size (segments_at n place text)) (sym one) ∙ e)
