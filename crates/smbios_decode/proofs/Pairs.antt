-- The pairs of neighbours among bytes, and those that are two NULs.
use Rattle.std.proofs.Common.{◌≡◌, ℕ, zero, suc, ◌+◌, ◌<◌, ◌≤◌, List, [], ◌∷◌, length, take, drop, Option, Some, None, MatchOption, IfSome, get_or}
use Rattle.std.proofs.Common.{arith, refl, ap, sym, ◌∙◌, subst}
use Rattle.std.specs.List.{HoldsAt, AllWithin, slice_get}
use Rattle.std.specs.Slice.Iter.{windows_rest, windows_size, windows_steps}
use Rattle.std.proofs.lemmas.Iterator.{YieldsList}
use Rattle.std.proofs.lemmas.Iterator.Splits.{YieldsList-from_shown_while}
use Rattle.smbios_decode.specs.Ends.{HasEnd, IsFirstEnd}

-- each byte with the next one
pub pairs : List ℕ → List (List ℕ)
pairs [] = []
pairs (byte ∷ []) = []
pairs (byte ∷ next ∷ bytes) = (byte ∷ next ∷ []) ∷ pairs (next ∷ bytes)

no_pairs : (bytes : List ℕ) → length bytes < 2 → length (pairs bytes) ≡ 0
unfolding pairs
no_pairs [] short = refl
no_pairs (byte ∷ []) short = refl
no_pairs (byte ∷ next ∷ bytes) short = absurd (omega arith)

first_pair : (bytes : List ℕ) → 2 ≤ length bytes → pairs bytes ≡ take 2 bytes ∷ pairs (drop 1 bytes)
unfolding pairs
first_pair [] long = absurd (omega arith)
first_pair (byte ∷ []) long = absurd (omega arith)
first_pair (byte ∷ next ∷ bytes) long = refl

-- the windows of two bytes are the pairs
pub windows_yield : {s : _} (bytes : List ℕ) → windows_rest s ≡ bytes → windows_size s ≡ 2 → YieldsList (windows_steps {A = ℕ}) (λ w. w.now) s (pairs bytes)
windows_yield {s} bytes rest two =
    subst (λ all. YieldsList (windows_steps {A = ℕ}) (λ w. w.now) s (pairs all)) rest
    (YieldsList-from_shown_while (windows_steps {A = ℕ}) (λ w. w.now) (λ t. pairs (windows_rest t)) (λ t. windows_size t ≡ 2)
    (λ t u size step. no_pairs (windows_rest t) (omega (arith, size, step.1.0)))
    (λ t w u size step. (
      step.0 ∙ size,
      first_pair (windows_rest t) (omega (arith, size, step.1.0))
          ∙ ap (λ (rest : List ℕ). take 2 (windows_rest t) ∷ pairs rest) (sym step.1.2)
          ∙ ap (λ (pair : List ℕ). pair ∷ pairs (windows_rest u)) (ap (λ n. take n (windows_rest t)) (sym size) ∙ sym step.1.1),
    ))
    s two)

-- two NULs in a row behind one byte more
pub end_behind : (byte : ℕ) (bytes : List ℕ) (place : ℕ) → HasEnd (byte ∷ bytes) (suc place) → HasEnd bytes place
end_behind byte bytes place end =
    let next : suc place + 1 ≡ suc (place + 1) = omega arith in
    (end.0, subst (λ n. slice_get (byte ∷ bytes) n ≡ Some 0) next end.1)

pub end_in_front : (byte : ℕ) (bytes : List ℕ) (place : ℕ) → HasEnd bytes place → HasEnd (byte ∷ bytes) (suc place)
end_in_front byte bytes place end =
    let next : suc (place + 1) ≡ suc place + 1 = omega arith in
    (end.0, subst (λ n. slice_get (byte ∷ bytes) n ≡ Some 0) next end.1)

-- two NULs in a row are a pair
pair_of_end : (bytes : List ℕ) (place : ℕ) → HasEnd bytes place → (place < length (pairs bytes)) × (get_or (pairs bytes) place [] ≡ 0 ∷ 0 ∷ [])
unfolding pairs
pair_of_end [] place end = absurd (cc end.0)
pair_of_end (byte ∷ []) zero end = absurd (cc end.1)
pair_of_end (byte ∷ []) (suc place) end = absurd (cc end.0)
pair_of_end (byte ∷ next ∷ bytes) zero end =
    let first = end.0 in
    let second = end.1 in
    (omega arith, cc)
pair_of_end (byte ∷ next ∷ bytes) (suc place) end =
    let others = pair_of_end (next ∷ bytes) place (end_behind byte (next ∷ bytes) place end) in
    (omega (arith, others.0), others.1)

end_of_pair : (bytes : List ℕ) (place : ℕ) → place < length (pairs bytes) → get_or (pairs bytes) place [] ≡ 0 ∷ 0 ∷ [] → HasEnd bytes place
unfolding pairs
end_of_pair [] place within is = absurd (omega arith)
end_of_pair (byte ∷ []) place within is = absurd (omega arith)
end_of_pair (byte ∷ next ∷ bytes) zero within is =
    let first : byte ≡ 0 = cc in
    let second : next ≡ 0 = cc in
    (ap Some first, ap Some second)
end_of_pair (byte ∷ next ∷ bytes) (suc place) within is =
    end_in_front byte (next ∷ bytes) place (end_of_pair (next ∷ bytes) place (omega arith) is)

-- a pair of two NULs, and one that isn't
abbrev pub IsEnd : List ℕ → Type 0
IsEnd pair = pair ≡ 0 ∷ 0 ∷ []

abbrev pub IsNoEnd : List ℕ → Type 0
IsNoEnd pair = pair ≡ 0 ∷ 0 ∷ [] → ⊥

-- where the first pair of two NULs is, if any
abbrev pub IsFirstPair : List ℕ → Option ℕ → Type 0
IsFirstPair bytes found =
    MatchOption found (AllWithin IsNoEnd (pairs bytes) 0 (length (pairs bytes)))
    (λ place. (place < length (pairs bytes)) × HoldsAt IsEnd (pairs bytes) place × AllWithin IsNoEnd (pairs bytes) 0 place)

pub first_end : (bytes : List ℕ) (found : Option ℕ) → IsFirstPair bytes found → IfSome found (λ place. IsFirstEnd bytes place)
first_end bytes None is = tt
first_end bytes (Some place) is = (
  end_of_pair bytes place is.0 (is.1 []),
  λ earlier before end. is.2 earlier [] (omega arith) before (pair_of_end bytes earlier end).1,
)

pub no_end : (bytes : List ℕ) (found : Option ℕ) → IsFirstPair bytes found → found ≡ None → (place : ℕ) → HasEnd bytes place → ⊥
no_end bytes None is none place end =
    let pair = pair_of_end bytes place end in
    is place [] (omega arith) pair.0 pair.1
no_end bytes (Some found) is none place end = absurd (cc)
