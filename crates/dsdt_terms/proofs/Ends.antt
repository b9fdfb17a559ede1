-- Bytes that end in a dword, which alone depends on its number, and a zero.
use Rattle.std.proofs.Common.{◌≡◌, ℕ, zero, suc, ◌+◌, ◌-◌, List, [], ◌∷◌, ◌++◌, length, take, refl, sym, ap, ◌∙◌, arith, append_assoc, append-nil}
use Rattle.std.proofs.Common.{length-append}
use Rattle.vt_bytes.specs.Numbers.{le_bytes}
use Rattle.vt_bytes.proofs.Numbers.{length-le_bytes}
use Rattle.aml_terms.specs.Written.{package_length}

-- what a dword and the zero behind it are
abbrev pub tail : ℕ → List ℕ
tail n = le_bytes 4 n ++ 0 ∷ []

-- in front of them the same bytes stand, whatever the number is
pub record Ends (bytes : ℕ → List ℕ) : Type 0 where
  pub front : List ℕ
  pub are : (n : ℕ) → bytes n ≡ front ++ tail n

pub ends_as : (bytes others : ℕ → List ℕ) → ((n : ℕ) → others n ≡ bytes n) → Ends bytes → Ends others
ends_as bytes others same ends = record { front = ends.front; are = λ n. same n ∙ ends.are n }

-- with bytes in front, and with none behind
pub ends_behind : (before : List ℕ) (bytes : ℕ → List ℕ) → Ends bytes → Ends (λ n. before ++ bytes n)
ends_behind before bytes ends = record {
  front = before ++ ends.front;
  are = λ n. ap (λ those. before ++ those) (ends.are n) ∙ sym (append_assoc before ends.front (tail n));
}

pub ends_alone : (bytes : ℕ → List ℕ) → Ends bytes → Ends (λ n. bytes n ++ [])
ends_alone bytes ends = record { front = ends.front; are = λ n. append-nil (bytes n) ∙ ends.are n }

-- and enclosed by a package length, which is the same for each number
same_length : (bytes : ℕ → List ℕ) (ends : Ends bytes) (n : ℕ) → length (bytes n) ≡ length ends.front + 5
same_length bytes ends n =
    let dword : length (le_bytes 4 n) ≡ 4 = length-le_bytes 4 n in
    ap length (ends.are n) ∙ length-append ends.front (tail n)
    ∙ ap (λ k. length ends.front + k) (length-append (le_bytes 4 n) (0 ∷ []) ∙ ap (λ k. k + 1) dword)

pub ends_enclosed : (opcode : List ℕ) (bytes : ℕ → List ℕ) → Ends bytes → Ends (λ n. (opcode ++ package_length (length (bytes n))) ++ bytes n)
ends_enclosed opcode bytes ends =
    let before : List ℕ = opcode ++ package_length (length ends.front + 5) in
    ends_as (λ n. before ++ bytes n) (λ n. (opcode ++ package_length (length (bytes n))) ++ bytes n)
    (λ n. ap (λ k. (opcode ++ package_length k) ++ bytes n) (same_length bytes ends n)) (ends_behind before bytes ends)

-- the bytes in front are all but the last five
taken_front : (front last : List ℕ) (count : ℕ) → length front ≡ count → take count (front ++ last) ≡ front
taken_front [] last zero is = refl
taken_front [] last (suc count) is = absurd (omega (arith, is))
taken_front (b ∷ front) last zero is = absurd (omega (arith, is))
taken_front (b ∷ front) last (suc count) is = ap (λ those. b ∷ those) (taken_front front last count (omega (arith, is)))

pub front_taken : (bytes : ℕ → List ℕ) (ends : Ends bytes) (n : ℕ) → take (length (bytes n) - 5) (bytes n) ≡ ends.front
front_taken bytes ends n =
    let whole : length (bytes n) ≡ length ends.front + 5 = same_length bytes ends n in
    let count : length ends.front ≡ length (bytes n) - 5 = omega (arith, whole) in
    ap (take (length (bytes n) - 5)) (ends.are n) ∙ taken_front ends.front (tail n) (length (bytes n) - 5) count
