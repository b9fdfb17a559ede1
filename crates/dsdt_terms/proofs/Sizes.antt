-- How long package lengths, integers and segments are at most, as they are written (ACPI 6.5, 20.2.2 to 20.2.4).
use Rattle.std.proofs.Common.{◌≡◌, ℕ, ◌<◌, ◌≤◌, List, [], ◌∷◌, length, refl, arith, nat_lt, nat_le, ltb-false}
use Rattle.std.proofs.lemmas.Bool.{cond_both}
use Rattle.vt_bytes.proofs.Numbers.{length-le_bytes}
use Rattle.aml_terms.specs.Paths.{IsSegment}
use Rattle.aml_terms.specs.Written.{more_for, package_length, integer}
use Rattle.aml_terms.proofs.WrittenNumbers.{length-package_length}

more_for-most : (body : ℕ) → more_for body ≤ 3
unfolding more_for
more_for-most body =
    cond_both (nat_lt body 0x3F) _ _ (λ more. more ≤ 3) (λ t. omega arith)
    (λ t. cond_both (nat_lt body 0xFFE) _ _ (λ more. more ≤ 3) (λ u. omega arith)
    (λ u. cond_both (nat_lt body 0xFFFFD) _ _ (λ more. more ≤ 3) (λ v. omega arith) (λ v. omega arith)))

pub package_length-most : (body : ℕ) → length (package_length body) ≤ 4
package_length-most body = omega (arith, length-package_length body, more_for-most body)

-- bytes are at most so many
record IsWithin (most : ℕ) (bytes : List ℕ) : Type 0 where
  within : length bytes ≤ most

within_nine : (n : ℕ) → IsWithin 9 (integer n)
unfolding integer
within_nine n =
    cond_both (nat_le n 1) _ _ (IsWithin 9) (λ t. record { within = omega arith })
    (λ t. cond_both (nat_lt n 0x100) _ _ (IsWithin 9) (λ u. record { within = omega (arith, length-le_bytes 1 n) })
    (λ u. cond_both (nat_lt n 0x10000) _ _ (IsWithin 9) (λ v. record { within = omega (arith, length-le_bytes 2 n) })
    (λ v. cond_both (nat_lt n 0x100000000) _ _ (IsWithin 9) (λ w. record { within = omega (arith, length-le_bytes 4 n) })
    (λ w. record { within = omega (arith, length-le_bytes 8 n) }))))

pub integer-most : (n : ℕ) → length (integer n) ≤ 9
integer-most n = (within_nine n).within

-- one below 2^16
within_three : (n : ℕ) → n < 0x10000 → IsWithin 3 (integer n)
unfolding integer
within_three n small =
    cond_both (nat_le n 1) _ _ (IsWithin 3) (λ t. record { within = omega arith })
    (λ t. cond_both (nat_lt n 0x100) _ _ (IsWithin 3) (λ u. record { within = omega (arith, length-le_bytes 1 n) })
    (λ u. cond_both (nat_lt n 0x10000) _ _ (IsWithin 3) (λ v. record { within = omega (arith, length-le_bytes 2 n) })
    (λ v. absurd (omega (arith, ltb-false n 0x10000 v)))))

pub integer-small : (n : ℕ) → n < 0x10000 → length (integer n) ≤ 3
integer-small n small = (within_three n small).within

pub segment-length : (segment : List ℕ) → IsSegment segment → length segment ≡ 4
segment-length (a ∷ b ∷ c ∷ d ∷ []) is = refl
segment-length (a ∷ b ∷ c ∷ d ∷ e ∷ more) is = absurd is.1.1.1.1
segment-length (a ∷ b ∷ c ∷ []) is = absurd is.1.1.1
segment-length (a ∷ b ∷ []) is = absurd is.1.1
segment-length (a ∷ []) is = absurd is.1
segment-length [] is = absurd is
