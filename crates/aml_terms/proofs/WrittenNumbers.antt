-- Package lengths and integers that are written are spellings (ACPI 6.5, 20.2.3 and 20.2.4).
use Rattle.std.proofs.Common.{◌≡◌, ℕ, zero, suc, ◌+◌, ◌*◌, ◌/◌, ◌%◌, ◌^◌, ◌<◌, ◌≤◌, List, ◌∷◌, ◌++◌, length, refl, sym, ap, ◌∙◌, subst, arith, nat_lt}
use Rattle.std.proofs.Common.{nat_le, ltb-true, leb-true}
use Rattle.std.proofs.lemmas.Bool.{cond_both}
use Rattle.vt_bytes.specs.Numbers.{le, le_bytes}
use Rattle.vt_bytes.proofs.Numbers.{le-le_bytes, length-le_bytes}
use Rattle.aml_terms.specs.declared.opcode.Opcode.TheVariants.{Integer}
use Rattle.aml_terms.specs.Opcodes.{opcode_of}
use Rattle.aml_terms.specs.Lengths.{IsLength, short, long, IsInteger, constant, wide}
use Rattle.aml_terms.specs.Grammar.{Spelling, Enclosed}
use Rattle.aml_terms.specs.Written.{most_enclosed, more_for, length_with, package_length, integer}

length-length_with : (more total : ℕ) → length (length_with more total) ≡ more + 1
length-length_with zero total = refl
length-length_with (suc more) total = let size = length-le_bytes (suc more) (total / 16) in omega arith

-- how long the shortest length is
pub length-package_length : (body : ℕ) → length (package_length body) ≡ more_for body + 1
unfolding package_length
length-package_length body = length-length_with (more_for body) (body + (more_for body + 1))

-- So many bytes behind the lead byte have room for a length. With none the lead byte alone has.
record HaveRoom (body more : ℕ) : Type 0 where
  alone : more ≡ 0 → body < 0x3F
  fit : 1 ≤ more → (body + (more + 1)) / 16 < 256 ^ more

have_room : (body : ℕ) → body ≤ most_enclosed → HaveRoom body (more_for body)
unfolding more_for
have_room body h =
    cond_both (nat_lt body 0x3F) _ _ (HaveRoom body)
    (λ t. let below : body < 0x3F = ltb-true body 0x3F t in record { alone = λ z. below; fit = λ z. absurd (omega arith) })
    (λ t. cond_both (nat_lt body 0xFFE) _ _ (HaveRoom body)
    (λ u. let below : body < 0xFFE = ltb-true body 0xFFE u in record { alone = λ z. absurd (omega arith); fit = λ z. omega arith })
    (λ u. cond_both (nat_lt body 0xFFFFD) _ _ (HaveRoom body)
    (λ v. let below : body < 0xFFFFD = ltb-true body 0xFFFFD v in record { alone = λ z. absurd (omega arith); fit = λ z. omega arith })
    (λ v. record { alone = λ z. absurd (omega arith); fit = λ z. omega arith })))

length_with_is : (more total : ℕ) → (more ≡ 0 → total < 0x40) → (1 ≤ more → total / 16 < 256 ^ more) → IsLength total (length_with more total)
length_with_is zero total alone fit = short (alone refl) refl
length_with_is (suc more) total alone fit =
    let digits : List ℕ = le_bytes (suc more) (total / 16) in
    let size : length digits ≡ suc more = length-le_bytes (suc more) (total / 16) in
    let value : le digits ≡ total / 16 = le-le_bytes (suc more) (total / 16) (fit (omega arith)) in
    long (total % 16) digits (omega arith) (omega arith) (omega arith) (ap (λ n. (64 * n + total % 16) ∷ digits) (sym size))

-- the length that is written
pub package_length_is : (body : ℕ) → body ≤ most_enclosed → IsLength (length (package_length body) + body) (package_length body)
unfolding package_length
package_length_is body h =
    let room : HaveRoom body (more_for body) = have_room body h in
    let total : body + (more_for body + 1) ≡ length (package_length body) + body = omega (arith, length-package_length body) in
    subst (λ n. IsLength n (package_length body)) total
    (length_with_is (more_for body) (body + (more_for body + 1)) (λ none. let below : body < 0x3F = room.alone none in omega arith) room.fit)

-- a body behind the length that is written for it
pub enclosed_is : (Is : Spelling) (body : List ℕ) → length body ≤ most_enclosed → Is body → Enclosed Is (package_length (length body) ++ body)
enclosed_is Is body short_enough is = record {
  size = package_length (length body);
  body = body;
  spelled = refl;
  told = package_length_is (length body) short_enough;
  is = is;
}

wide_is : (opcode width n : ℕ) → opcode_of opcode ≡ Integer width → n < 256 ^ width → IsInteger n (opcode ∷ le_bytes width n)
wide_is opcode width n announced fits =
    wide opcode (le_bytes width n) (announced ∙ ap Integer (sym (length-le_bytes width n))) (sym (le-le_bytes width n fits)) refl

-- a dword
pub dword_is : (n : ℕ) → n < 2 ^ 32 → IsInteger n (0x0C ∷ le_bytes 4 n)
unfolding opcode_of
dword_is n fits = wide_is 0x0C 4 n refl fits

-- the integer that is written
pub integer_is : (n : ℕ) → n < 2 ^ 64 → IsInteger n (integer n)
unfolding integer opcode_of
integer_is n fits =
    cond_both (nat_le n 1) _ _ (IsInteger n) (λ t. constant (leb-true n 1 t) refl)
    (λ t. cond_both (nat_lt n 0x100) _ _ (IsInteger n) (λ u. wide_is 0x0A 1 n refl (ltb-true n 0x100 u))
    (λ t. cond_both (nat_lt n 0x10000) _ _ (IsInteger n) (λ u. wide_is 0x0B 2 n refl (ltb-true n 0x10000 u))
    (λ t. cond_both (nat_lt n 0x100000000) _ _ (IsInteger n) (λ u. wide_is 0x0C 4 n refl (ltb-true n 0x100000000 u))
    (λ t. wide_is 0x0E 8 n refl fits))))
