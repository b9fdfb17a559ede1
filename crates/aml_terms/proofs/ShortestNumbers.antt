-- No package length and no integer is shorter than the one that is written (ACPI 6.5, 20.2.3 and 20.2.4).
use Rattle.std.proofs.Common.{◌≡◌, ℕ, zero, suc, ◌+◌, ◌*◌, ◌^◌, ◌<◌, ◌≤◌, List, ◌∷◌, length, refl, sym, ap, subst, arith, length-append, nat_lt}
use Rattle.std.proofs.Common.{nat_le, ltb-false, leb-false, ◌==◌, ◌⊎◌, inl, inr}
use Rattle.std.specs.Prelude.{⊤}
use Rattle.std.proofs.lemmas.Bool.{cond_both}
use Rattle.vt_bytes.specs.Numbers.{le}
use Rattle.aml_terms.specs.declared.opcode.Opcode.{Opcode}
use Rattle.aml_terms.specs.declared.opcode.Opcode.TheVariants.{Constant, Integer, Ones, Chars, Buffer, Package, Name, Scope, Extended, Other}
use Rattle.aml_terms.specs.Opcodes.{opcode_of}
use Rattle.aml_terms.specs.Lengths.{IsLength, short, long, IsInteger, constant, wide}
use Rattle.aml_terms.specs.Grammar.{Spelling, Enclosed}
use Rattle.aml_terms.specs.Written.{more_for, package_length, integer}
use Rattle.aml_terms.proofs.ByteLists.{AreBytes, parts_of_bytes, byte_and_rest, le-below}
use Rattle.aml_terms.proofs.WrittenNumbers.{length-package_length}

-- So many bytes follow the lead byte of the length that is written: no more than its body needs.
record IsFew (body more : ℕ) : Type 0 where
  any : more ≤ 3
  two : body < 0xFFFFD → more ≤ 2
  one : body < 0xFFE → more ≤ 1
  none : body < 0x3F → more ≤ 0

-- each more where those before it have no room
is_few : (body : ℕ) → IsFew body (more_for body)
unfolding more_for
is_few body =
    cond_both (nat_lt body 0x3F) _ _ (IsFew body)
    (λ t. record { any = omega arith; two = λ z. omega arith; one = λ z. omega arith; none = λ z. omega arith })
    (λ t. let above : 0x3F ≤ body = ltb-false body 0x3F t in cond_both (nat_lt body 0xFFE) _ _ (IsFew body)
    (λ u. record { any = omega arith; two = λ z. omega arith; one = λ z. omega arith; none = λ z. absurd (omega arith) })
    (λ u. let more : 0xFFE ≤ body = ltb-false body 0xFFE u in cond_both (nat_lt body 0xFFFFD) _ _ (IsFew body)
    (λ v. record { any = omega arith; two = λ z. omega arith; one = λ z. absurd (omega arith); none = λ z. absurd (omega arith) })
    (λ v. let most : 0xFFFFD ≤ body = ltb-false body 0xFFFFD v in
    record { any = omega arith; two = λ z. absurd (omega arith); one = λ z. absurd (omega arith); none = λ z. absurd (omega arith) })))

-- fewer bytes have no room for the length
more_for-least : (body more : ℕ) → 1 ≤ more → body + (more + 1) < 16 * 256 ^ more → more_for body ≤ more
more_for-least body zero some h = absurd (omega arith)
more_for-least body (suc zero) some h = let few : IsFew body (more_for body) = is_few body in few.one (omega arith)
more_for-least body (suc (suc zero)) some h = let few : IsFew body (more_for body) = is_few body in few.two (omega arith)
more_for-least body (suc (suc (suc more))) some h = let few : IsFew body (more_for body) = is_few body in omega (arith, few.any)

-- a length with what it encloses, also where that is longer
package_length-least : (size : List ℕ) (least body : ℕ) → AreBytes size → IsLength (length size + body) size → least ≤ body
    → length (package_length least) + least ≤ length size + body
package_length-least size least body h (short low is) within =
    let one : length size ≡ 1 = ap length is in
    let few : IsFew least (more_for least) = is_few least in
    let none : more_for least ≤ 0 = few.none (omega arith) in
    omega (arith, length-package_length least)
package_length-least size least body h (long low more small some told is) within =
    let bytes : ((64 * length more + low) < 256) × AreBytes more = byte_and_rest size (64 * length more + low) more is h in
    let below : le more < 256 ^ length more = le-below more bytes.1 in
    let count : length size ≡ suc (length more) = ap length is in
    let few : more_for least ≤ length more = more_for-least least (length more) some (omega arith) in
    omega (arith, length-package_length least)

-- what is enclosed, if nothing shorter can be
pub enclosed-least : (Is : Spelling) (bytes text : List ℕ) → AreBytes bytes → Enclosed Is bytes
    → ((body : List ℕ) → AreBytes body → Is body → length text ≤ length body) → length (package_length (length text)) + length text ≤ length bytes
enclosed-least Is bytes text h e least =
    let parts : AreBytes e.size × AreBytes e.body = parts_of_bytes bytes e.size e.body e.spelled h in
    let all : length (package_length (length text)) + length text ≤ length e.size + length e.body =
    package_length-least e.size (length text) (length e.body) parts.0 e.told (least e.body parts.1 e.is) in
    omega (arith, ap length e.spelled, length-append e.size e.body)

-- how many bytes an integer may have
abbrev IsWidth : Opcode → Type 0
IsWidth (Integer width) = (width ≡ 1) ⊎ ((width ≡ 2) ⊎ ((width ≡ 4) ⊎ (width ≡ 8)))
IsWidth Constant = ⊤
IsWidth Ones = ⊤
IsWidth Chars = ⊤
IsWidth Buffer = ⊤
IsWidth Package = ⊤
IsWidth Name = ⊤
IsWidth Scope = ⊤
IsWidth Extended = ⊤
IsWidth Other = ⊤

-- an opcode announces no other number of them
opcode_of-width : (byte : ℕ) → IsWidth (opcode_of byte)
unfolding opcode_of
opcode_of-width byte =
    cond_both (nat_le byte 0x01) _ _ IsWidth (λ t. tt)
    (λ t. cond_both (byte == 0x0A) _ _ IsWidth (λ t. inl refl)
    (λ t. cond_both (byte == 0x0B) _ _ IsWidth (λ t. inr (inl refl))
    (λ t. cond_both (byte == 0x0C) _ _ IsWidth (λ t. inr (inr (inl refl)))
    (λ t. cond_both (byte == 0x0E) _ _ IsWidth (λ t. inr (inr (inr refl)))
    (λ t. cond_both (byte == 0xFF) _ _ IsWidth (λ t. tt)
    (λ t. cond_both (byte == 0x0D) _ _ IsWidth (λ t. tt)
    (λ t. cond_both (byte == 0x11) _ _ IsWidth (λ t. tt)
    (λ t. cond_both (byte == 0x12) _ _ IsWidth (λ t. tt)
    (λ t. cond_both (byte == 0x08) _ _ IsWidth (λ t. tt)
    (λ t. cond_both (byte == 0x10) _ _ IsWidth (λ t. tt)
    (λ t. cond_both (byte == 0x5B) _ _ IsWidth (λ t. tt) (λ t. tt))))))))))))

-- The integer that is written has this size: no more than the number needs.
record HasSize (n size : ℕ) : Type 0 where
  any : size ≤ 9
  four : n < 0x100000000 → size ≤ 5
  two : n < 0x10000 → size ≤ 3
  one : n < 0x100 → size ≤ 2
  none : n ≤ 1 → size ≤ 1

-- each size where the ones before it have no room
integer_size : (n : ℕ) → HasSize n (length (integer n))
unfolding integer
integer_size n =
    let Is : List ℕ → Type 0 = λ bytes. HasSize n (length bytes) in
    cond_both (nat_le n 1) _ _ Is
    (λ t. record { any = omega arith; four = λ z. omega arith; two = λ z. omega arith; one = λ z. omega arith; none = λ z. omega arith })
    (λ t. let above : 1 < n = leb-false n 1 t in cond_both (nat_lt n 0x100) _ _ Is
    (λ u. record { any = omega arith; four = λ z. omega arith; two = λ z. omega arith; one = λ z. omega arith; none = λ z. absurd (omega arith) })
    (λ u. let past_one : 0x100 ≤ n = ltb-false n 0x100 u in cond_both (nat_lt n 0x10000) _ _ Is
    (λ v. record { any = omega arith; four = λ z. omega arith; two = λ z. omega arith; one = λ z. absurd (omega arith); none = λ z. absurd (omega arith) })
    (λ v. let past_two : 0x10000 ≤ n = ltb-false n 0x10000 v in cond_both (nat_lt n 0x100000000) _ _ Is
    (λ w. record {
      any = omega arith;
      four = λ z. omega arith;
      two = λ z. absurd (omega arith);
      one = λ z. absurd (omega arith);
      none = λ z. absurd (omega arith);
    })
    (λ w. let past_four : 0x100000000 ≤ n = ltb-false n 0x100000000 w in
    record {
      any = omega arith;
      four = λ z. absurd (omega arith);
      two = λ z. absurd (omega arith);
      one = λ z. absurd (omega arith);
      none = λ z. absurd (omega arith);
    }))))

-- an integer that so many bytes behind an opcode can spell
record IsOfWidth (n width : ℕ) : Type 0 where
  least : length (integer n) ≤ width + 1
  fits : n < 2 ^ 64

is_of_width : (n width : ℕ) → IsWidth (Integer width) → n < 256 ^ width → IsOfWidth n width
is_of_width n width (inl is) h =
    let has : HasSize n (length (integer n)) = integer_size n in
    let below : n < 256 ^ 1 = subst (λ w. n < 256 ^ w) is h in
    let size : length (integer n) ≤ 2 = has.one below in
    record { least = omega arith; fits = omega arith }
is_of_width n width (inr (inl is)) h =
    let has : HasSize n (length (integer n)) = integer_size n in
    let below : n < 256 ^ 2 = subst (λ w. n < 256 ^ w) is h in
    let size : length (integer n) ≤ 3 = has.two below in
    record { least = omega arith; fits = omega arith }
is_of_width n width (inr (inr (inl is))) h =
    let has : HasSize n (length (integer n)) = integer_size n in
    let below : n < 256 ^ 4 = subst (λ w. n < 256 ^ w) is h in
    let size : length (integer n) ≤ 5 = has.four below in
    record { least = omega arith; fits = omega arith }
is_of_width n width (inr (inr (inr is))) h =
    let has : HasSize n (length (integer n)) = integer_size n in
    let below : n < 256 ^ 8 = subst (λ w. n < 256 ^ w) is h in
    let size : length (integer n) ≤ 9 = has.any in
    record { least = omega arith; fits = omega arith }

-- bytes behind an opcode that announces them have room for a number below their power of 256
of_width : (n opcode : ℕ) (digits bytes : List ℕ) → AreBytes bytes → opcode_of opcode ≡ Integer (length digits) → n ≡ le digits
    → bytes ≡ opcode ∷ digits → IsOfWidth n (length digits)
of_width n opcode digits bytes h announced value is =
    let all : (opcode < 256) × AreBytes digits = byte_and_rest bytes opcode digits is h in
    let below : le digits < 256 ^ length digits = le-below digits all.1 in
    is_of_width n (length digits) (subst IsWidth announced (opcode_of-width opcode)) (subst (λ m. m < 256 ^ length digits) (sym value) below)

-- no integer is shorter
pub integer-least : (n : ℕ) (bytes : List ℕ) → AreBytes bytes → IsInteger n bytes → length (integer n) ≤ length bytes
integer-least n bytes h (constant small is) =
    let has : HasSize n (length (integer n)) = integer_size n in
    let size : length (integer n) ≤ 1 = has.none small in
    omega (arith, ap length is)
integer-least n bytes h (wide opcode digits announced value is) =
    let of : IsOfWidth n (length digits) = of_width n opcode digits bytes h announced value is in
    omega (arith, of.least, ap length is)

-- an integer that bytes spell fits 64 bits
pub integer-fits : (n : ℕ) (bytes : List ℕ) → AreBytes bytes → IsInteger n bytes → n < 2 ^ 64
integer-fits n bytes h (constant small is) = omega arith
integer-fits n bytes h (wide opcode digits announced value is) =
    let of : IsOfWidth n (length digits) = of_width n opcode digits bytes h announced value is in
    of.fits
