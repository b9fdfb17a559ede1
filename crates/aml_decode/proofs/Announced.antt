-- How many bytes an integer has that an opcode announces, and how large a number of so many bytes is.
use Rattle.std.proofs.Common.{◌≡◌, ℕ, ◌^◌, ◌<◌, ◌≤◌, List, drop, take, slice_index, Bool, true, false, cond, sym, subst, lit≤, arith}
use Rattle.std.proofs.Math.Nat.{pow-le-pow_right}
use Rattle.vt_bytes.specs.Numbers.{le}
use Rattle.vt_bytes.proofs.Spelt.{le-fits}
use Rattle.aml_terms.specs.declared.opcode.Opcode.{Opcode}
use Rattle.aml_terms.specs.declared.opcode.Opcode.TheVariants.{Constant, Integer, Ones, Chars, Buffer, Package, Name, Scope, Extended, Other}
use Rattle.aml_terms.specs.Opcodes.{opcode_of}
use Rattle.aml_decode.specs.Widths.{IsWide}

record Wide (opcode : Opcode) : Type 0 where
  is : IsWide opcode

-- whichever of two is chosen
either : (b : Bool) (x y : Opcode) → Wide x → Wide y → Wide (cond b x y)
either true x y h k = h
either false x y h k = k

announced : (width : ℕ) → 1 ≤ width → width ≤ 8 → Wide (Integer width)
announced width some few = record { is = (some, few) }

other : {opcode : Opcode} → IsWide opcode → Wide opcode
other h = record { is = h }

wide_of : (byte : ℕ) → Wide (opcode_of byte)
unfolding opcode_of
wide_of byte =
    either _ _ _ (other {opcode = Constant} tt)
    (either _ _ _ (announced 1 (lit≤ tt) (lit≤ tt))
    (either _ _ _ (announced 2 (lit≤ tt) (lit≤ tt))
    (either _ _ _ (announced 4 (lit≤ tt) (lit≤ tt))
    (either _ _ _ (announced 8 (lit≤ tt) (lit≤ tt))
    (either _ _ _ (other {opcode = Ones} tt)
    (either _ _ _ (other {opcode = Chars} tt)
    (either _ _ _ (other {opcode = Buffer} tt)
    (either _ _ _ (other {opcode = Package} tt)
    (either _ _ _ (other {opcode = Name} tt)
    (either _ _ _ (other {opcode = Scope} tt)
    (either _ _ _ (other {opcode = Extended} tt) (other {opcode = Other} tt))))))))))))

-- what a byte says announces an integer of 1 to 8 bytes, if any
pub wide : (byte : ℕ) (opcode : Opcode) → opcode ≡ opcode_of byte → IsWide opcode
wide byte opcode e = subst IsWide (sym e) (wide_of byte).is

-- the number of up to three bytes is below 2^24
pub three_bytes : (number width : ℕ) → width ≤ 3 → number < 256 ^ width → number < 2 ^ 24
three_bytes number width few fits =
    let most : 256 ^ width ≤ 256 ^ 3 = pow-le-pow_right {n = 256} (omega arith) {i = width} {j = 3} few in omega arith

-- the number of the first bytes fits as many
pub front_fits : (number width : ℕ) (text : List ℕ) → ((i : ℕ) → slice_index text i < 256) → number ≡ le (take width (drop 0 text)) → number < 256 ^ width
front_fits number width text each e = rw e (le-fits width (drop 0 text) (λ i. each i))
