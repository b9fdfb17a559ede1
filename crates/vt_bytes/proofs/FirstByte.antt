-- The first of the bytes that a view shows, and of those of a number.
use Rattle.std.proofs.Common.{◌≡◌, ℕ, suc, ◌+◌, ◌*◌, List, [], ◌∷◌, Option, Some, None, arith, refl, ap, sym, ◌∙◌}
use Rattle.std.specs.Option.{option_map}
use Rattle.vt_bytes.specs.Numbers.{le}
use Rattle.vt_bytes.specs.View.{View, bytes_in, number_in}
use Rattle.vt_bytes.proofs.Views.{ram-shown, length-bytes_in}

-- the first of the bytes at an address
pub first-byte : (view : View) (address count byte : ℕ) (bytes : List ℕ) → bytes_in view address (suc count) ≡ Some (byte ∷ bytes)
    → view address ≡ Some byte
first-byte view address count byte bytes shown =
    let place : address + 0 ≡ address = omega arith in
    ap view (sym place) ∙ ram-shown view address (suc count) (byte ∷ bytes) 0 shown (omega arith)

-- a number's low byte stands at its address
pub record HasLow (view : View) (address number : ℕ) : Type 0 where
  pub byte : ℕ
  pub rest : ℕ
  pub there : view address ≡ Some byte
  pub number_is : number ≡ byte + 256 * rest

low_of : (view : View) (address count number : ℕ) (bytes : List ℕ) → bytes_in view address (suc count) ≡ Some bytes → le bytes ≡ number
    → HasLow view address number
low_of view address count number [] shown is = absurd (omega (arith, length-bytes_in view address (suc count) [] shown))
low_of view address count number (byte ∷ bytes) shown is =
    record { byte = byte; rest = le bytes; there = first-byte view address count byte bytes shown; number_is = sym is }

number_of_some : (view : View) (address count number : ℕ) (found : Option (List ℕ)) → bytes_in view address (suc count) ≡ found
    → option_map le found ≡ Some number → HasLow view address number
number_of_some view address count number None shown is = absurd (cc)
number_of_some view address count number (Some bytes) shown is = low_of view address count number bytes shown (cc)

pub low-byte : (view : View) (address count number : ℕ) → number_in view address (suc count) ≡ Some number → HasLow view address number
low-byte view address count number is = number_of_some view address count number (bytes_in view address (suc count)) refl is
