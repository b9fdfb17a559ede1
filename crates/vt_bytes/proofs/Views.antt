-- The bytes that a view shows.
use Rattle.std.proofs.Common.{◌≡◌, ℕ, zero, suc, ◌+◌, ◌<◌, ◌≤◌, List, [], ◌∷◌, Option, None, Some, length, slice_index, take, drop, arith, refl, ap}
use Rattle.std.proofs.Common.{sym, ◌∙◌}
use Rattle.std.proofs.lemmas.List.{drop_more, take_all, length-drop}
use Rattle.std.proofs.Math.Seq.{take-length}
use Rattle.std.specs.Option.{option_map, option_and_then}
use Rattle.vt_bytes.specs.Parts.{part}
use Rattle.vt_bytes.specs.View.{View, bytes_in, Holds}

-- a part of the bytes that a view holds
pub bytes_in-holds : (view : View) (address : ℕ) (bytes : List ℕ) (offset count : ℕ) → Holds view address bytes → offset + count ≤ length bytes
    → bytes_in view (address + offset) count ≡ Some (part bytes offset count)
unfolding bytes_in
bytes_in-holds view address bytes offset zero holds within = refl
bytes_in-holds view address bytes offset (suc count) holds within =
    let first : view (address + offset) ≡ Some (slice_index bytes offset) = holds offset (omega arith) in
    let place : address + offset + 1 ≡ address + (offset + 1) = omega arith in
    let rest : bytes_in view (address + offset + 1) count ≡ Some (part bytes (offset + 1) count) =
    ap (λ a. bytes_in view a count) place ∙ bytes_in-holds view address bytes (offset + 1) count holds (omega arith) in
    let more : part bytes offset (suc count) ≡ slice_index bytes offset ∷ part bytes (offset + 1) count =
    ap (take (suc count)) (drop_more bytes offset 0 (omega arith)) in
    rw (first, rest) (ap Some (sym more))

-- all of the bytes that a view holds
pub bytes_in-all : (view : View) (address : ℕ) (bytes : List ℕ) → Holds view address bytes → bytes_in view address (length bytes) ≡ Some bytes
bytes_in-all view address bytes holds =
    let place : address ≡ address + 0 = omega arith in
    ap (λ a. bytes_in view a (length bytes)) place ∙ bytes_in-holds view address bytes 0 (length bytes) holds (omega arith) ∙ ap Some (take-length bytes)

-- the first of the bytes that are shown, and the rest
record IsFirst (byte : Option ℕ) (rest : Option (List ℕ)) (bytes : List ℕ) : Type 0 where
  first : ℕ
  more : List ℕ
  byte_is : byte ≡ Some first
  rest_is : rest ≡ Some more
  bytes_are : bytes ≡ first ∷ more

first_of_some : (byte : Option ℕ) (rest : Option (List ℕ)) (bytes : List ℕ)
    → option_and_then (λ first. option_map (λ more. first ∷ more) rest) byte ≡ Some bytes → IsFirst byte rest bytes
first_of_some None rest bytes shown = absurd (cc)
first_of_some (Some first) None bytes shown = absurd (cc)
first_of_some (Some first) (Some more) bytes shown = record {
  first = first;
  more = more;
  byte_is = refl;
  rest_is = refl;
  bytes_are = cc;
}

first_in : (view : View) (address count : ℕ) (bytes : List ℕ) → bytes_in view address (suc count) ≡ Some bytes
    → IsFirst (view address) (bytes_in view (address + 1) count) bytes
unfolding bytes_in
first_in view address count bytes shown = first_of_some (view address) (bytes_in view (address + 1) count) bytes shown

none_in : (view : View) (address : ℕ) (bytes : List ℕ) → bytes_in view address zero ≡ Some bytes → bytes ≡ []
unfolding bytes_in
none_in view address bytes shown = cc

-- as many bytes are shown as were asked for
pub length-bytes_in : (view : View) (address count : ℕ) (bytes : List ℕ) → bytes_in view address count ≡ Some bytes → length bytes ≡ count
length-bytes_in view address zero bytes shown = ap length (none_in view address bytes shown)
length-bytes_in view address (suc count) bytes shown =
    let f = first_in view address count bytes shown in
    ap length f.bytes_are ∙ ap suc (length-bytes_in view (address + 1) count f.more f.rest_is)

-- bytes that are shown are held: each is that of a RAM address
pub holds-shown : (view : View) (address count : ℕ) (bytes : List ℕ) → bytes_in view address count ≡ Some bytes → Holds view address bytes
holds-shown view address zero bytes shown i within = absurd (omega (arith, ap length (none_in view address bytes shown)))
holds-shown view address (suc count) bytes shown zero within =
    let f = first_in view address count bytes shown in
    let place : address + 0 ≡ address = omega arith in
    ap view place ∙ f.byte_is ∙ ap (λ all. Some (slice_index all 0)) (sym f.bytes_are)
holds-shown view address (suc count) bytes shown (suc i) within =
    let f = first_in view address count bytes shown in
    let place : address + suc i ≡ address + 1 + i = omega arith in
    let below : i < length f.more = omega (arith, ap length f.bytes_are) in
    ap view place ∙ holds-shown view (address + 1) count f.more f.rest_is i below ∙ ap (λ all. Some (slice_index all (suc i))) (sym f.bytes_are)

-- each address of a range whose bytes are shown is RAM
pub ram-shown : (view : View) (address count : ℕ) (bytes : List ℕ) (i : ℕ) → bytes_in view address count ≡ Some bytes → i < count
    → view (address + i) ≡ Some (slice_index bytes i)
ram-shown view address count bytes i shown below =
    holds-shown view address count bytes shown i (omega (arith, length-bytes_in view address count bytes shown))

-- a part of the bytes that are shown
pub bytes_in-part : (view : View) (address count : ℕ) (bytes : List ℕ) (offset size : ℕ) → bytes_in view address count ≡ Some bytes
    → offset + size ≤ count → bytes_in view (address + offset) size ≡ Some (part bytes offset size)
bytes_in-part view address count bytes offset size shown within =
    bytes_in-holds view address bytes offset size (holds-shown view address count bytes shown)
    (omega (arith, length-bytes_in view address count bytes shown))

-- the two parts of the bytes that are shown
pub record AreParts (view : View) (address front back : ℕ) (bytes : List ℕ) : Type 0 where
  pub first : bytes_in view address front ≡ Some (take front bytes)
  pub second : bytes_in view (address + front) back ≡ Some (drop front bytes)

pub bytes_in-split : (view : View) (address front back : ℕ) (bytes : List ℕ) → bytes_in view address (front + back) ≡ Some bytes
    → AreParts view address front back bytes
bytes_in-split view address front back bytes shown =
    let size : length bytes ≡ front + back = length-bytes_in view address (front + back) bytes shown in
    let place : address ≡ address + 0 = omega arith in
    let whole : take back (drop front bytes) ≡ drop front bytes = take_all back (drop front bytes) (omega (arith, length-drop front bytes)) in
    record {
      first = ap (λ a. bytes_in view a front) place ∙ bytes_in-part view address (front + back) bytes 0 front shown (omega arith);
      second = bytes_in-part view address (front + back) bytes front back shown (omega arith) ∙ ap Some whole;
    }
