-- What is RAM: each of its bytes, its parts, and where it ends.
use Rattle.std.proofs.Common.{◌≡◌, ℕ, zero, suc, ◌+◌, ◌^◌, ◌<◌, ◌≤◌, inl, inr, true, false, is_some, List, [], ◌∷◌, length, slice_index}
use Rattle.std.proofs.Common.{Option, Some, None, arith, refl, ap, subst, sym, ◌∙◌}
use Rattle.std.specs.Option.{option_map, option_and_then, unwrap_or}
use Rattle.std.proofs.lemmas.Bool.{cases_lt, false_from_ne_true}
use Rattle.vt_bytes.specs.Parts.{part}
use Rattle.vt_bytes.specs.View.{View, bytes_in}
use Rattle.vt_bytes.proofs.Views.{ram-shown, bytes_in-part, length-bytes_in}
use Rattle.acpi_decode.specs.Seen.{is_ram, bytes_from}

-- a number that isn't a u64 is no address of the view
abbrev pub IsBounded : View → Type 0
IsBounded view = (address : ℕ) → 2 ^ 64 ≤ address → view address ≡ None

-- what is RAM has its bytes
some_bytes : (found : Option (List ℕ)) → is_some found ≡ true → found ≡ Some (unwrap_or found [])
some_bytes None is = absurd (cc is)
some_bytes (Some bytes) is = refl

pub ram_bytes : (view : View) (address count : ℕ) → is_ram view address count ≡ true
    → bytes_in view address count ≡ Some (bytes_from view address count)
ram_bytes view address count is = some_bytes (bytes_in view address count) is

pub length-bytes_from : (view : View) (address count : ℕ) → is_ram view address count ≡ true → length (bytes_from view address count) ≡ count
length-bytes_from view address count is =
    length-bytes_in view address count (bytes_from view address count) (ram_bytes view address count is)

-- each of its bytes
pub byte_there : (view : View) (address count i : ℕ) → is_ram view address count ≡ true → i < count
    → view (address + i) ≡ Some (slice_index (bytes_from view address count) i)
byte_there view address count i is below =
    ram-shown view address count (bytes_from view address count) i (ram_bytes view address count is) below

-- where each byte is RAM, all are
some_more : (byte : Option ℕ) (rest : Option (List ℕ)) → is_some byte ≡ true → is_some rest ≡ true
    → is_some (option_and_then (λ first. option_map (λ more. first ∷ more) rest) byte) ≡ true
some_more None rest is also = absurd (cc is)
some_more (Some first) None is also = absurd (cc also)
some_more (Some first) (Some more) is also = refl

pub each_ram : (view : View) (address count : ℕ) → ((i : ℕ) → i < count → is_some (view (address + i)) ≡ true) → is_ram view address count ≡ true
unfolding bytes_in
each_ram view address zero each = refl
each_ram view address (suc count) each =
    let here : address + 0 ≡ address = omega arith in
    some_more (view address) (bytes_in view (address + 1) count) (ap (λ a. is_some (view a)) (sym here) ∙ each 0 (omega arith))
    (each_ram view (address + 1) count (λ i below.
    let place : address + 1 + i ≡ address + suc i = omega arith in
    ap (λ a. is_some (view a)) place ∙ each (suc i) (omega arith)))

-- where one isn't, not all are
pub none_ram : (view : View) (address count i : ℕ) → i < count → is_some (view (address + i)) ≡ false → is_ram view address count ≡ false
none_ram view address count i below none =
    false_from_ne_true (is_ram view address count) (λ is. absurd (cc (byte_there view address count i is below, none)))

-- the bytes of a part
part_bytes : (view : View) (address count offset size : ℕ) → is_ram view address count ≡ true → offset + size ≤ count
    → bytes_in view (address + offset) size ≡ Some (part (bytes_from view address count) offset size)
part_bytes view address count offset size is within =
    bytes_in-part view address count (bytes_from view address count) offset size (ram_bytes view address count is) within

-- so a part is RAM, and a front
pub part_ram : (view : View) (address count offset size : ℕ) → is_ram view address count ≡ true → offset + size ≤ count
    → is_ram view (address + offset) size ≡ true
part_ram view address count offset size is within = ap is_some (part_bytes view address count offset size is within)

pub front_ram : (view : View) (address count size : ℕ) → is_ram view address count ≡ true → size ≤ count → is_ram view address size ≡ true
front_ram view address count size is within =
    let here : address + 0 ≡ address = omega arith in
    subst (λ a. is_ram view a size ≡ true) here (part_ram view address count 0 size is (omega (arith, within)))

-- each address of RAM is below 2^64
some_below : (view : View) (address byte : ℕ) → IsBounded view → view address ≡ Some byte → address < 2 ^ 64
some_below view address byte bounded is =
    elim (cases_lt address (2 ^ 64)) as (λ _. address < 2 ^ 64) [
      | inl below ↦ below
      | inr past ↦ absurd (cc (bounded address past, is))
    ]

pub address_fits : (view : View) (address count i : ℕ) → IsBounded view → is_ram view address count ≡ true → i < count → address + i < 2 ^ 64
address_fits view address count i bounded is below =
    some_below view (address + i) (slice_index (bytes_from view address count) i) bounded (byte_there view address count i is below)
