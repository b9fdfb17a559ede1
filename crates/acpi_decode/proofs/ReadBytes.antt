-- Bytes that were read: what stands at a part of them, and the numbers that they spell.
use Rattle.std.proofs.Common.{◌≡◌, ℕ, ◌+◌, ◌-◌, ◌<◌, ◌≤◌, true, List, [], ◌++◌, length, slice_index, take, drop, replicate, Some, arith, ap, sym, subst, ◌∙◌}
use Rattle.std.proofs.Math.Seq.{take-add}
use Rattle.std.specs.Option.{option_map, unwrap_or}
use Rattle.std.proofs.lemmas.List.{drop_more, length-take-le, length-replicate, drop-replicate}
use Rattle.vt_bytes.specs.Numbers.{le}
use Rattle.vt_bytes.specs.Parts.{part}
use Rattle.vt_bytes.specs.View.{View, bytes_in, number_in}
use Rattle.vt_bytes.proofs.Views.{bytes_in-part, length-bytes_in}
use Rattle.acpi_decode.specs.Seen.{is_ram, bytes_from, number_at}
use Rattle.acpi_decode.proofs.InRam.{ram_bytes}

-- they are the bytes that stand there, and so is a part of them, and a front
pub bytes_read : (view : View) (address count : ℕ) (bytes : List ℕ) → bytes_in view address count ≡ Some bytes → bytes ≡ bytes_from view address count
bytes_read view address count bytes there = ap (λ o. unwrap_or o []) (sym there)

part_read : (view : View) (address count : ℕ) (bytes : List ℕ) (offset size : ℕ) → bytes_in view address count ≡ Some bytes
    → offset + size ≤ count → part bytes offset size ≡ bytes_from view (address + offset) size
part_read view address count bytes offset size there within =
    bytes_read view (address + offset) size (part bytes offset size) (bytes_in-part view address count bytes offset size there within)

pub front_read : (view : View) (address count : ℕ) (bytes : List ℕ) (size : ℕ) → bytes_in view address count ≡ Some bytes → size ≤ count
    → take size bytes ≡ bytes_from view address size
front_read view address count bytes size there within =
    let here : address + 0 ≡ address = omega arith in
    part_read view address count bytes 0 size there (omega (arith, within)) ∙ ap (λ a. bytes_from view a size) here

-- no bytes
pub no_bytes : (view : View) (address count : ℕ) → count ≡ 0 → bytes_from view address count ≡ []
unfolding bytes_in
no_bytes view address count none = ap (bytes_from view address) none

-- the bytes of two parts, one behind the other
pub bytes_both : (view : View) (address count front size : ℕ) → is_ram view address count ≡ true → front + size ≤ count
    → bytes_from view address (front + size) ≡ bytes_from view address front ++ bytes_from view (address + front) size
bytes_both view address count front size is within =
    let bytes = bytes_from view address count in
    let there = ram_bytes view address count is in
    sym (front_read view address count bytes (front + size) there within) ∙ take-add front size bytes
    ∙ ap (λ first. first ++ part bytes front size) (front_read view address count bytes front there (omega (arith, within)))
    ∙ ap (λ second. bytes_from view address front ++ second) (part_read view address count bytes front size there within)

-- a number among them
pub number_read : (view : View) (address count : ℕ) (bytes : List ℕ) (offset width number : ℕ) → bytes_in view address count ≡ Some bytes
    → offset + width ≤ count → number ≡ le (part bytes offset width) → number_in view (address + offset) width ≡ Some number
number_read view address count bytes offset width number there within is =
    ap (option_map le) (bytes_in-part view address count bytes offset width there within) ∙ ap Some (sym is)

-- and a byte
pub byte_read : (view : View) (address count : ℕ) (bytes : List ℕ) (i : ℕ) → bytes_in view address count ≡ Some bytes → i < count
    → number_in view (address + i) 1 ≡ Some (slice_index bytes i)
byte_read view address count bytes i there below =
    number_read view address count bytes i 1 (slice_index bytes i) there (omega (arith, below))
    (one_byte bytes i (omega (arith, below, length-bytes_in view address count bytes there)))
  where
    one_byte : (bytes : List ℕ) (i : ℕ) → i < length bytes → slice_index bytes i ≡ le (part bytes i 1)
    one_byte bytes i within = omega (arith, ap (λ rest. le (take 1 rest)) (drop_more bytes i 0 within))

-- the same where a view's numbers count as 0 outside RAM
pub number_found : (view : View) (address count : ℕ) (bytes : List ℕ) (offset width number : ℕ) → bytes_in view address count ≡ Some bytes
    → offset + width ≤ count → number ≡ le (part bytes offset width) → number ≡ number_at view (address + offset) width
number_found view address count bytes offset width number there within is =
    ap (λ o. unwrap_or o 0) (sym (number_read view address count bytes offset width number there within is))

-- bytes that are read into zeros
pub padded_read : (view : View) (address size all : ℕ) (bytes : List ℕ) → size ≤ all
    → bytes_in view address (length (take size (replicate {A = ℕ} all 0))) ≡ Some bytes
    → bytes ++ drop size (replicate all 0) ≡ bytes_from view address size ++ replicate (all - size) 0
padded_read view address size all bytes few there =
    let zeros : List ℕ = replicate all 0 in
    let count : length (take size zeros) ≡ size = length-take-le size zeros (omega (arith, few, length-replicate {A = ℕ} all 0)) in
    ap (λ b. b ++ drop size (replicate all 0)) (bytes_read view address size bytes (subst (λ n. bytes_in view address n ≡ Some bytes) count there))
    ∙ ap (λ z. bytes_from view address size ++ z) (drop-replicate size all 0)
