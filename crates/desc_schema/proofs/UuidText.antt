-- A UUID that is spelled in the hyphenated form is read back.
use Rattle.std.proofs.Common.{◌≡◌, ℕ, ◌+◌, ◌<◌, ◌^◌, true, false, Bool, ◌⊎◌, inl, inr, List, length, get_or, take, drop, ◌*◌, Option, Some}
use Rattle.std.proofs.Common.{None}
use Rattle.std.proofs.Common.{if◌then◌else◌, refl, sym, ◌∙◌, subst, ⊎_elim, arith}
use Rattle.std.proofs.lemmas.Bool.{false≢true, cases_Bool, and_parts, eqb-true}
use Rattle.std.proofs.lemmas.Bool.Decides.{nat_tests}
use Rattle.std.proofs.lemmas.List.Folds.{list_all_at}
use Rattle.std.specs.Prelude.{slice_index, ◌==◌, ◌&&◌}
use Rattle.std.specs.Int.{w128, from_be_bytes, to_be_bytes}
use Rattle.std.specs.List.{list_all}
use Rattle.std.proofs.lemmas.Option.{same_Some}
use Rattle.vt_outside.proofs.NumberBytes.{bytes_small}
use Rattle.uuid.specs.Text.{is_hex_digit, value_of, byte_of_digits, parsed_simple, digits_of, has_hyphens, parsed_hyphenated, parsed_braced, parsed_urn, parsed}
use Rattle.uuid.specs.Text.{by_index, lower, open_brace, close_brace, has_urn_prefix}
use Rattle.uuid.proofs.OrderLemmas.{from_be_bytes-to_be_bytes_16}
use Rattle.uuid.proofs.RoundTrips.{parses_hyphenated}
use Rattle.desc_schema.specs.Written.{IsReadBack, hyphenated}

nibble_small : (c : ℕ) → is_hex_digit c ≡ true → value_of c < 16
nibble_small c hex = grind (arith, nat_tests)

digit_small : (hex : List ℕ) → length hex ≡ 32 → list_all is_hex_digit hex ≡ true → (k : ℕ) → k < 32 → value_of (slice_index hex k) < 16
digit_small hex long all k within =
    ⊎_elim
    (λ yes. nibble_small (get_or hex k 0) yes)
    (λ no. absurd (false≢true (sym (list_all_at is_hex_digit hex k 0 (omega arith) no) ∙ all)))
    (cases_Bool (is_hex_digit (get_or hex k 0)))

small_sum : (f : ℕ → ℕ) → ((i : ℕ) → i < 16 → f i < 256) → from_be_bytes w128 (by_index 16 f) < 2 ^ 128
unfolding by_index
small_sum f small =
    let s0 = small 0 (omega arith) in
    let s1 = small 1 (omega arith) in
    let s2 = small 2 (omega arith) in
    let s3 = small 3 (omega arith) in
    let s4 = small 4 (omega arith) in
    let s5 = small 5 (omega arith) in
    let s6 = small 6 (omega arith) in
    let s7 = small 7 (omega arith) in
    let s8 = small 8 (omega arith) in
    let s9 = small 9 (omega arith) in
    let s10 = small 10 (omega arith) in
    let s11 = small 11 (omega arith) in
    let s12 = small 12 (omega arith) in
    let s13 = small 13 (omega arith) in
    let s14 = small 14 (omega arith) in
    let s15 = small 15 (omega arith) in
    omega arith

none_some : (name : List ℕ) → None ≡ Some name → ⊥
none_some name is = cc

small_simple : (hex bytes : List ℕ) → parsed_simple hex ≡ Some bytes → from_be_bytes w128 bytes < 2 ^ 128
small_simple hex bytes is =
    ⊎_elim
    (λ good.
    let (long, all) = and_parts (length hex == 32) (list_all is_hex_digit hex) good in
    let long : length hex ≡ 32 = eqb-true (length hex) 32 long in
    let same : by_index 16 (byte_of_digits hex) ≡ bytes = same_Some _ _ (rw good at is) in
    subst (λ (bs : List ℕ). from_be_bytes w128 bs < 2 ^ 128) same
    (small_sum (byte_of_digits hex) (λ i within.
    let high : value_of (slice_index hex (2 * i)) < 16 = digit_small hex long all (2 * i) (omega arith) in
    let low : value_of (slice_index hex (2 * i + 1)) < 16 = digit_small hex long all (2 * i + 1) (omega arith) in
    omega arith)))
    (λ bad. absurd (none_some bytes (rw bad at is)))
    (cases_Bool ((length hex == 32) && list_all is_hex_digit hex))

either : (b : Bool) (x y : Option (List ℕ)) (bytes : List ℕ) → (if b then x else y) ≡ Some bytes → (x ≡ Some bytes) ⊎ (y ≡ Some bytes)
either true x y bytes is = inl is
either false x y bytes is = inr is

small_if : (b : Bool) (hex bytes : List ℕ) → (if b then parsed_simple hex else None) ≡ Some bytes → from_be_bytes w128 bytes < 2 ^ 128
small_if true hex bytes is = small_simple hex bytes is
small_if false hex bytes is = absurd (none_some bytes is)

small_hyphenated : (s bytes : List ℕ) → parsed_hyphenated s ≡ Some bytes → from_be_bytes w128 bytes < 2 ^ 128
small_hyphenated s bytes is = small_if ((length s == 36) && has_hyphens s) (digits_of s) bytes is

small_within : (b : Bool) (s bytes : List ℕ) → (if b then parsed_hyphenated s else None) ≡ Some bytes → from_be_bytes w128 bytes < 2 ^ 128
small_within true s bytes is = small_hyphenated s bytes is
small_within false s bytes is = absurd (none_some bytes is)

pub small_parsed : (s bytes : List ℕ) → parsed s ≡ Some bytes → from_be_bytes w128 bytes < 2 ^ 128
small_parsed s bytes is =
    ⊎_elim (λ e. small_simple s bytes e) (λ rest.
    ⊎_elim (λ e. small_hyphenated s bytes e) (λ rest.
    ⊎_elim (λ e. small_within ((length s == 38) && (slice_index s 0 == open_brace) && (slice_index s 37 == close_brace)) (take 36 (drop 1 s)) bytes e) (λ rest.
    ⊎_elim (λ e. small_within ((length s == 45) && has_urn_prefix s) (drop 9 s) bytes e) (λ none. absurd (none_some bytes none))
    (either (length s == 45) (parsed_urn s) None bytes rest))
    (either (length s == 38) (parsed_braced s) _ bytes rest))
    (either (length s == 36) (parsed_hyphenated s) _ bytes rest))
    (either (length s == 32) (parsed_simple s) _ bytes is)

pub hyphenated_reads : IsReadBack hyphenated
hyphenated_reads text bytes from =
    let n = from_be_bytes w128 bytes in (
      to_be_bytes w128 n,
      sym (parses_hyphenated lower (to_be_bytes w128 n) (inl refl) refl (bytes_small 16 n)),
      from_be_bytes-to_be_bytes_16 n (small_parsed text bytes from),
    )
