-- RAM that is read byte after byte: its sum, and its copy.
use Rattle.std.proofs.Common.{◌≡◌, ℕ, ◌+◌, ◌%◌, ◌<◌, ◌≤◌, true, List, [], ◌∷◌, ◌++◌, length, slice_index, slice_set, take, Option, Some, None}
use Rattle.std.proofs.Common.{arith, ap, sym, ◌∙◌}
use Rattle.std.specs.Option.{option_map, unwrap_or}
use Rattle.std.proofs.lemmas.List.{take_all, take_more, take_more_set}
use Rattle.std.proofs.lemmas.List.Sums.{sum_by_more}
use Rattle.vt_bytes.specs.Numbers.{byte_sum}
use Rattle.vt_bytes.specs.View.{View, bytes_in}
use Rattle.acpi_decode.specs.Seen.{is_ram, bytes_from, sum_at}
use Rattle.acpi_decode.proofs.InRam.{ram_bytes, byte_there, length-bytes_from}

-- What was found at an address of RAM is the byte that stands there, and never nothing.
found_there : (view : View) (address count i byte : ℕ) (found : Option ℕ) → is_ram view address count ≡ true → i < count
    → found ≡ view (address + i) → found ≡ Some byte → byte ≡ slice_index (bytes_from view address count) i
found_there view address count i byte found is below at has = let stands = byte_there view address count i is below in cc

pub not_none : (view : View) (address count i : ℕ) (found : Option ℕ) → is_ram view address count ≡ true → i < count → found ≡ view (address + i)
    → found ≡ None → ⊥
not_none view address count i found is below at none = let stands = byte_there view address count i is below in absurd (cc)

-- the sum with one more byte
pub summed_more : (view : View) (address count i byte sum : ℕ) (found : Option ℕ) → is_ram view address count ≡ true → i < count
    → found ≡ view (address + i) → found ≡ Some byte → sum ≡ byte_sum (take i (bytes_from view address count))
    → (sum + byte) % 256 ≡ byte_sum (take (i + 1) (bytes_from view address count))
summed_more view address count i byte sum found is below at has so_far =
    let bytes = bytes_from view address count in
    let within : i < length bytes = omega (arith, below, length-bytes_from view address count is) in
    omega (arith, sum_by_more (λ (b : ℕ). b) bytes i 0 within, found_there view address count i byte found is below at has, so_far)

-- the sum of all
pub summed_all : (view : View) (address count i sum : ℕ) → is_ram view address count ≡ true → count ≤ i
    → sum ≡ byte_sum (take i (bytes_from view address count)) → sum ≡ sum_at view address count
summed_all view address count i sum is past so_far =
    let bytes = bytes_from view address count in
    so_far ∙ ap byte_sum (take_all i bytes (omega (arith, past, length-bytes_from view address count is)))
    ∙ ap (λ o. unwrap_or (option_map byte_sum o) 0) (sym (ram_bytes view address count is))

-- the copy with one more byte
pub copied_more : (view : View) (address count i byte : ℕ) (found : Option ℕ) (copy : List ℕ) → is_ram view address count ≡ true → i < count
    → found ≡ view (address + i) → found ≡ Some byte → length copy ≡ count → take i copy ≡ take i (bytes_from view address count)
    → take (i + 1) (slice_set copy i byte) ≡ take (i + 1) (bytes_from view address count)
copied_more view address count i byte found copy is below at has size so_far =
    let bytes = bytes_from view address count in
    let within : i < length bytes = omega (arith, below, length-bytes_from view address count is) in
    take_more_set copy i byte (omega (arith, below, size)) ∙ ap (λ front. front ++ byte ∷ []) so_far
    ∙ ap (λ last. take i bytes ++ last ∷ []) (found_there view address count i byte found is below at has) ∙ sym (take_more bytes i 0 within)

-- the copy of all
pub copied_all : (view : View) (address count i : ℕ) (copy : List ℕ) → is_ram view address count ≡ true → count ≤ i → length copy ≡ count
    → take i copy ≡ take i (bytes_from view address count) → bytes_in view address count ≡ Some copy
copied_all view address count i copy is past size so_far =
    let bytes = bytes_from view address count in
    ram_bytes view address count is
    ∙ ap Some (sym (take_all i bytes (omega (arith, past, length-bytes_from view address count is))) ∙ sym so_far ∙ take_all i copy (omega (arith, past, size)))
