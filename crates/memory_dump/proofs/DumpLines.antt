-- The first line and a row's line, written by parts.
use Rattle.std.proofs.Common.{◌≡◌, ℕ, ◌+◌, ◌*◌, List, [], ◌∷◌, ◌++◌, length, take, drop, replicate, refl, ap, sym, ◌∙◌, arith, append_assoc, length-append}
use Rattle.std.specs.Prelude.{◌/◌, ◌%◌, ◌<◌, ◌≤◌, codes, slice_index, slice_set}
use Rattle.std.specs.Int.{w32, to_be_bytes}
use Rattle.std.proofs.lemmas.List.{drop_at, set_at, take_at}
use Rattle.std.proofs.Math.Seq.{take-append-add, drop-append-add}
use Rattle.hex.specs.Hex.{encode_lower, encode_with, lower_digits}
use Rattle.hex.proofs.HexLemmas.{length-encode_with}
use Rattle.hex.proofs.Pairs.{encode_done, encode_step}
use Rattle.memory_dump.specs.Dump.{digits_of_address, header_line, row_text}

-- a text with these bytes written over so many of it, from a place on
abbrev put_over : ℕ → ℕ → List ℕ → List ℕ → List ℕ
put_over place count text bytes = take place text ++ (bytes ++ drop count (drop place text))

-- the first elements of two lists, past the first list
take_past : (xs ys : List ℕ) (n k j : ℕ) → length xs ≡ n → n + k ≡ j → take j (xs ++ ys) ≡ xs ++ take k ys
take_past xs ys n k j as_long sum =
    let count : j ≡ length xs + k = omega arith in
    ap (λ (i : ℕ). take i (xs ++ ys)) count ∙ take-append-add xs ys k

-- what stands after them
drop_past : (xs ys : List ℕ) (n k j : ℕ) → length xs ≡ n → n + k ≡ j → drop j (xs ++ ys) ≡ drop k ys
drop_past xs ys n k j as_long sum =
    let count : j ≡ length xs + k = omega arith in
    ap (λ (i : ℕ). drop i (xs ++ ys)) count ∙ drop-append-add xs ys k

-- an address has 8 digits
length-digits_of_address : (address : ℕ) → length (digits_of_address address) ≡ 8
length-digits_of_address address = length-encode_with lower_digits (to_be_bytes w32 address)

-- the digits of a top and of a fill byte, written over the dots
put_both : (top fill : List ℕ) → length top ≡ 8 → put_over 18 2 (put_over 4 8 (codes "top ........ fill .." ++ 10 ∷ []) top) fill ≡ codes "top "
    ++ top ++ codes " fill " ++ fill ++ 10 ∷ []
put_both top fill eight =
    let rest : List ℕ = codes " fill .." ++ 10 ∷ [] in
    let front : take 14 (top ++ rest) ≡ top ++ codes " fill " = take_past top rest 8 6 14 eight refl in
    let end : drop 14 (top ++ rest) ≡ drop 6 rest = drop_past top rest 8 6 14 eight refl in
    ap (λ (text : List ℕ). codes "top " ++ text ++ (fill ++ drop 2 (drop 14 (top ++ rest)))) front
    ∙ ap (λ (text : List ℕ). codes "top " ++ (top ++ codes " fill ") ++ (fill ++ drop 2 text)) end
    ∙ ap (λ (text : List ℕ). codes "top " ++ text) (sym (append_assoc (top ++ codes " fill ") fill (10 ∷ [])))

-- the first line, from its two numbers as written
pub header_written : (top fill : ℕ) (bytes top_digits fill_digits : List ℕ) → bytes ≡ to_be_bytes w32 top → top_digits ≡ encode_lower bytes
    → fill_digits ≡ encode_lower (fill ∷ []) → put_over 18 2 (put_over 4 8 (codes "top ........ fill .." ++ 10 ∷ []) top_digits) fill_digits
    ≡ header_line top fill
unfolding header_line
header_written top fill bytes top_digits fill_digits b t f =
    let digits : top_digits ≡ digits_of_address top = t ∙ ap encode_lower b in
    let eight : length top_digits ≡ 8 = ap length digits ∙ length-digits_of_address top in
    put_both top_digits fill_digits eight
    ∙ ap (λ (text : List ℕ). codes "top " ++ text ++ codes " fill " ++ fill_digits ++ 10 ∷ []) digits
    ∙ ap (λ (text : List ℕ). codes "top " ++ digits_of_address top ++ codes " fill " ++ text ++ 10 ∷ []) f

-- the digits of an address and of a row, written over spaces, and then the line feed
put_row : (address row : List ℕ) → length address ≡ 8 → length row ≡ 32
    → slice_set (put_over 9 32 (address ++ replicate 34 32) row) 41 10 ≡ address ++ codes " " ++ row ++ 10 ∷ []
put_row address row eight wide =
    let front : take 9 (address ++ replicate 34 32) ≡ address ++ codes " " = take_past address (replicate 34 32) 8 1 9 eight refl in
    let end : drop 9 (address ++ replicate 34 32) ≡ replicate 33 32 = drop_past address (replicate 34 32) 8 1 9 eight refl in
    let before : length (address ++ codes " " ++ row) ≡ 41 = omega (arith, length-append (address ++ codes " ") row, length-append address (codes " ")) in
    ap (λ (text : List ℕ). slice_set (text ++ (row ++ drop 32 (drop 9 (address ++ replicate 34 32)))) 41 10) front
    ∙ ap (λ (text : List ℕ). slice_set ((address ++ codes " ") ++ (row ++ drop 32 text)) 41 10) end
    ∙ ap (λ (text : List ℕ). slice_set text 41 10) (sym (append_assoc (address ++ codes " ") row (32 ∷ [])))
    ∙ set_at (address ++ codes " " ++ row) 32 [] 10 41 before

-- the digits of some bytes, and then of those after them
encode_lower-append : (front back : List ℕ) → encode_lower (front ++ back) ≡ encode_lower front ++ encode_lower back
unfolding encode_with
encode_lower-append [] back = refl
encode_lower-append (byte ∷ front) back = ap (λ (text : List ℕ). encode_lower (byte ∷ []) ++ text) (encode_lower-append front back)

-- the bytes of an address and of a row, written over zeros
both_bytes : (address row : List ℕ) → length address ≡ 4 → put_over 4 16 (address ++ replicate 20 0) row ≡ address ++ (row ++ replicate 4 0)
both_bytes address row four =
    let front : take 4 (address ++ replicate 20 0) ≡ address = take_at address (replicate 20 0) 4 four in
    let end : drop 4 (address ++ replicate 20 0) ≡ replicate 20 0 = drop_at address (replicate 20 0) 4 four in
    ap (λ (text : List ℕ). text ++ (row ++ drop 16 (drop 4 (address ++ replicate 20 0)))) front
    ∙ ap (λ (text : List ℕ). address ++ (row ++ drop 16 text)) end

-- the digits of both
both_digits : (address row digits : List ℕ) → length address ≡ 4 → digits ≡ encode_lower (put_over 4 16 (address ++ replicate 20 0) row)
    → digits ≡ encode_lower address ++ (encode_lower row ++ encode_lower (replicate 4 0))
both_digits address row digits four made =
    made ∙ ap encode_lower (both_bytes address row four) ∙ encode_lower-append address (row ++ replicate 4 0)
    ∙ ap (λ (text : List ℕ). encode_lower address ++ text) (encode_lower-append row (replicate 4 0))

-- a row's line, from the digits of its address and of its bytes
pub line_written : (address : ℕ) (row bytes copied digits address_digits row_digits : List ℕ) → length row ≡ 16 → bytes ≡ to_be_bytes w32 address
    → copied ≡ row → digits ≡ encode_lower (put_over 4 16 (bytes ++ replicate 20 0) copied) → address_digits ≡ take 8 digits
    → row_digits ≡ take 32 (drop 8 digits)
    → slice_set (put_over 9 32 (address_digits ++ replicate 34 32) row_digits) 41 10 ≡ row_text address row
unfolding row_text
line_written address row bytes copied digits address_digits row_digits long b same d a r =
    let four : length bytes ≡ 4 = ap length b in
    let eight : length (encode_lower bytes) ≡ 8 = length-encode_with lower_digits bytes ∙ ap (λ (n : ℕ). 2 * n) four in
    let wide : length (encode_lower row) ≡ 32 = length-encode_with lower_digits row ∙ ap (λ (n : ℕ). 2 * n) long in
    let rest : List ℕ = encode_lower (replicate 4 0) in
    let both = both_digits bytes row digits four (d ∙ ap (λ (part : List ℕ). encode_lower (put_over 4 16 (bytes ++ replicate 20 0) part)) same) in
    let first : address_digits ≡ encode_lower bytes = a ∙ ap (take 8) both ∙ take_at (encode_lower bytes) (encode_lower row ++ rest) 8 eight in
    let second : row_digits ≡ encode_lower row =
    r ∙ ap (λ (text : List ℕ). take 32 (drop 8 text)) both ∙ ap (take 32) (drop_at (encode_lower bytes) (encode_lower row ++ rest) 8 eight)
    ∙ take_at (encode_lower row) rest 32 wide in
    put_row address_digits row_digits (ap length first ∙ eight) (ap length second ∙ wide)
    ∙ ap (λ (text : List ℕ). text ++ codes " " ++ row_digits ++ 10 ∷ []) (first ∙ ap encode_lower b)
    ∙ ap (λ (text : List ℕ). digits_of_address address ++ codes " " ++ text ++ 10 ∷ []) second

-- a line has 42 bytes
pub length-row_text : (address : ℕ) (row : List ℕ) → length row ≡ 16 → length (row_text address row) ≡ 42
unfolding row_text
length-row_text address row long =
    let front : List ℕ = digits_of_address address ++ codes " " in
    omega (
      arith,
      long,
      length-append (front ++ encode_lower row) (10 ∷ []),
      length-append front (encode_lower row),
      length-append (digits_of_address address) (codes " "),
      length-digits_of_address address,
      length-encode_with lower_digits row,
    )

-- one more byte's digits are written
pub digits_more : (bytes text : List ℕ) (i high low : ℕ) → i < length bytes → 2 * i + 1 < length text
    → high ≡ slice_index lower_digits (slice_index bytes i / 16) → low ≡ slice_index lower_digits (slice_index bytes i % 16)
    → take (2 * i) text ++ encode_lower (drop i bytes) ≡ encode_lower bytes
    → take (2 * (i + 1)) (slice_set (slice_set text (2 * i) high) (2 * i + 1) low) ++ encode_lower (drop (i + 1) bytes) ≡ encode_lower bytes
digits_more bytes text i high low = encode_step lower_digits bytes text i high low

-- all are
pub digits_done : (bytes text : List ℕ) (i : ℕ) → length bytes ≤ i → length text ≡ 2 * length bytes
    → take (2 * i) text ++ encode_lower (drop i bytes) ≡ encode_lower bytes → text ≡ encode_lower bytes
digits_done bytes text i = encode_done lower_digits bytes text i
