-- Which lines are spelled as a row's, and as the first of a dump.
use Rattle.std.proofs.Common.{◌≡◌, ℕ, ◌+◌, ◌*◌, ◌%◌, ◌<◌, ◌^◌, ◌==◌, Bool, true, false, cond, List, [], ◌∷◌, ◌++◌, length, take, drop, slice_index}
use Rattle.std.proofs.Common.{Option, Some, None, refl, ap, sym, subst, ◌∙◌, arith, append_assoc, length-append, length-take, length-drop}
use Rattle.std.specs.Prelude.{codes}
use Rattle.std.specs.Int.{w32, to_be_bytes, from_be_bytes}
use Rattle.std.specs.Str.{bytes_eq}
use Rattle.std.proofs.lemmas.Bool.{and_parts, and_from, eqb-true, eq-eqb}
use Rattle.std.proofs.lemmas.Bool.Decides.{nat_tests}
use Rattle.std.proofs.lemmas.Nat.{from_be_bytes-to_be_bytes_4}
use Rattle.std.proofs.lemmas.List.{take_at, drop_at}
use Rattle.std.proofs.lemmas.Slice.Eq.{bytes_eq-Decides}
use Rattle.hex.specs.Hex.{encode_lower, lower_digits}
use Rattle.hex.proofs.HexLemmas.{length-encode_with}
use Rattle.vt_bytes.specs.Memory.{IsTop}
use Rattle.vt_bytes.proofs.Each.{each_append}
use Rattle.memory_dump.specs.Dump.{digits_of_address, header_line, last_line, row_text}
use Rattle.memory_dump.specs.Rows.{AreBytes, IsSpelled}
use Rattle.memory_dump.specs.Reading.{bytes_of, header_if, header_of, header_read, is_first_line_of, is_line_of, is_top, row_if, row_of, row_read}
use Rattle.memory_dump.specs.declared.row.Row.{Row}
use Rattle.memory_dump.specs.declared.header.Header.{Header}
use Rattle.memory_dump.proofs.ReadDigits.{HasNoFeed, bytes_of-digits, bytes_of_are, length-bytes_of, digits_no_feed, number_bytes}

-- a row's line without its line feed, and the first line
abbrev pub row_front : ℕ → List ℕ → List ℕ
row_front address bytes = digits_of_address address ++ codes " " ++ encode_lower bytes

abbrev pub header_front : ℕ → ℕ → List ℕ
header_front top fill = codes "top " ++ digits_of_address top ++ codes " fill " ++ encode_lower (fill ∷ [])

pub row_text-front : (address : ℕ) (bytes : List ℕ) → row_text address bytes ≡ row_front address bytes ++ 10 ∷ []
unfolding row_text
row_text-front address bytes = refl

pub header_line-front : (top fill : ℕ) → header_line top fill ≡ header_front top fill ++ 10 ∷ []
unfolding header_line
header_line-front top fill = refl

abbrev pub last_front : List ℕ
last_front = codes "end"

pub last_line-front : last_line ≡ last_front ++ 10 ∷ []
unfolding last_line
last_line-front = refl

-- they have no other line feed
address_no_feed : (address : ℕ) → HasNoFeed (digits_of_address address)
address_no_feed address = digits_no_feed (to_be_bytes w32 address) (number_bytes 4 address)

pub row_no_feed : (address : ℕ) (bytes : List ℕ) → AreBytes bytes → HasNoFeed (row_front address bytes)
row_no_feed address bytes are =
    each_append (λ b. (b == 10) ≡ false) (digits_of_address address ++ codes " ") (encode_lower bytes)
    (each_append (λ b. (b == 10) ≡ false) (digits_of_address address) (codes " ") (address_no_feed address) (refl, tt))
    (digits_no_feed bytes are)

pub header_no_feed : (top fill : ℕ) → fill < 256 → HasNoFeed (header_front top fill)
header_no_feed top fill small =
    each_append (λ b. (b == 10) ≡ false) (codes "top " ++ digits_of_address top ++ codes " fill ") (encode_lower (fill ∷ []))
    (each_append (λ b. (b == 10) ≡ false) (codes "top " ++ digits_of_address top) (codes " fill ")
    (each_append (λ b. (b == 10) ≡ false) (codes "top ") (digits_of_address top) (refl, (refl, (refl, (refl, tt)))) (address_no_feed top))
    (refl, (refl, (refl, (refl, (refl, (refl, tt)))))))
    (digits_no_feed (fill ∷ []) (small, tt))

pub last_no_feed : HasNoFeed last_front
last_no_feed = (refl, (refl, (refl, tt)))

-- ---- lengths

pub length-address : (address : ℕ) → length (digits_of_address address) ≡ 8
length-address address = length-encode_with lower_digits (to_be_bytes w32 address)

pub length-row_front : (address : ℕ) (bytes : List ℕ) → length (row_front address bytes) ≡ 9 + 2 * length bytes
length-row_front address bytes =
    omega (
      arith,
      length-append (digits_of_address address ++ codes " ") (encode_lower bytes),
      length-append (digits_of_address address) (codes " "),
      length-address address,
      length-encode_with lower_digits bytes,
    )

pub length-row : (address : ℕ) (bytes : List ℕ) → length (row_text address bytes) ≡ 10 + 2 * length bytes
length-row address bytes =
    omega (arith, ap length (row_text-front address bytes), length-append (row_front address bytes) (10 ∷ []), length-row_front address bytes)

pub length-header : (top fill : ℕ) → length (header_line top fill) ≡ 21
length-header top fill =
    omega (
      arith,
      ap length (header_line-front top fill),
      length-append (header_front top fill) (10 ∷ []),
      length-append (codes "top " ++ digits_of_address top ++ codes " fill ") (encode_lower (fill ∷ [])),
      length-append (codes "top " ++ digits_of_address top) (codes " fill "),
      length-append (codes "top ") (digits_of_address top),
      length-address top,
      length-encode_with lower_digits (fill ∷ []),
    )

-- ---- what is read of them

-- a test that gives something holds, and gives this
pub given : {T : Type 0} (test : Bool) (value found : T) → cond test (Some value) None ≡ Some found → (test ≡ true) × (value ≡ found)
given true value found is = (refl, cc)
given false value found is = absurd (cc)

pub not_given : {T : Type 0} (test : Bool) (value : T) → test ≡ true → cond test (Some value) None ≡ Some value
not_given true value is = refl
not_given false value is = absurd (cc)

read_back : (address : ℕ) (bytes : List ℕ) → address < 2 ^ 32 → length bytes ≡ 16 → AreBytes bytes
    → row_read (row_text address bytes) ≡ record { address = address; bytes = bytes }
read_back address bytes small size are =
    let line = row_text address bytes in
    let whole : line ≡ digits_of_address address ++ (codes " " ++ (encode_lower bytes ++ 10 ∷ [])) =
    row_text-front address bytes ∙ append_assoc (digits_of_address address ++ codes " ") (encode_lower bytes) (10 ∷ [])
    ∙ append_assoc (digits_of_address address) (codes " ") (encode_lower bytes ++ 10 ∷ []) in
    let nine : length (digits_of_address address ++ codes " ") ≡ 9 =
    omega (arith, length-append (digits_of_address address) (codes " "), length-address address) in
    let first : take 8 line ≡ digits_of_address address =
    ap (take 8) whole ∙ take_at (digits_of_address address) (codes " " ++ (encode_lower bytes ++ 10 ∷ [])) 8 (length-address address) in
    let second : take 32 (drop 9 line) ≡ encode_lower bytes =
    ap (λ (text : List ℕ). take 32 (drop 9 text)) (row_text-front address bytes ∙ append_assoc (digits_of_address address ++ codes " ")
    (encode_lower bytes) (10 ∷ []))
    ∙ ap (take 32) (drop_at (digits_of_address address ++ codes " ") (encode_lower bytes ++ 10 ∷ []) 9 nine)
    ∙ take_at (encode_lower bytes) (10 ∷ []) 32 (omega (arith, size, length-encode_with lower_digits bytes)) in
    let number : from_be_bytes w32 (bytes_of (take 8 line)) ≡ address =
    ap (λ (text : List ℕ). from_be_bytes w32 (bytes_of text)) first
    ∙ ap (from_be_bytes w32) (bytes_of-digits (to_be_bytes w32 address) (number_bytes 4 address)) ∙ from_be_bytes-to_be_bytes_4 address small in
    let row : bytes_of (take 32 (drop 9 line)) ≡ bytes = ap bytes_of second ∙ bytes_of-digits bytes are in
    ap (λ (a : ℕ). record { address = a; bytes = bytes_of (take 32 (drop 9 line)) }) number
    ∙ ap (λ (b : List ℕ). record { address = address; bytes = b }) row

-- a line that is spelled so is read
pub row_of-spelled : (line : List ℕ) (row : Row) → row.address < 2 ^ 32 → IsSpelled line row → row_of line ≡ Some row
unfolding row_of
row_of-spelled line row small spelled =
    let back : row_read line ≡ row = ap row_read spelled.text ∙ read_back row.address row.bytes small spelled.size spelled.bytes in
    let same : bytes_eq (row_text row.address row.bytes) line ≡ true =
    (bytes_eq-Decides (row_text row.address row.bytes) line).1 (sym spelled.text) in
    let long : length line ≡ 42 = omega (arith, ap length spelled.text, length-row row.address row.bytes, spelled.size) in
    ap (row_if line) back
    ∙ not_given _ row (and_from _ _ same (and_from _ _ (eq-eqb _ _ spelled.aligned) (eq-eqb _ _ long)))

-- and what is read is spelled so
pub row_of-only : (line : List ℕ) (row : Row) → row_of line ≡ Some row → IsSpelled line row
unfolding row_of
row_of-only line row is =
    let found = given _ (row_read line) row is in
    let r = row_read line in
    let parts = and_parts (bytes_eq (row_text r.address r.bytes) line) _ found.0 in
    let rest = and_parts (r.address % 16 == 0) (length line == 42) parts.1 in
    let long : length line ≡ 42 = eqb-true (length line) 42 rest.1 in
    let size : length (take 32 (drop 9 line)) ≡ 32 = simp (length-take, length-drop) (omega (arith, long)) in
    subst (IsSpelled line) found.1 (record {
      text = sym ((bytes_eq-Decides (row_text r.address r.bytes) line).0 parts.0);
      aligned = eqb-true (r.address % 16) 0 rest.0;
      size = length-bytes_of 16 (take 32 (drop 9 line)) size;
      bytes = bytes_of_are (take 32 (drop 9 line));
    })

-- ---- the first line

pub top_from_test : (top : ℕ) → is_top top ≡ true → IsTop top
top_from_test top is =
    let outer = and_parts _ _ is in
    let inner = and_parts _ _ outer.1 in
    record { at_least = grind (arith, nat_tests); at_most = grind (arith, nat_tests); whole = eqb-true (top % 0x100000) 0 inner.1 }

pub top_tested : (top : ℕ) → IsTop top → is_top top ≡ true
top_tested top lawful = grind (arith, nat_tests, lawful.at_least, lawful.at_most, lawful.whole)

-- A line is spelled as the first one, and its top is lawful.
pub record IsHeader (line : List ℕ) (header : Header) : Type 0 where
  pub text : line ≡ header_line header.top header.fill
  pub top : IsTop header.top
  pub fill : header.fill < 256

header_back : (top fill : ℕ) → top < 2 ^ 32 → fill < 256 → header_read (header_line top fill) ≡ record { top = top; fill = fill }
header_back top fill small few =
    let line = header_line top fill in
    let digits = digits_of_address top in
    let end : List ℕ = encode_lower (fill ∷ []) ++ 10 ∷ [] in
    let front : List ℕ = codes "top " ++ digits ++ codes " fill " in
    let whole : line ≡ front ++ end = header_line-front top fill ∙ append_assoc front (encode_lower (fill ∷ [])) (10 ∷ []) in
    let early : line ≡ codes "top " ++ (digits ++ (codes " fill " ++ end)) =
    whole ∙ append_assoc (codes "top " ++ digits) (codes " fill ") end ∙ append_assoc (codes "top ") digits (codes " fill " ++ end) in
    let eighteen : length front ≡ 18 =
    omega (arith, length-append (codes "top " ++ digits) (codes " fill "), length-append (codes "top ") digits, length-address top) in
    let first : take 8 (drop 4 line) ≡ digits =
    ap (λ (text : List ℕ). take 8 (drop 4 text)) early ∙ take_at digits (codes " fill " ++ end) 8 (length-address top) in
    let second : take 2 (drop 18 line) ≡ encode_lower (fill ∷ []) =
    ap (λ (text : List ℕ). take 2 (drop 18 text)) whole ∙ ap (take 2) (drop_at front end 18 eighteen)
    ∙ take_at (encode_lower (fill ∷ [])) (10 ∷ []) 2 (length-encode_with lower_digits (fill ∷ [])) in
    let number : from_be_bytes w32 (bytes_of (take 8 (drop 4 line))) ≡ top =
    ap (λ (text : List ℕ). from_be_bytes w32 (bytes_of text)) first
    ∙ ap (from_be_bytes w32) (bytes_of-digits (to_be_bytes w32 top) (number_bytes 4 top)) ∙ from_be_bytes-to_be_bytes_4 top small in
    let byte : slice_index (bytes_of (take 2 (drop 18 line))) 0 ≡ fill =
    ap (λ (text : List ℕ). slice_index (bytes_of text) 0) second
    ∙ ap (λ (bytes : List ℕ). slice_index bytes 0) (bytes_of-digits (fill ∷ []) (few, tt)) in
    ap (λ (t : ℕ). record { top = t; fill = slice_index (bytes_of (take 2 (drop 18 line))) 0 }) number
    ∙ ap (λ (f : ℕ). record { top = top; fill = f }) byte

pub header_of-spelled : (line : List ℕ) (header : Header) → IsHeader line header → header_of line ≡ Some header
unfolding header_of
header_of-spelled line header spelled =
    let small : header.top < 2 ^ 32 = omega (arith, spelled.top.at_most) in
    let back : header_read line ≡ header = ap header_read spelled.text ∙ header_back header.top header.fill small spelled.fill in
    let same : bytes_eq (header_line header.top header.fill) line ≡ true =
    (bytes_eq-Decides (header_line header.top header.fill) line).1 (sym spelled.text) in
    ap (header_if line) back ∙ not_given _ header (and_from _ _ same (top_tested header.top spelled.top))

first_byte_small : (bytes : List ℕ) → AreBytes bytes → slice_index bytes 0 < 256
first_byte_small [] are = omega arith
first_byte_small (byte ∷ bytes) are = are.0

pub header_of-only : (line : List ℕ) (header : Header) → header_of line ≡ Some header → IsHeader line header
unfolding header_of
header_of-only line header is =
    let found = given _ (header_read line) header is in
    let h = header_read line in
    let parts = and_parts (bytes_eq (header_line h.top h.fill) line) (is_top h.top) found.0 in
    subst (IsHeader line) found.1 (record {
      text = sym ((bytes_eq-Decides (header_line h.top h.fill) line).0 parts.0);
      top = top_from_test h.top parts.1;
      fill = first_byte_small (bytes_of (take 2 (drop 18 line))) (bytes_of_are (take 2 (drop 18 line)));
    })

-- ---- as the code tests it

told : {T : Type 0} (test : Bool) (value : T) → test ≡ true → Some value ≡ cond test (Some value) None
told true value is = refl
told false value is = absurd (cc)

untold : {T : Type 0} (test : Bool) (value : T) → test ≡ false → None ≡ cond test (Some value) None
untold true value is = absurd (cc)
untold false value is = refl

pub row_told : (line : List ℕ) (row : Row) (test : Bool) → row ≡ row_read line → test ≡ is_line_of line row → test ≡ true → Some row ≡ row_of line
unfolding row_of
row_told line row test read tested is = told (is_line_of line row) row (sym tested ∙ is) ∙ ap (row_if line) read

pub row_untold : (line : List ℕ) (row : Row) (test : Bool) → row ≡ row_read line → test ≡ is_line_of line row → test ≡ false → None ≡ row_of line
unfolding row_of
row_untold line row test read tested is = untold (is_line_of line row) row (sym tested ∙ is) ∙ ap (row_if line) read

short_so : (line : List ℕ) (found : Option Row) → length line < 42 → row_of line ≡ found → None ≡ found
short_so line None short is = refl
short_so line (Some row) short is =
    let spelled = row_of-only line row is in
    absurd (omega (arith, ap length spelled.text, length-row row.address row.bytes, spelled.size, short))

pub row_short : (text : List ℕ) → length text < 42 → None ≡ row_of (take 42 text)
row_short text short =
    let cut : length (take 42 text) < 42 = simp length-take (omega (arith, short)) in
    short_so (take 42 text) (row_of (take 42 text)) cut refl

pub header_told : (line : List ℕ) (header : Header) (test : Bool) → header ≡ header_read line → test ≡ is_first_line_of line header → test ≡ true
    → Some header ≡ header_of line
unfolding header_of
header_told line header test read tested is = told (is_first_line_of line header) header (sym tested ∙ is) ∙ ap (header_if line) read

pub header_untold : (line : List ℕ) (header : Header) (test : Bool) → header ≡ header_read line → test ≡ is_first_line_of line header → test ≡ false
    → None ≡ header_of line
unfolding header_of
header_untold line header test read tested is = untold (is_first_line_of line header) header (sym tested ∙ is) ∙ ap (header_if line) read

short_header_so : (line : List ℕ) (found : Option Header) → length line < 21 → header_of line ≡ found → None ≡ found
short_header_so line None short is = refl
short_header_so line (Some header) short is =
    let h = header_of-only line header is in
    absurd (omega (arith, ap length h.text, length-header header.top header.fill, short))

pub header_short : (text : List ℕ) → length text < 21 → None ≡ header_of (take 21 text)
header_short text short =
    let cut : length (take 21 text) < 21 = simp length-take (omega (arith, short)) in
    short_header_so (take 21 text) (header_of (take 21 text)) cut refl
