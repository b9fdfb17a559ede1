-- Whether bytes have a line feed, and so a whole line.
use Rattle.std.proofs.Common.{◌≡◌, ◌≢◌, ℕ, ◌==◌, Bool, true, false, ◌||◌, cond, List, [], ◌∷◌, ap, refl, sym, ◌∙◌}
use Rattle.std.specs.List.{list_any}
use Rattle.memory_dump.specs.Reading.{Lines, in_front, lines_of}
use Rattle.memory_dump.proofs.ReadDigits.{HasNoFeed}
use Rattle.memory_dump.proofs.Lines.{lines_of-none}

neither : (a b : Bool) → (a || b) ≡ false → (a ≡ false) × (b ≡ false)
neither true b is = absurd (cc)
neither false b is = (refl, is)

-- bytes none of which is a line feed
pub no_feed : (bytes : List ℕ) → list_any (λ byte. byte == 10) bytes ≡ false → HasNoFeed bytes
no_feed [] none = tt
no_feed (byte ∷ bytes) none =
    let both = neither (byte == 10) (list_any (λ b. b == 10) bytes) none in
    (both.0, no_feed bytes both.1)

pub no_whole_line : (bytes : List ℕ) → list_any (λ byte. byte == 10) bytes ≡ false → (lines_of bytes).whole ≡ []
no_whole_line bytes none = ap (λ (l : Lines). l.whole) (lines_of-none bytes (no_feed bytes none))

-- and bytes one of which is
abbrev HasLine : Lines → Type 0
HasLine l = (line : List ℕ) × (lines : List (List ℕ)) × (l.whole ≡ line ∷ lines)

line_in_front : (byte : ℕ) (whole : List (List ℕ)) (rest : List ℕ) → HasLine (record { whole = whole; rest = rest })
    → HasLine (in_front byte whole rest)
line_in_front byte [] rest has = let same : [] ≡ has.0 ∷ has.1 = has.2 in absurd (cc)
line_in_front byte (line ∷ lines) rest has = (byte ∷ line, lines, refl)

line_of_test : (byte : ℕ) (whole : List (List ℕ)) (rest : List ℕ) (test more : Bool) → (test || more) ≡ true
    → (more ≡ true → HasLine (record { whole = whole; rest = rest }))
    → HasLine (cond test (record { whole = (byte ∷ []) ∷ whole; rest = rest }) (in_front byte whole rest))
line_of_test byte whole rest true more is later = (byte ∷ [], whole, refl)
line_of_test byte whole rest false more is later = line_in_front byte whole rest (later is)

pub has_line : (bytes : List ℕ) → list_any (λ byte. byte == 10) bytes ≡ true → HasLine (lines_of bytes)
unfolding lines_of
has_line [] some = absurd (cc)
has_line (byte ∷ bytes) some = line_of_test byte (lines_of bytes).whole (lines_of bytes).rest (byte == 10) (list_any (λ b. b == 10) bytes) some (has_line bytes)

pub whole_line : (bytes : List ℕ) → list_any (λ byte. byte == 10) bytes ≡ true → (lines_of bytes).whole ≢ []
whole_line bytes some none =
    let has = has_line bytes some in
    let same : has.0 ∷ has.1 ≡ [] = sym has.2 ∙ none in
    absurd (cc)
