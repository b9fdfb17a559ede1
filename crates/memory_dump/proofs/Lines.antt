-- Lines: the first one, what stands behind it, and texts that have none.
use Rattle.std.proofs.Common.{◌≡◌, ℕ, ◌==◌, Bool, true, false, cond, List, [], ◌∷◌, ◌++◌, refl, ap, ◌∙◌, append_assoc}
use Rattle.memory_dump.specs.Reading.{Lines, in_front, lines_of, one_more}
use Rattle.memory_dump.proofs.ReadDigits.{HasNoFeed}

-- a byte that is no line feed, in front of lines
other_byte : (byte : ℕ) (l : Lines) → (byte == 10) ≡ false → one_more byte l ≡ in_front byte l.whole l.rest
other_byte byte l other =
    ap (λ (test : Bool). cond test (record { whole = (byte ∷ []) ∷ l.whole; rest = l.rest }) (in_front byte l.whole l.rest)) other

-- lines whose first is this, with other bytes in front of them
pub lines_more : (front first bytes : List ℕ) (lines : List (List ℕ)) (rest : List ℕ) → HasNoFeed front
    → lines_of bytes ≡ record { whole = first ∷ lines; rest = rest }
    → lines_of (front ++ bytes) ≡ record { whole = (front ++ first) ∷ lines; rest = rest }
unfolding lines_of
lines_more [] first bytes lines rest none are = are
lines_more (byte ∷ front) first bytes lines rest none are =
    let more = lines_more front first bytes lines rest none.1 are in
    ap (one_more byte) more ∙ other_byte byte (record { whole = (front ++ first) ∷ lines; rest = rest }) none.0

-- a line feed in front of any bytes
feed_first : (bytes : List ℕ) → lines_of (10 ∷ bytes) ≡ record { whole = (10 ∷ []) ∷ (lines_of bytes).whole; rest = (lines_of bytes).rest }
unfolding lines_of
feed_first bytes = refl

-- a line that ends in its one line feed, and then any bytes
pub lines_of-line : (front bytes : List ℕ) → HasNoFeed front
    → lines_of ((front ++ 10 ∷ []) ++ bytes) ≡ record { whole = (front ++ 10 ∷ []) ∷ (lines_of bytes).whole; rest = (lines_of bytes).rest }
lines_of-line front bytes none =
    ap lines_of (append_assoc front (10 ∷ []) bytes)
    ∙ lines_more front (10 ∷ []) (10 ∷ bytes) (lines_of bytes).whole (lines_of bytes).rest none (feed_first bytes)

-- bytes without a line feed have no whole line
pub lines_of-none : (bytes : List ℕ) → HasNoFeed bytes → lines_of bytes ≡ record { whole = []; rest = bytes }
unfolding lines_of
lines_of-none [] none = refl
lines_of-none (byte ∷ bytes) none =
    ap (one_more byte) (lines_of-none bytes none.1) ∙ other_byte byte (record { whole = []; rest = bytes }) none.0

-- The first whole line stands in front of the bytes, and the others in what follows.
pub record IsFirst (bytes line : List ℕ) (lines : List (List ℕ)) (rest : List ℕ) : Type 0 where
  pub more : List ℕ
  pub bytes_are : bytes ≡ line ++ more
  pub others : lines_of more ≡ record { whole = lines; rest = rest }

first_in_front : (byte : ℕ) (bytes line : List ℕ) (lines : List (List ℕ)) (rest : List ℕ) (all : List (List ℕ)) (left : List ℕ)
    → lines_of bytes ≡ record { whole = all; rest = left }
    → ((line : List ℕ) (lines : List (List ℕ)) → all ≡ line ∷ lines → IsFirst bytes line lines left) → (test : Bool)
    → cond test (record { whole = (byte ∷ []) ∷ all; rest = left }) (in_front byte all left) ≡ record { whole = line ∷ lines; rest = rest }
    → IsFirst (byte ∷ bytes) line lines rest
first_in_front byte bytes line lines rest all left same first true is =
    let whole : (byte ∷ []) ∷ all ≡ line ∷ lines = ap (λ (x : Lines). x.whole) is in
    let rests : left ≡ rest = ap (λ (x : Lines). x.rest) is in
    let is_line : byte ∷ [] ≡ line = cc in
    let are_lines : all ≡ lines = cc in
    record {
      more = bytes;
      bytes_are = ap (λ (text : List ℕ). text ++ bytes) is_line;
      others = same ∙ ap (λ (w : List (List ℕ)). record { whole = w; rest = left }) are_lines
          ∙ ap (λ (r : List ℕ). record { whole = lines; rest = r }) rests;
    }
first_in_front byte bytes line lines rest [] left same first false is =
    let whole : [] ≡ line ∷ lines = ap (λ (x : Lines). x.whole) is in
    absurd (cc)
first_in_front byte bytes line lines rest (front ∷ others) left same first false is =
    let whole : (byte ∷ front) ∷ others ≡ line ∷ lines = ap (λ (x : Lines). x.whole) is in
    let rests : left ≡ rest = ap (λ (x : Lines). x.rest) is in
    let is_line : byte ∷ front ≡ line = cc in
    let are_lines : others ≡ lines = cc in
    let f = first front others refl in
    record {
      more = f.more;
      bytes_are = ap (λ (text : List ℕ). byte ∷ text) f.bytes_are ∙ ap (λ (text : List ℕ). text ++ f.more) is_line;
      others = f.others ∙ ap (λ (w : List (List ℕ)). record { whole = w; rest = left }) are_lines
          ∙ ap (λ (r : List ℕ). record { whole = lines; rest = r }) rests;
    }

pub first_line : (bytes line : List ℕ) (lines : List (List ℕ)) (rest : List ℕ) → lines_of bytes ≡ record { whole = line ∷ lines; rest = rest }
    → IsFirst bytes line lines rest
unfolding lines_of
first_line [] line lines rest is = let whole : [] ≡ line ∷ lines = ap (λ (x : Lines). x.whole) is in absurd (cc)
first_line (byte ∷ bytes) line lines rest is =
    first_in_front byte bytes line lines rest (lines_of bytes).whole (lines_of bytes).rest refl
    (λ first others whole. first_line bytes first others (lines_of bytes).rest
    (ap (λ (w : List (List ℕ)). record { whole = w; rest = (lines_of bytes).rest }) whole)) (byte == 10) is
