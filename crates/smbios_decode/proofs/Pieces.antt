-- Bytes up to the first two NULs in a row, split at their NULs.
use Rattle.std.proofs.Common.{◌≡◌, ℕ, zero, suc, ◌+◌, ◌<◌, ◌≤◌, Bool, true, false, not, List, [], ◌∷◌, ◌++◌, length, take, ◌==◌, Some}
use Rattle.std.proofs.Common.{arith, refl, ap, sym, ◌∙◌, subst}
use Rattle.std.proofs.Common.{append_assoc, append-nil, length-append}
use Rattle.std.specs.List.{slice_get, slice_split, onto_first, list_all, AllByRecursion}
use Rattle.std.proofs.lemmas.Bool.{eqb-true, and_from, not_from_false}
use Rattle.std.proofs.lemmas.List.{length-take-le, get_or_append_left}
use Rattle.std.proofs.lemmas.List.Splits.{slice_split-cons_yes, slice_split-cons_no}
use Rattle.std.proofs.lemmas.Option.{slice_get_within, slice_get-get_or}
use Rattle.vt_layout.specs.Strings.{HasNoNul, IsString, AreStrings, with_nuls, string_set}
use Rattle.smbios_decode.specs.Ends.{HasEnd, IsFirstEnd}
use Rattle.smbios_decode.proofs.Pairs.{end_behind, end_in_front}

-- no two NULs in a row stand in bytes
abbrev pub HasNoEnd : List ℕ → Type 0
HasNoEnd bytes = (place : ℕ) → HasEnd bytes place → ⊥

-- the first byte is no NUL
abbrev BeginsText : List ℕ → Type 0
BeginsText [] = ⊥
BeginsText (byte ∷ bytes) = byte ≡ 0 → ⊥

-- the bytes between NULs
abbrev pub pieces : List ℕ → List (List ℕ)
pieces bytes = slice_split (λ byte. byte == 0) bytes

-- The pieces of bytes without two NULs in a row, also where one more NUL follows: only the first may be empty, and with a NUL behind
-- each they are the bytes.
record Parts (bytes : List ℕ) : Type 0 where
  pub first : List ℕ
  pub others : List (List ℕ)
  pub are : pieces bytes ≡ first ∷ others
  pub none : HasNoNul first
  pub each : AllByRecursion IsString others
  pub filled : BeginsText bytes → 0 < length first
  pub spelled : with_nuls (first ∷ others) ≡ bytes ++ 0 ∷ []

-- behind a NUL no other one stands
text_behind : (byte : ℕ) (bytes : List ℕ) → byte ≡ 0 → HasNoEnd (byte ∷ (bytes ++ 0 ∷ [])) → BeginsText bytes
text_behind byte [] nul none = none 0 (ap Some nul, refl)
text_behind byte (next ∷ bytes) nul none = λ also. none 0 (ap Some nul, ap Some also)

more_parts : (byte : ℕ) (bytes : List ℕ) (nul : Bool) → (byte == 0) ≡ nul → HasNoEnd (byte ∷ (bytes ++ 0 ∷ [])) → Parts bytes → Parts (byte ∷ bytes)
more_parts byte bytes true nul none p =
    let is : byte ≡ 0 = eqb-true byte 0 nul in
    record {
      first = [];
      others = p.first ∷ p.others;
      are = slice_split-cons_yes (λ b. b == 0) byte bytes nul ∙ ap (λ strings. [] ∷ strings) p.are;
      none = refl;
      each = ((p.filled (text_behind byte bytes is none), p.none), p.each);
      filled = λ begins. absurd (begins is);
      spelled = ap (λ bs. 0 ∷ bs) p.spelled ∙ ap (λ b. b ∷ (bytes ++ 0 ∷ [])) (sym is);
    }
more_parts byte bytes false some none p = record {
  first = byte ∷ p.first;
  others = p.others;
  are = slice_split-cons_no (λ b. b == 0) byte bytes some ∙ ap (onto_first byte) p.are;
  none = and_from (not (byte == 0)) (list_all (λ b. not (b == 0)) p.first) (not_from_false (byte == 0) some) p.none;
  each = p.each;
  filled = λ begins. omega arith;
  spelled = ap (λ bs. byte ∷ bs) p.spelled;
}

parts_of : (bytes : List ℕ) → HasNoEnd (bytes ++ 0 ∷ []) → Parts bytes
parts_of [] none = record { first = []; others = []; are = refl; none = refl; each = tt; filled = λ begins. absurd begins; spelled = refl }
parts_of (byte ∷ bytes) none =
    more_parts byte bytes (byte == 0) refl none
    (parts_of bytes (λ place end. none (suc place) (end_in_front byte (bytes ++ 0 ∷ []) place end)))

-- strings of which only the first may be empty, and only where others follow
are_strings : (first : List ℕ) (others : List (List ℕ)) (bytes : List ℕ) → 0 < length bytes → HasNoNul first → AllByRecursion IsString others
    → with_nuls (first ∷ others) ≡ bytes ++ 0 ∷ [] → AreStrings (first ∷ others)
are_strings first [] bytes some none each spelled =
    let only : first ++ 0 ∷ [] ≡ bytes ++ 0 ∷ [] = sym (append-nil (first ++ 0 ∷ [])) ∙ spelled in
    (omega (arith, ap length only, length-append first (0 ∷ []), length-append bytes (0 ∷ [])), none)
are_strings first (next ∷ others) bytes some none each spelled = (none, each)

-- two NULs in a row, with what stands before and behind them
record EndsAt (bytes : List ℕ) (place : ℕ) : Type 0 where
  pub within : place ≤ length bytes
  pub rest : List ℕ
  pub split : bytes ≡ take place bytes ++ 0 ∷ 0 ∷ rest

ends_at : (bytes : List ℕ) (place : ℕ) → HasEnd bytes place → EndsAt bytes place
ends_at [] place end = absurd (cc end.0)
ends_at (byte ∷ []) zero end = absurd (cc end.1)
ends_at (byte ∷ next ∷ bytes) zero end =
    let first : byte ≡ 0 = cc end.0 in
    let second : next ≡ 0 = cc end.1 in
    record { within = omega arith; rest = bytes; split = cc }
ends_at (byte ∷ bytes) (suc place) end =
    let others = ends_at bytes place (end_behind byte bytes place end) in
    record { within = omega (arith, others.within); rest = others.rest; split = ap (λ bs. byte ∷ bs) others.split }

-- both of them stand within the bytes
pub both_within : (bytes : List ℕ) (place : ℕ) → HasEnd bytes place → place + 2 ≤ length bytes
both_within bytes place end = omega (arith, slice_get_within bytes (place + 1) 0 end.1)

-- two NULs in a row in front of more bytes
get_in_front : (front back : List ℕ) (place byte : ℕ) → slice_get front place ≡ Some byte → slice_get (front ++ back) place ≡ Some byte
get_in_front front back place byte there =
    let within = slice_get_within front place byte there in
    let long : place < length (front ++ back) = omega (arith, within, length-append front back) in
    let front_byte = slice_get-get_or front place 0 within in
    let same = get_or_append_left front back 0 place within in
    slice_get-get_or (front ++ back) place 0 long ∙ ap Some same ∙ sym front_byte ∙ there

-- before the first two NULs in a row there are none
none_before : (bytes front rest : List ℕ) (place : ℕ) → bytes ≡ front ++ 0 ∷ 0 ∷ rest → length front ≡ place
    → ((earlier : ℕ) → earlier < place → HasEnd bytes earlier → ⊥) → HasNoEnd (front ++ 0 ∷ [])
none_before bytes front rest place split long none earlier end =
    let whole : bytes ≡ (front ++ 0 ∷ []) ++ 0 ∷ rest = split ∙ sym (append_assoc front (0 ∷ []) (0 ∷ rest)) in
    let within = slice_get_within (front ++ 0 ∷ []) (earlier + 1) 0 end.1 in
    none earlier (omega (arith, within, long, length-append front (0 ∷ [])))
    (subst (λ bs. HasEnd bs earlier) (sym whole)
    (get_in_front (front ++ 0 ∷ []) (0 ∷ rest) earlier 0 end.0, get_in_front (front ++ 0 ∷ []) (0 ∷ rest) (earlier + 1) 0 end.1))

-- The bytes begin with these strings, which have so many bytes.
pub record Begins (bytes : List ℕ) (size : ℕ) (strings : List (List ℕ)) : Type 0 where
  pub are : AreStrings strings
  pub sized : length (string_set strings) ≡ size
  pub rest : List ℕ
  pub split : bytes ≡ string_set strings ++ rest

by_parts : (bytes front rest : List ℕ) → bytes ≡ front ++ 0 ∷ 0 ∷ rest → 0 < length front → Parts front → Begins bytes (length front + 2) (pieces front)
by_parts bytes front rest split some p =
    let set : string_set (p.first ∷ p.others) ≡ (front ++ 0 ∷ []) ++ 0 ∷ [] = ap (λ bs. bs ++ 0 ∷ []) p.spelled in
    subst (Begins bytes (length front + 2)) (sym p.are)
    (record {
      are = are_strings p.first p.others front some p.none p.each p.spelled;
      sized = omega (arith, ap length set, length-append (front ++ 0 ∷ []) (0 ∷ []), length-append front (0 ∷ []));
      rest = rest;
      split = split ∙ sym (append_assoc front (0 ∷ []) (0 ∷ rest)) ∙ sym (append_assoc (front ++ 0 ∷ []) (0 ∷ []) rest) ∙ ap (λ bs. bs ++ rest) (sym set);
    })

-- up to two NULs in a row, the first, bytes begin with their pieces as strings
pieces_begin : (bytes : List ℕ) (place : ℕ) → IsFirstEnd bytes place → 0 < place → Begins bytes (place + 2) (pieces (take place bytes))
pieces_begin bytes place first some =
    let end = ends_at bytes place first.0 in
    let long = length-take-le place bytes end.within in
    let none = none_before bytes (take place bytes) end.rest place end.split long first.1 in
    subst (λ n. Begins bytes (n + 2) (pieces (take place bytes))) long
    (by_parts bytes (take place bytes) end.rest end.split (omega arith) (parts_of (take place bytes) none))

pub strings_begin : (bytes : List ℕ) (place : ℕ) (strings : List (List ℕ)) → IsFirstEnd bytes place → (place ≡ 0 → ⊥)
    → strings ≡ pieces (take place bytes) → Begins bytes (place + 2) strings
strings_begin bytes place strings first some are =
    subst (Begins bytes (place + 2)) (sym are) (pieces_begin bytes place first (omega arith))

-- two NULs at the front are no strings
none_at_front : (bytes : List ℕ) → HasEnd bytes 0 → Begins bytes 2 []
none_at_front bytes end =
    let whole = ends_at bytes 0 end in
    record { are = tt; sized = refl; rest = whole.rest; split = whole.split }

pub none_begin : (bytes : List ℕ) (place : ℕ) (strings : List (List ℕ)) → IsFirstEnd bytes place → place ≡ 0 → strings ≡ []
    → Begins bytes (place + 2) strings
none_begin bytes place strings first front none =
    let end : HasEnd bytes 0 = subst (HasEnd bytes) front first.0 in
    subst (Begins bytes (place + 2)) (sym none) (subst (λ n. Begins bytes (n + 2) []) (sym front) (none_at_front bytes end))

-- the bytes of strings end in a NUL
last_nul : (text : List ℕ) (texts : List (List ℕ)) → (front : List ℕ) × (with_nuls (text ∷ texts) ≡ front ++ 0 ∷ [])
last_nul text [] = (text, append-nil (text ++ 0 ∷ []))
last_nul text (next ∷ texts) =
    let others = last_nul next texts in
    ((text ++ 0 ∷ []) ++ others.0, ap (λ bs. (text ++ 0 ∷ []) ++ bs) others.1 ∙ sym (append_assoc (text ++ 0 ∷ []) others.0 (0 ∷ [])))

end_at : (front rest : List ℕ) → HasEnd (front ++ 0 ∷ 0 ∷ rest) (length front)
end_at [] rest = (refl, refl)
end_at (byte ∷ front) rest = end_in_front byte (front ++ 0 ∷ 0 ∷ rest) (length front) (end_at front rest)

-- where no two NULs stand in a row, no strings end
pub no_strings : (bytes : List ℕ) → HasNoEnd bytes → (strings : List (List ℕ)) (rest : List ℕ) → AreStrings strings
    → bytes ≡ string_set strings ++ rest → ⊥
no_strings bytes none [] rest are split = none 0 (subst (λ bs. HasEnd bs 0) (sym split) (refl, refl))
no_strings bytes none (text ∷ texts) rest are split =
    let last = last_nul text texts in
    let whole : bytes ≡ last.0 ++ 0 ∷ 0 ∷ rest =
    split ∙ append_assoc (with_nuls (text ∷ texts)) (0 ∷ []) rest ∙ ap (λ bs. bs ++ 0 ∷ rest) last.1 ∙ append_assoc last.0 (0 ∷ []) (0 ∷ rest) in
    none (length last.0) (subst (λ bs. HasEnd bs (length last.0)) (sym whole) (end_at last.0 rest))
