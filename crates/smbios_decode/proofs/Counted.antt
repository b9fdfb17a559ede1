-- Strings that are counted.
use Rattle.std.proofs.Common.{◌≡◌, ◌≢◌, ℕ, zero, suc, ◌+◌, ◌<◌, ◌≤◌, List, [], ◌∷◌, length, get_or, take, drop, Some, None}
use Rattle.std.proofs.Common.{arith, refl, ap, sym, subst, ◌∙◌}
use Rattle.std.proofs.lemmas.List.{drop_more}
use Rattle.std.proofs.lemmas.Option.{slice_get-get_or, slice_get_past}
use Rattle.vt_layout.specs.Strings.{string_of, AreNamed, IsFirstMissing}
use Rattle.smbios_model.specs.OemStrings.{counted_from}

-- the string of a number from one on
string_at : (strings : List (List ℕ)) (place first : ℕ) → first ≡ suc place → place < length strings
    → string_of strings first ≡ Some (get_or strings place [])
string_at strings place first next within = ap (string_of strings) next ∙ slice_get-get_or strings place [] within

-- from a place on as many as are left are named
named_from : (strings : List (List ℕ)) (first place count : ℕ) → first ≡ suc place → place + count ≤ length strings
    → AreNamed strings (counted_from first count) (take count (drop place strings))
named_from strings first place zero next within = tt
named_from strings first place (suc count) next within =
    let here = string_at strings place first next (omega arith) in
    let others = named_from strings (first + 1) (place + 1) count (omega (arith, next)) (omega arith) in
    subst (λ texts. AreNamed strings (counted_from first (suc count)) (take (suc count) texts)) (sym (drop_more strings place [] (omega arith)))
    (here, others)

pub counted_named : (strings : List (List ℕ)) (count : ℕ) → count ≤ length strings
    → AreNamed strings (counted_from 1 count) (take count strings)
counted_named strings count within = named_from strings 1 0 count refl (omega (arith, within))

-- from a place on the one behind the last string is the first that is missing
missing_from : (strings : List (List ℕ)) (first place left count : ℕ) → first ≡ suc place → place + left ≡ length strings → left < count
    → IsFirstMissing strings (counted_from first count) (length strings + 1)
missing_from strings first place left zero next all more = absurd (omega arith)
missing_from strings first place zero (suc count) next all more =
    let number : length strings + 1 ≡ first = omega (arith, next) in
    let past : string_of strings (length strings + 1) ≡ None =
    ap (string_of strings) (number ∙ next) ∙ slice_get_past strings place (omega arith) in
    record { before = []; after = counted_from (first + 1) count; asked = cc number; there = tt; missing = past }
missing_from strings first place (suc left) (suc count) next all more =
    let here = string_at strings place first next (omega arith) in
    let found : string_of strings first ≢ None = λ none. absurd (cc (here, none)) in
    let rest = missing_from strings (first + 1) (place + 1) left count (omega (arith, next)) (omega arith) (omega arith) in
    record {
      before = first ∷ rest.before;
      after = rest.after;
      asked = ap (λ numbers. first ∷ numbers) rest.asked;
      there = (found, rest.there);
      missing = rest.missing;
    }

pub counted_missing : (strings : List (List ℕ)) (count : ℕ) → length strings < count
    → IsFirstMissing strings (counted_from 1 count) (length strings + 1)
counted_missing strings count few = missing_from strings 1 0 (length strings) count refl (omega arith) few
