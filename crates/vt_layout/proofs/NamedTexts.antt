-- Texts that are written as strings, and the numbers that they get, name each other.
use Rattle.std.proofs.Common.{◌≡◌, ℕ, suc, ◌+◌, false, not, cond, List, [], ◌∷◌, ◌++◌, length, Some, ◌==◌, arith, refl, ap, sym}
use Rattle.std.proofs.Common.{◌∙◌, subst, append_assoc, length-append}
use Rattle.std.specs.List.{slice_get, AllByRecursion}
use Rattle.std.proofs.lemmas.Bool.{cond-false}
use Rattle.std.proofs.lemmas.Bool.Decides.{nat_tests}
use Rattle.vt_layout.specs.Strings.{HasNoNul, IsString, AreStrings, string_of, AreNamed, numbers_from, strings_of}

-- the string after others
slice_get-next : (before : List (List ℕ)) (text : List ℕ) (after : List (List ℕ)) → slice_get (before ++ text ∷ after) (length before) ≡ Some text
slice_get-next [] text after = refl
slice_get-next (first ∷ before) text after = slice_get-next before text after

-- a text with a byte isn't empty
pub not_empty : (byte : ℕ) (text : List ℕ) → (length (byte ∷ text) == 0) ≡ false
not_empty byte text = grind (arith, nat_tests)

-- it gets the next number
pub numbers_from-next : (next byte : ℕ) (text : List ℕ) (texts : List (List ℕ))
    → numbers_from next ((byte ∷ text) ∷ texts) ≡ next ∷ numbers_from (next + 1) texts
numbers_from-next next byte text texts =
    cond-false _ (0 ∷ numbers_from next texts) (next ∷ numbers_from (next + 1) texts) (not_empty byte text)

-- it is one of the strings
pub strings_of-next : (byte : ℕ) (text : List ℕ) (texts : List (List ℕ)) → strings_of ((byte ∷ text) ∷ texts) ≡ (byte ∷ text) ∷ strings_of texts
strings_of-next byte text texts = ap (λ empty. cond (not empty) ((byte ∷ text) ∷ strings_of texts) (strings_of texts)) (not_empty byte text)

-- the texts that aren't empty, after other strings, are the strings of their numbers
named_after : (before texts : List (List ℕ)) (next : ℕ) → next ≡ suc (length before)
    → AreNamed (before ++ strings_of texts) (numbers_from next texts) texts
named_after before [] next is = tt
named_after before ([] ∷ texts) next is = (refl, named_after before texts next is)
named_after before ((byte ∷ text) ∷ texts) next is =
    let string : List ℕ = byte ∷ text in
    let more : next + 1 ≡ suc (length (before ++ string ∷ [])) = omega (arith, length-append before (string ∷ [])) in
    let others = named_after (before ++ string ∷ []) texts (next + 1) more in
    let behind =
    subst (λ all. AreNamed all (numbers_from (next + 1) texts) texts) (append_assoc before (string ∷ []) (strings_of texts)) others in
    let first : string_of (before ++ string ∷ strings_of texts) next ≡ Some string =
    ap (string_of (before ++ string ∷ strings_of texts)) is ∙ slice_get-next before string (strings_of texts) in
    let named : AreNamed (before ++ string ∷ strings_of texts) (next ∷ numbers_from (next + 1) texts) (string ∷ texts) = (first, behind) in
    let numbered =
    subst (λ numbers. AreNamed (before ++ string ∷ strings_of texts) numbers (string ∷ texts)) (sym (numbers_from-next next byte text texts)) named in
    subst (λ after. AreNamed (before ++ after) (numbers_from next (string ∷ texts)) (string ∷ texts)) (sym (strings_of-next byte text texts)) numbered

pub texts_named : (texts : List (List ℕ)) → AreNamed (strings_of texts) (numbers_from 1 texts) texts
texts_named texts = named_after [] texts 1 refl

-- texts that aren't empty and hold no NUL are strings
pub each_string : (texts : List (List ℕ)) → AllByRecursion HasNoNul texts → AllByRecursion IsString (strings_of texts)
each_string [] none = tt
each_string ([] ∷ texts) none = each_string texts none.1
each_string ((byte ∷ text) ∷ texts) none =
    let one : IsString (byte ∷ text) = (omega arith, none.0) in
    subst (AllByRecursion IsString) (sym (strings_of-next byte text texts)) (one, each_string texts none.1)

are_strings : (strings : List (List ℕ)) → AllByRecursion IsString strings → AreStrings strings
are_strings [] all = tt
are_strings (text ∷ []) all = all.0
are_strings (text ∷ next ∷ texts) all = (all.0.1, all.1)

pub texts_strings : (texts : List (List ℕ)) → AllByRecursion HasNoNul texts → AreStrings (strings_of texts)
texts_strings texts none = are_strings (strings_of texts) (each_string texts none)

-- as many numbers as texts
pub length-numbers_from : (next : ℕ) (texts : List (List ℕ)) → length (numbers_from next texts) ≡ length texts
length-numbers_from next [] = refl
length-numbers_from next ([] ∷ texts) = ap suc (length-numbers_from next texts)
length-numbers_from next ((byte ∷ text) ∷ texts) =
    ap length (numbers_from-next next byte text texts) ∙ ap suc (length-numbers_from (next + 1) texts)
