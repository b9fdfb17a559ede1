-- The strings of a structure (DMTF DSP0134, version 3.0.0, 6.1.3).
use Rattle.std.specs.Prelude.{◌≡◌, ◌≢◌, ℕ, zero, suc, ◌+◌, ◌<◌, not, true, List, [], ◌∷◌, ◌++◌, length, filter, Option, Some, None, ◌==◌}
use Rattle.std.specs.Prelude.{slice_get, if◌then◌else◌}
use Rattle.std.specs.List.{flat_map, list_all, AllByRecursion}

abbrev pub HasNoNul : List ℕ → Type 0
HasNoNul text = list_all (λ byte. not (byte == 0)) text ≡ true

abbrev pub IsString : List ℕ → Type 0
IsString text = (0 < length text) × HasNoNul text

-- The strings of a structure: none holds a NUL. The two NULs that end them are the first two in a row, so only the first string
-- may be empty, and only where another follows.
abbrev pub AreStrings : List (List ℕ) → Type 0
AreStrings [] = Unit {0}
AreStrings (text ∷ []) = IsString text
AreStrings (text ∷ next ∷ texts) = HasNoNul text × AllByRecursion IsString (next ∷ texts)

-- each string with its NUL
abbrev pub with_nuls : List (List ℕ) → List ℕ
with_nuls strings = flat_map (λ string. string ++ 0 ∷ []) strings

-- each string with its NUL and one more NUL, or two NULs where there are no strings
abbrev pub string_set : List (List ℕ) → List ℕ
string_set [] = 0 ∷ 0 ∷ []
string_set (text ∷ texts) = with_nuls (text ∷ texts) ++ 0 ∷ []

-- the string of a number, which counts from 1; 0 is none
abbrev pub string_of : List (List ℕ) → ℕ → Option (List ℕ)
string_of strings zero = Some []
string_of strings (suc n) = slice_get strings n

-- the texts are the strings of these numbers
abbrev pub AreNamed : List (List ℕ) → List ℕ → List (List ℕ) → Type 0
AreNamed strings [] [] = Unit {0}
AreNamed strings (number ∷ numbers) (text ∷ texts) = (string_of strings number ≡ Some text) × AreNamed strings numbers texts
AreNamed strings numbers texts = ⊥

-- the numbers of texts, from the next one on: each text that isn't empty gets the next number, and an empty one gets 0
abbrev pub numbers_from : ℕ → List (List ℕ) → List ℕ
numbers_from next [] = []
numbers_from next (text ∷ texts) =
    if length text == 0 then 0 ∷ numbers_from next texts else next ∷ numbers_from (next + 1) texts

-- the texts that aren't empty
abbrev pub strings_of : List (List ℕ) → List (List ℕ)
strings_of texts = filter (λ text. not (length text == 0)) texts

-- the first of some numbers that is no string's
pub record IsFirstMissing (strings : List (List ℕ)) (numbers : List ℕ) (number : ℕ) : Type 0 where
  pub before : List ℕ
  pub after : List ℕ
  pub asked : numbers ≡ before ++ number ∷ after
  pub there : AllByRecursion (λ n. string_of strings n ≢ None) before
  pub missing : string_of strings number ≡ None
