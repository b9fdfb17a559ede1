-- Texts, or names, that are tested to be equal.
use Rattle.std.proofs.Common.{◌≡◌, ◌≢◌, ℕ, true, false, List, refl, sym}
use Rattle.std.specs.Str.{bytes_eq}
use Rattle.std.proofs.lemmas.Bool.{both_ways, false_from_ne_true}
use Rattle.std.proofs.lemmas.Slice.Eq.{bytes_eq-Decides}

-- two that pass are one
pub same_text : (a b : List ℕ) → bytes_eq a b ≡ true → a ≡ b
same_text a b = (bytes_eq-Decides a b).0

-- each one passes against itself
pub text_itself : (a : List ℕ) → bytes_eq a a ≡ true
text_itself a = (bytes_eq-Decides a a).1 refl

-- two that aren't one fail
pub other_text : (a b : List ℕ) → a ≢ b → bytes_eq a b ≡ false
other_text a b differ = false_from_ne_true _ (λ passes. differ (same_text a b passes))

-- two that fail do so the other way round too
pub other_turned : (a b : List ℕ) → bytes_eq a b ≡ false → bytes_eq b a ≡ false
other_turned a b fails = other_text b a (λ same. both_ways _ fails ((bytes_eq-Decides a b).1 (sym same)))
