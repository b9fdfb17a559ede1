-- Bytes begin with at most one set of strings, whatever follows it.
use Rattle.std.proofs.Common.{◌≡◌, ℕ, not, List, [], ◌∷◌, ◌++◌, ◌==◌, arith, refl, sym, ◌∙◌, subst, append_assoc}
use Rattle.std.proofs.lemmas.Bool.{and_parts}
use Rattle.std.proofs.lemmas.Bool.Decides.{nat_tests}
use Rattle.std.specs.List.{list_all, AllByRecursion}
use Rattle.vt_layout.specs.Strings.{HasNoNul, IsString, AreStrings, with_nuls, string_set}

-- a byte of a text that has no NUL is no NUL
first_no_nul : (byte : ℕ) (text : List ℕ) → HasNoNul (byte ∷ text) → 0 ≡ byte → ⊥
first_no_nul byte text none is =
    let parts = and_parts (not (byte == 0)) (list_all (λ b. not (b == 0)) text) none in
    grind (arith, nat_tests)

-- and neither has the rest of the text
rest_no_nul : (byte : ℕ) (text : List ℕ) → HasNoNul (byte ∷ text) → HasNoNul text
rest_no_nul byte text none = (and_parts (not (byte == 0)) (list_all (λ b. not (b == 0)) text) none).1

-- texts that end at the first NUL are the same, and so is what follows
one_text : (s t p q : List ℕ) → HasNoNul s → HasNoNul t → s ++ 0 ∷ p ≡ t ++ 0 ∷ q → (s ≡ t) × (p ≡ q)
one_text [] [] p q s_none t_none same = (refl, cc)
one_text [] (byte ∷ t) p q s_none t_none same = absurd (first_no_nul byte t t_none (cc))
one_text (byte ∷ s) [] p q s_none t_none same =
    let first : 0 ≡ byte = cc in
    absurd (first_no_nul byte s s_none first)
one_text (b ∷ s) (c ∷ t) p q s_none t_none same =
    let others = one_text s t p q (rest_no_nul b s s_none) (rest_no_nul c t t_none) (cc) in
    let whole : ◌≡◌ {A = List ℕ} (b ∷ s) (c ∷ t) = cc in
    (whole, others.1)

-- the first string's NUL, and what follows it
after_first : (text : List ℕ) (texts : List (List ℕ)) (bytes : List ℕ)
    → with_nuls (text ∷ texts) ++ bytes ≡ text ++ 0 ∷ (with_nuls texts ++ bytes)
after_first text texts bytes = simp append_assoc

-- strings that end at the first NUL in a string's place are the same, and so is what follows
one_list : (u v : List (List ℕ)) (p q : List ℕ) → AllByRecursion IsString u → AllByRecursion IsString v
    → with_nuls u ++ 0 ∷ p ≡ with_nuls v ++ 0 ∷ q → (u ≡ v) × (p ≡ q)
one_list [] [] p q us vs same = (refl, cc)
one_list [] ([] ∷ v) p q us vs same = absurd (omega (arith, vs.0.0))
one_list [] ((byte ∷ t) ∷ v) p q us vs same = absurd (first_no_nul byte t vs.0.1 (cc))
one_list ([] ∷ u) v p q us vs same = absurd (omega (arith, us.0.0))
one_list ((byte ∷ s) ∷ u) [] p q us vs same =
    let first : 0 ≡ byte = cc in
    absurd (first_no_nul byte s us.0.1 first)
one_list ((byte ∷ s) ∷ u) (t ∷ v) p q us vs same =
    let first =
    one_text (byte ∷ s) t (with_nuls u ++ 0 ∷ p) (with_nuls v ++ 0 ∷ q) us.0.1 vs.0.1
    (sym (after_first (byte ∷ s) u (0 ∷ p)) ∙ same ∙ after_first t v (0 ∷ q)) in
    let others = one_list u v p q us.1 vs.1 first.1 in
    let whole : ◌≡◌ {A = List (List ℕ)} ((byte ∷ s) ∷ u) (t ∷ v) = cc in
    (whole, others.1)

-- the first string of a set has no NUL, and the others are strings
parts_of : (text : List ℕ) (texts : List (List ℕ)) → AreStrings (text ∷ texts) → HasNoNul text × AllByRecursion IsString texts
parts_of text [] are = (are.1, tt)
parts_of text (next ∷ texts) are = are

-- a set is its first string's bytes, its NUL, the other strings, and one more NUL
set_after_first : (text : List ℕ) (texts : List (List ℕ)) (bytes : List ℕ)
    → string_set (text ∷ texts) ++ bytes ≡ text ++ 0 ∷ (with_nuls texts ++ 0 ∷ bytes)
set_after_first text texts bytes = append_assoc (with_nuls (text ∷ texts)) (0 ∷ []) bytes ∙ after_first text texts (0 ∷ bytes)

-- two NULs are no set that has strings
no_empty_set : (text : List ℕ) (texts : List (List ℕ)) (p q : List ℕ) → AreStrings (text ∷ texts)
    → 0 ∷ 0 ∷ p ≡ string_set (text ∷ texts) ++ q → ⊥
no_empty_set text texts p q are same =
    let parts = parts_of text texts are in
    let first = one_text [] text (0 ∷ p) (with_nuls texts ++ 0 ∷ q) refl parts.0 (same ∙ set_after_first text texts q) in
    let others = one_list [] texts p q tt parts.1 first.1 in
    let only_empty : ◌≡◌ {A = List (List ℕ)} ([] ∷ []) (text ∷ texts) = cc in
    let empty : IsString [] = subst (λ strings. AreStrings strings) (sym only_empty) are in
    omega (arith, empty.0)

-- bytes begin with one set of strings, and one rest follows it
pub one_string_set : (u v : List (List ℕ)) (p q : List ℕ) → AreStrings u → AreStrings v → string_set u ++ p ≡ string_set v ++ q
    → (u ≡ v) × (p ≡ q)
one_string_set [] [] p q us vs same = (refl, cc)
one_string_set [] (t ∷ v) p q us vs same = absurd (no_empty_set t v p q vs same)
one_string_set (s ∷ u) [] p q us vs same = absurd (no_empty_set s u q p us (sym same))
one_string_set (s ∷ u) (t ∷ v) p q us vs same =
    let us_parts = parts_of s u us in
    let vs_parts = parts_of t v vs in
    let first =
    one_text s t (with_nuls u ++ 0 ∷ p) (with_nuls v ++ 0 ∷ q) us_parts.0 vs_parts.0 (sym (set_after_first s u p) ∙ same ∙ set_after_first t v q) in
    let others = one_list u v p q us_parts.1 vs_parts.1 first.1 in
    let whole : ◌≡◌ {A = List (List ℕ)} (s ∷ u) (t ∷ v) = cc in
    (whole, others.1)
