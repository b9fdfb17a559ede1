-- The texts that aren't empty, among all.
use Rattle.std.proofs.Common.{◌≡◌, ℕ, ◌+◌, ◌<◌, ◌≤◌, not, List, [], ◌∷◌, ◌++◌, length, take, get_or, ◌==◌, arith, refl, ap, sym, ◌∙◌}
use Rattle.std.specs.List.{AllByRecursion}
use Rattle.std.proofs.lemmas.List.{take_more, length-take-le}
use Rattle.std.proofs.lemmas.List.Elements.{filter-append}
use Rattle.vt_layout.specs.Strings.{IsString, strings_of}
use Rattle.vt_layout.proofs.NamedTexts.{strings_of-next}
use Rattle.vt_layout.proofs.AddedFields.{few_strings}

-- strings are the texts that aren't empty among them
pub strings_of-strings : (strings : List (List ℕ)) → AllByRecursion IsString strings → strings_of strings ≡ strings
strings_of-strings [] each = refl
strings_of-strings ([] ∷ texts) each = absurd (omega (arith, each.0.0))
strings_of-strings ((byte ∷ text) ∷ texts) each =
    strings_of-next byte text texts ∙ ap (λ others. (byte ∷ text) ∷ others) (strings_of-strings texts each.1)

-- those of the first texts, and of one more
pub strings_of-more : (texts : List (List ℕ)) (k : ℕ) (text : List ℕ) → k < length texts → text ≡ get_or texts k []
    → strings_of (take k texts) ++ strings_of (text ∷ []) ≡ strings_of (take (k + 1) texts)
strings_of-more texts k text within is =
    ap (λ t. strings_of (take k texts) ++ strings_of (t ∷ [])) is
    ∙ sym (filter-append (λ (t : List ℕ). not (length t == 0)) (take k texts) (get_or texts k [] ∷ []))
    ∙ ap strings_of (sym (take_more texts k [] within))

pub few_before : (texts strings : List (List ℕ)) (k : ℕ) → k < length texts → strings ≡ strings_of (take k texts) → length strings ≤ k
few_before texts strings k within is = omega (arith, ap length is, few_strings (take k texts), length-take-le k texts)
