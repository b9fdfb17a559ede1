-- Lawful texts: each is printable, and at most 64 bytes long.
use Rattle.std.proofs.Common.{◌≡◌, ℕ, ◌+◌, ◌*◌, ◌≤◌, Bool, true, false, not, cond, ◌&&◌, List, [], ◌∷◌, ◌++◌, length, nat_le, ◌==◌, arith, refl}
use Rattle.std.proofs.Common.{ap, ◌∙◌, length-append}
use Rattle.std.specs.List.{list_all, AllByRecursion}
use Rattle.std.proofs.lemmas.Bool.{and_parts, leb-true}
use Rattle.std.proofs.lemmas.Bool.Decides.{nat_tests}
use Rattle.vt_outside.specs.Name.{is_printable}
use Rattle.machine_desc.specs.Rules.{is_text}
use Rattle.vt_layout.specs.Strings.{HasNoNul, strings_of, with_nuls}

-- a printable byte is no NUL
no_nul : (byte : ℕ) → is_printable byte ≡ true → not (byte == 0) ≡ true
no_nul byte printable = grind (arith, nat_tests)

printable_no_nul : (text : List ℕ) → list_all is_printable text ≡ true → HasNoNul text
printable_no_nul [] all = refl
printable_no_nul (byte ∷ text) all =
    let parts = and_parts (is_printable byte) (list_all is_printable text) all in
    ap (λ test. test && list_all (λ b. not (b == 0)) text) (no_nul byte parts.0) ∙ printable_no_nul text parts.1

pub each_no_nul : (texts : List (List ℕ)) → list_all is_text texts ≡ true → AllByRecursion HasNoNul texts
each_no_nul [] all = tt
each_no_nul (text ∷ texts) all =
    let parts = and_parts (is_text text) (list_all is_text texts) all in
    (printable_no_nul text (and_parts (nat_le (length text) 64) (list_all is_printable text) parts.0).1, each_no_nul texts parts.1)

-- one more text of at most 64 bytes, which is empty and then no string, or not
one_more : (empty : Bool) (text : List ℕ) (strings : List (List ℕ)) (most : ℕ) → length text ≤ 64 → length (with_nuls strings) ≤ most
    → length (with_nuls (cond (not empty) (text ∷ strings) strings)) ≤ 65 + most
one_more true text strings most short others = omega arith
one_more false text strings most short others = omega (arith, length-append (text ++ 0 ∷ []) (with_nuls strings), length-append text (0 ∷ []))

-- lawful texts take at most 65 bytes each
pub length-with_nuls : (texts : List (List ℕ)) → list_all is_text texts ≡ true → length (with_nuls (strings_of texts)) ≤ 65 * length texts
length-with_nuls [] all = omega arith
length-with_nuls (text ∷ texts) all =
    let parts = and_parts (is_text text) (list_all is_text texts) all in
    let short = leb-true (length text) 64 (and_parts (nat_le (length text) 64) (list_all is_printable text) parts.0).0 in
    omega (arith, one_more (length text == 0) text (strings_of texts) (65 * length texts) short (length-with_nuls texts parts.1))
