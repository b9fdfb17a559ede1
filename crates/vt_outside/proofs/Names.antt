-- A name in its field: zeros after it change nothing of what stands before the first NUL.
use Rattle.std.proofs.Common.{◌≡◌, ℕ, suc, zero, ◌+◌, ◌-◌, ◌<◌, ◌≤◌, List, [], ◌∷◌, ◌++◌, true, false, cond, eqb, leb, not, length, take, drop, replicate}
use Rattle.std.proofs.Common.{Ok, refl, arith, ap, sym, ◌∙◌, length-append}
use Rattle.std.proofs.lemmas.Bool.{and_parts, leb-true, ne_eqb}
use Rattle.std.proofs.lemmas.Bool.Decides.{nat_tests}
use Rattle.std.proofs.lemmas.Grind.{common_steps}
use Rattle.std.proofs.lemmas.List.{drop-replicate, length-replicate}
use Rattle.std.specs.List.{list_all}
use Rattle.vt_outside.specs.Name.{name_of, before_nul, in_field, is_printable, IsName, IsField}

-- a printable byte is no NUL
not_nul : (byte : ℕ) → is_printable byte ≡ true → eqb byte 0 ≡ false
not_nul byte printable =
    let from_space : 0x20 ≤ byte = leb-true 0x20 byte (and_parts (leb 0x20 byte) (leb byte 0x7E) printable).0 in
    ne_eqb byte 0 (λ nul. omega arith)

-- one more byte than `count`, where the first one is no NUL
take-not_nul : (byte count : ℕ) (rest : List ℕ) → eqb byte 0 ≡ false → take (cond (not (eqb byte 0)) (1 + count) 0) (byte ∷ rest) ≡ byte ∷ take count rest
take-not_nul byte count rest kept =
    let one_more : 1 + count ≡ suc count = omega arith in
    rw (kept, one_more)

-- what stands before the first of the zeros after printable bytes
before_nul-padded : (text : List ℕ) (n : ℕ) → list_all is_printable text ≡ true → before_nul (text ++ replicate n 0) ≡ text
before_nul-padded [] zero _ = refl
before_nul-padded [] (suc n) _ = refl
before_nul-padded (byte ∷ rest) n printable =
    let each = and_parts (is_printable byte) (list_all is_printable rest) printable in
    take-not_nul byte _ (rest ++ replicate n 0) (not_nul byte each.0) ∙ ap (λ (bytes : List ℕ). byte ∷ bytes) (before_nul-padded rest n each.1)

-- a text that passes the three tests is a name
pub IsName-from_tests : (text : List ℕ) → length text ≤ 55 → 0 < length text → list_all is_printable text ≡ true → IsName text
unfolding name_of
IsName-from_tests text short long printable = grind (arith, common_steps, nat_tests)

-- a text that is written over the front of 56 zeros stands in its field
padded_is : (text copied : List ℕ) → copied ≡ text → copied ++ drop (length text) (replicate 56 0) ≡ in_field text
padded_is text copied same = rw (same, drop-replicate {X = ℕ} (length text) 56 0)

-- before that field's first NUL stands the text
pub before_nul-copied : (text copied : List ℕ) → copied ≡ text → list_all is_printable text ≡ true
    → before_nul (copied ++ drop (length text) (replicate 56 0)) ≡ text
before_nul-copied text copied same printable = ap before_nul (padded_is text copied same) ∙ before_nul-padded text _ printable

-- and that field holds a name
pub IsField-copied : (text copied : List ℕ) → copied ≡ text → length text ≤ 55 → 0 < length text → list_all is_printable text ≡ true
    → IsField (copied ++ drop (length text) (replicate 56 0))
IsField-copied text copied same short long printable =
    let before = before_nul-copied text copied same printable in
    record {
      named = rw before (IsName-from_tests text short long printable);
      padded = ap in_field before ∙ sym (padded_is text copied same);
    }

-- what a name is
pub record Printable (name : List ℕ) : Type 0 where
  pub short : length name ≤ 55
  pub each : list_all is_printable name ≡ true

pub Printable-from : (name : List ℕ) → IsName name → Printable name
unfolding name_of
Printable-from name named = record { short = grind (arith, common_steps, nat_tests); each = grind (arith, common_steps, nat_tests) }

-- a name's field has 56 bytes
pub length-in_field : (name : List ℕ) → IsName name → length (in_field name) ≡ 56
length-in_field name named =
    let short : length name ≤ 55 = (Printable-from name named).short in
    omega (arith, length-append name (replicate (56 - length name) 0), length-replicate {A = ℕ} (56 - length name) 0)

-- and the name is read again from it
pub name-in_field : (name : List ℕ) → IsName name → name_of (before_nul (in_field name)) ≡ Ok name
name-in_field name named = ap name_of (before_nul-padded name (56 - length name) (Printable-from name named).each) ∙ named
