-- The characters of a text are those that it begins with, where a NUL follows them.
use Rattle.std.proofs.Common.{◌≡◌, ℕ, zero, suc, ◌+◌, ◌<◌, ◌≤◌, List, [], ◌∷◌, length, get_or, take, true, false, cond, ltb, refl, sym, ap, ◌∙◌}
use Rattle.std.proofs.Common.{arith, Result, Ok, Err}
use Rattle.std.specs.List.{prefix_len}
use Rattle.std.proofs.lemmas.Bool.Decides.{nat_tests}
use Rattle.vt_outside.specs.Readings.{◌into◌}
use borrow.Author.Tests.{ltb-true, ltb-false, eq-eqb, ne_eqb, lt-ltb, le-ltb}
use Rattle.aml_terms.specs.declared.fault.AmlFault.{AmlFault}
use Rattle.aml_terms.specs.declared.fault.AmlFault.TheVariants.{Truncated, OutsideGrammar}
use Rattle.aml_terms.specs.Trees.{Tree, chars}
use Rattle.aml_terms.specs.Reading.{made_at, chars_at}
use Rattle.aml_decode.specs.Chars.{is_char}

-- a character, before those that are read
abbrev with_char : ℕ → Result (List ℕ × ℕ) AmlFault → Result (List ℕ × ℕ) AmlFault
with_char c read = read into λ text. Ok (c ∷ text.0, suc text.1)

char_on : (place c : ℕ) (cs : List ℕ) → 0 < c → c < 0x80 → chars_at place (c ∷ cs) ≡ with_char c (chars_at (place + 1) cs)
unfolding chars_at
char_on place c cs some low = rw (ne_eqb c 0 (λ e. omega arith), lt-ltb c 0x80 low) refl

char_end : (place c : ℕ) (cs : List ℕ) → c ≡ 0 → chars_at place (c ∷ cs) ≡ Ok ([], 1)
unfolding chars_at
char_end place c cs none = rw (eq-eqb c 0 none) refl

char_off : (place c : ℕ) (cs : List ℕ) → 0x80 ≤ c → chars_at place (c ∷ cs) ≡ Err (OutsideGrammar place)
unfolding chars_at
char_off place c cs high = rw (ne_eqb c 0 (λ e. omega arith), le-ltb c 0x80 high) refl

-- a character, a NUL, or neither
data Kind (c : ℕ) : Type 0 where
  char : 0 < c → c < 0x80 → is_char c ≡ true → Kind c
  nul : c ≡ 0 → is_char c ≡ false → Kind c
  neither : 0x80 ≤ c → is_char c ≡ false → Kind c

kind : (c : ℕ) → Kind c
kind zero = nul refl refl
kind (suc c) =
    elim (ltb (suc c) 0x80) as (λ b. ltb (suc c) 0x80 ≡ b → Kind (suc c)) [
      | true ↦ λ e. char (omega arith) (ltb-true (suc c) 0x80 e) (grind (arith, nat_tests))
      | false ↦ λ e. neither (ltb-false (suc c) 0x80 e) (grind (arith, nat_tests))
    ] refl

-- how many there are
abbrev count : List ℕ → ℕ
count text = prefix_len is_char text

count_on : (c : ℕ) (cs : List ℕ) → is_char c ≡ true → count (c ∷ cs) ≡ suc (count cs)
count_on c cs is = ap (λ b. cond b (1 + count cs) 0) is ∙ omega arith

count_off : (c : ℕ) (cs : List ℕ) → is_char c ≡ false → count (c ∷ cs) ≡ 0
count_off c cs isnt = ap (λ b. cond b (1 + count cs) 0) isnt

-- nothing follows them
chars_cut : (place : ℕ) (text : List ℕ) → count text ≡ length text → chars_at place text ≡ Err (Truncated (place + length text))
unfolding chars_at
chars_cut place [] e = ap (λ p. Err (Truncated p)) (omega arith)
chars_cut place (c ∷ cs) e =
    elim (kind c) [
      | char some low is ↦
          let fewer : count cs ≡ length cs = omega (arith, count_on c cs is) in
          let end : place + 1 + length cs ≡ place + length (c ∷ cs) = omega arith in
          char_on place c cs some low ∙ ap (with_char c) (chars_cut (place + 1) cs fewer) ∙ ap (λ p. Err (Truncated p)) end
      | nul none isnt ↦ absurd (omega (arith, count_off c cs isnt))
      | neither high isnt ↦ absurd (omega (arith, count_off c cs isnt))
    ]

-- something else than a NUL follows them
chars_bad : (place : ℕ) (text : List ℕ) → count text < length text → (get_or text (count text) 0 ≡ 0 → ⊥)
    → chars_at place text ≡ Err (OutsideGrammar (place + count text))
chars_bad place [] more other = absurd (omega arith)
chars_bad place (c ∷ cs) more other =
    elim (kind c) [
      | char some low is ↦
          let one : count (c ∷ cs) ≡ suc (count cs) = count_on c cs is in
          let there : get_or (c ∷ cs) (count (c ∷ cs)) 0 ≡ get_or cs (count cs) 0 = ap (λ n. get_or (c ∷ cs) n 0) one in
          let end : place + 1 + count cs ≡ place + count (c ∷ cs) = omega arith in
          char_on place c cs some low ∙ ap (with_char c) (chars_bad (place + 1) cs (omega arith) (λ e. other (there ∙ e)))
          ∙ ap (λ p. Err (OutsideGrammar p)) end
      | nul none isnt ↦ absurd (other (ap (λ n. get_or (c ∷ cs) n 0) (count_off c cs isnt) ∙ none))
      | neither high isnt ↦
          let end : place ≡ place + count (c ∷ cs) = omega (arith, count_off c cs isnt) in
          char_off place c cs high ∙ ap (λ p. Err (OutsideGrammar p)) end
    ]

-- a NUL follows them
chars_found : (place : ℕ) (text : List ℕ) → count text < length text → get_or text (count text) 0 ≡ 0
    → chars_at place text ≡ Ok (take (count text) text, count text + 1)
chars_found place [] more nul_there = absurd (omega arith)
chars_found place (c ∷ cs) more nul_there =
    elim (kind c) [
      | char some low is ↦
          let one : count (c ∷ cs) ≡ suc (count cs) = count_on c cs is in
          let there : get_or (c ∷ cs) (count (c ∷ cs)) 0 ≡ get_or cs (count cs) 0 = ap (λ n. get_or (c ∷ cs) n 0) one in
          let size : suc (count cs + 1) ≡ count (c ∷ cs) + 1 = omega arith in
          char_on place c cs some low ∙ ap (with_char c) (chars_found (place + 1) cs (omega arith) (sym there ∙ nul_there))
          ∙ ap (λ n. Ok (c ∷ take (count cs) cs, n)) size ∙ ap (λ n. Ok (take n (c ∷ cs), count (c ∷ cs) + 1)) (sym one)
      | nul none isnt ↦
          char_end place c cs none ∙ ap (λ n. Ok (take n (c ∷ cs), n + 1)) (sym (count_off c cs isnt))
      | neither high isnt ↦ absurd (omega (arith, ap (λ n. get_or (c ∷ cs) n 0) (count_off c cs isnt)))
    ]

-- the same of the term
abbrev made : List ℕ × ℕ → Result (Tree × ℕ) AmlFault
made text = Ok (chars text.0, text.1)

pub text_cut : (place n : ℕ) (text : List ℕ) → n ≡ count text → n ≡ length text → made_at chars chars_at place text ≡ Err (Truncated (place + n))
text_cut place n text is all = ap (λ r. r into made) (chars_cut place text (sym is ∙ all)) ∙ ap (λ n. Err (Truncated (place + n))) (sym all)

pub text_bad : (place n : ℕ) (text : List ℕ) → n ≡ count text → n < length text → (get_or text n 0 ≡ 0 → ⊥)
    → made_at chars chars_at place text ≡ Err (OutsideGrammar (place + n))
text_bad place n text is more other =
    ap (λ r. r into made) (chars_bad place text (omega arith) (λ e. other (ap (λ n. get_or text n 0) is ∙ e)))
    ∙ ap (λ n. Err (OutsideGrammar (place + n))) (sym is)

pub text_found : (place n : ℕ) (text copy : List ℕ) → n ≡ count text → n < length text → get_or text n 0 ≡ 0 → copy ≡ take n text
    → made_at chars chars_at place text ≡ Ok (chars copy, n + 1)
text_found place n text copy is more nul_there copied =
    ap (λ r. r into made) (chars_found place text (omega arith) (ap (λ n. get_or text n 0) (sym is) ∙ nul_there))
    ∙ ap (λ n. Ok (chars (take n text), n + 1)) (sym is)
    ∙ ap (λ text. Ok (chars text, n + 1)) (sym copied)
