-- The characters of a text and the bytes of a buffer are read exactly where they are spelled.
use Rattle.std.proofs.Common.{◌≡◌, ℕ, suc, ◌+◌, ◌≤◌, List, [], ◌∷◌, ◌++◌, length, take, refl, sym, ap, ◌∙◌, subst, inl, inr, arith, Result, Ok, Err}
use Rattle.std.specs.Prelude.{◌==◌, nat_lt}
use Rattle.std.specs.List.{AllByRecursion}
use Rattle.std.proofs.lemmas.Bool.{ltb-true, lt-ltb, eqb-true, eqb-false, eq-eqb, ne_eqb}
use Rattle.vt_outside.specs.Readings.{◌into◌}
use Rattle.aml_terms.specs.declared.fault.AmlFault.{AmlFault}
use Rattle.aml_terms.specs.declared.fault.AmlFault.TheVariants.{Truncated, OutsideGrammar}
use Rattle.aml_terms.specs.Trees.{Tree, buffer}
use Rattle.aml_terms.specs.Lengths.{IsInteger}
use Rattle.aml_terms.specs.Grammar.{Spelling, IsChar, IsBuffer}
use Rattle.aml_terms.specs.Reading.{then_whole, integer_at, chars_at, sized_in, buffer_in, IsPlacedIn}
use Rattle.aml_terms.proofs.Choices.{held, failed, chosen, when_held, when_failed}
use Rattle.aml_terms.proofs.ReadSteps.{Went, bind_ok, bind_err, bind_on, ok_same, err_same, no_fault, value_same, count_same}
use Rattle.aml_terms.proofs.Readers.{farther, Front, Laws, WholeLaws, Both, then_whole_laws, Made}
use Rattle.aml_terms.proofs.ReadNumbers.{integer_laws}

-- the characters of a text and their NUL
abbrev pub IsText : List ℕ → Spelling
IsText text bytes = AllByRecursion IsChar text × (bytes ≡ text ++ 0 ∷ [])

abbrev with_char : ℕ → List ℕ × ℕ → Result (List ℕ × ℕ) AmlFault
with_char c text = Ok (c ∷ text.0, suc text.1)

chars_found : (text : List ℕ) (place : ℕ) (x : List ℕ) (count : ℕ) → chars_at place text ≡ Ok (x, count) → Front IsText text x count
unfolding chars_at
chars_found [] place x count e = cc
chars_found (c ∷ cs) place x count e =
    elim (chosen (c == 0) (Ok ([], 1)) _ (Ok (x, count)) e) [
      | held t h ↦
          let none : [] ≡ x = value_same [] x 1 count h in
          let all : 1 ≡ count = count_same [] x 1 count h in
          record {
            within = omega (arith, all);
            is = (
              subst (AllByRecursion IsChar) none tt,
              ap (λ n. take n (c ∷ cs)) (sym all) ∙ ap (λ c. c ∷ []) (eqb-true c 0 t) ∙ ap (λ x. x ++ 0 ∷ []) none,
            );
          }
      | failed t h ↦
          elim (chosen (nat_lt c 0x80) (chars_at (place + 1) cs into with_char c) (Err (OutsideGrammar place)) (Ok (x, count)) h) [
            | held u k ↦
                let b : Went (chars_at (place + 1) cs) (with_char c) (Ok (x, count)) = bind_ok (chars_at (place + 1) cs) (with_char c) (x, count) k in
                let f : Front IsText cs b.x.0 b.x.1 = chars_found cs (place + 1) b.x.0 b.x.1 b.is in
                let made : c ∷ b.x.0 ≡ x = value_same (c ∷ b.x.0) x (suc b.x.1) count b.on in
                let all : suc b.x.1 ≡ count = count_same (c ∷ b.x.0) x (suc b.x.1) count b.on in
                let not_nul : c ≡ 0 → ⊥ = eqb-false c 0 t in
                record {
                  within = omega (arith, all, f.within);
                  is = (
                    subst (AllByRecursion IsChar) made ((omega arith, ltb-true c 0x80 u), f.is.0),
                    ap (λ n. take n (c ∷ cs)) (sym all) ∙ ap (λ s. c ∷ s) f.is.1 ∙ ap (λ x. x ++ 0 ∷ []) made,
                  );
                }
            | failed u k ↦ cc
          ]
    ]

chars_again : (x : List ℕ) (place : ℕ) (text rest : List ℕ) → text ≡ (x ++ 0 ∷ []) ++ rest → AllByRecursion IsChar x
    → chars_at place text ≡ Ok (x, length (x ++ 0 ∷ []))
unfolding chars_at
chars_again [] place text rest e h = ap (chars_at place) e
chars_again (c ∷ cs) place text rest e h =
    let left : List ℕ = (cs ++ 0 ∷ []) ++ rest in
    ap (chars_at place) e ∙ when_failed (c == 0) (Ok ([], 1)) _ (ne_eqb c 0 (λ z. omega (arith, h.0.0)))
    ∙ when_held (nat_lt c 0x80) (chars_at (place + 1) left into with_char c) (Err (OutsideGrammar place)) (lt-ltb c 0x80 h.0.1)
    ∙ bind_on (chars_at (place + 1) left) (with_char c) (cs, length (cs ++ 0 ∷ [])) (Ok (c ∷ cs, suc (length (cs ++ 0 ∷ []))))
    (chars_again cs (place + 1) left rest refl h.1) refl

chars_placed : (text : List ℕ) (place : ℕ) (fault : AmlFault) → chars_at place text ≡ Err fault → IsPlacedIn (place + length text) fault
unfolding chars_at
chars_placed [] place fault e = subst (IsPlacedIn (place + 0)) (err_same (Truncated place) fault e) (omega arith)
chars_placed (c ∷ cs) place fault e =
    elim (chosen (c == 0) (Ok ([], 1)) _ (Err fault) e) [
      | held t h ↦ no_fault ([], 1) fault h
      | failed t h ↦
          elim (chosen (nat_lt c 0x80) (chars_at (place + 1) cs into with_char c) (Err (OutsideGrammar place)) (Err fault) h) [
            | held u k ↦
                elim (bind_err (chars_at (place + 1) cs) (with_char c) fault k) [
                  | inl d ↦ farther fault (place + 1 + length cs) (place + suc (length cs)) (omega arith) (chars_placed cs (place + 1) fault d)
                  | inr b ↦ no_fault (c ∷ b.x.0, suc b.x.1) fault b.on
                ]
            | failed u k ↦ subst (IsPlacedIn (place + suc (length cs))) (err_same (OutsideGrammar place) fault k) (omega arith)
          ]
    ]

pub chars_laws : (place : ℕ) → Laws chars_at IsText place
chars_laws place = record {
  found = λ text x count e. chars_found text place x count e;
  again = λ text first rest x e h.
      chars_again x place text rest (e ∙ ap (λ first. first ++ rest) h.1) h.0 ∙ ap (λ first. Ok (x, length first)) (sym h.1);
  placed = λ text fault e. chars_placed text place fault e;
}

-- the bytes of a buffer, whose number is told before them
abbrev IsSized : ℕ → Tree → Spelling
IsSized size t bytes = (t ≡ buffer bytes) × (size ≡ length bytes)

sized_laws : (start size place : ℕ) → start ≤ place → WholeLaws (sized_in start size) (IsSized size) place
unfolding sized_in
sized_laws start size place before = record {
  found = λ text t e.
      elim (chosen (size == length text) (Ok (buffer text)) (Err (OutsideGrammar start)) (Ok t) e) [
        | held u h ↦ (sym (ok_same (buffer text) t h), eqb-true size (length text) u)
        | failed u h ↦ cc
      ];
  again = λ text t h.
      when_held (size == length text) (Ok (buffer text)) (Err (OutsideGrammar start)) (eq-eqb size (length text) h.1) ∙ ap Ok (sym h.0);
  placed = λ text fault e.
      elim (chosen (size == length text) (Ok (buffer text)) (Err (OutsideGrammar start)) (Err fault) e) [
        | held u h ↦ no_fault (buffer text) fault h
        | failed u h ↦ subst (IsPlacedIn (place + length text)) (err_same (OutsideGrammar start) fault h) (omega arith)
      ];
}

pub buffer_laws : (place : ℕ) → WholeLaws buffer_in (Made buffer IsBuffer) place
unfolding buffer_in
buffer_laws place = record {
  found = λ text t e. let h : Both IsInteger IsSized t text = l.found text t e in (
    h.1.rest,
    h.1.is_next.0,
    record {
      first = h.1.first;
      rest = h.1.rest;
      spelled = h.1.spelled;
      is_first = subst (λ n. IsInteger n h.1.first) h.1.is_next.1 h.1.is_first;
      is_next = refl;
    },
  );
  again = λ text t h. l.again text t (
    length h.0,
    record {
      first = h.2.first;
      rest = h.2.rest;
      spelled = h.2.spelled;
      is_first = h.2.is_first;
      is_next = (h.1 ∙ ap buffer (sym h.2.is_next), ap length (sym h.2.is_next));
    },
  );
  placed = λ text fault e. l.placed text fault e;
}
  where
    l : WholeLaws (then_whole integer_at (sized_in place)) (Both IsInteger IsSized) place
    l = then_whole_laws integer_at (sized_in place) IsInteger IsSized place (integer_laws place) (λ size n. sized_laws place size (place + n) (omega arith))
