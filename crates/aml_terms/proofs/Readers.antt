-- The laws of a reader at a place: what it reads is spelled there, what is spelled there it reads, and a fault's place is in the text or at its
-- end. The laws of a reader that is made of others follow from theirs.
use Rattle.std.proofs.Common.{◌≡◌, ℕ, ◌+◌, ◌-◌, ◌≤◌, List, [], ◌++◌, length, take, drop, refl, sym, ap, ◌∙◌, subst, inl, inr, append_assoc, arith}
use Rattle.std.proofs.Common.{length-append, length-drop, take-add, take-append-drop, Result, Ok, Err}
use Rattle.std.proofs.Math.Seq.{drop-append_seam, take-append_seam}
use Rattle.aml_terms.specs.declared.fault.AmlFault.{AmlFault}
use Rattle.aml_terms.specs.declared.fault.AmlFault.TheVariants.{Truncated, BadLength, BadName, OutsideGrammar, OutOfMemory}
use Rattle.aml_terms.specs.Grammar.{Spelling, Then}
use Rattle.aml_terms.specs.Reading.{Reader, Whole, behind, then_at, then_whole, made_at, outside, IsPlacedIn}
use Rattle.aml_terms.proofs.ReadSteps.{Went, bind_ok, bind_err, bind_on, err_same, no_fault, value_same, count_same, ReadBehind, behind_ok}
use Rattle.aml_terms.proofs.ReadSteps.{behind_err, behind_on}

-- a place in the front of a text is a place in it
pub farther : (fault : AmlFault) (m n : ℕ) → m ≤ n → IsPlacedIn m fault → IsPlacedIn n fault
farther (Truncated place) m n h p = omega arith
farther (BadLength place) m n h p = omega arith
farther (BadName place) m n h p = omega arith
farther (OutsideGrammar place) m n h p = omega arith
farther OutOfMemory m n h p = p

-- a value at the front of a text
pub record Front {A : Type 0} (Is : A → Spelling) (text : List ℕ) (x : A) (count : ℕ) : Type 0 where
  pub within : count ≤ length text
  pub is : Is x (take count text)

pub record Laws {A : Type 0} (read : Reader A) (Is : A → Spelling) (place : ℕ) : Type 0 where
  pub found : (text : List ℕ) (x : A) (count : ℕ) → read place text ≡ Ok (x, count) → Front Is text x count
  pub again : (text first rest : List ℕ) (x : A) → text ≡ first ++ rest → Is x first → read place text ≡ Ok (x, length first)
  pub placed : (text : List ℕ) (fault : AmlFault) → read place text ≡ Err fault → IsPlacedIn (place + length text) fault

pub record WholeLaws {A : Type 0} (read : Whole A) (Is : A → Spelling) (place : ℕ) : Type 0 where
  pub found : (text : List ℕ) (x : A) → read place text ≡ Ok x → Is x text
  pub again : (text : List ℕ) (x : A) → Is x text → read place text ≡ Ok x
  pub placed : (text : List ℕ) (fault : AmlFault) → read place text ≡ Err fault → IsPlacedIn (place + length text) fault

-- a fault behind so many bytes of a text
pub placed_behind : (place count : ℕ) (text : List ℕ) (fault : AmlFault) → count ≤ length text → IsPlacedIn (place + count + length (drop count text)) fault
    → IsPlacedIn (place + length text) fault
placed_behind place count text fault h =
    farther fault (place + count + length (drop count text)) (place + length text) (omega (arith, length-drop count text))

-- one thing, and another behind it
abbrev pub Both : {A B : Type 0} → (A → Spelling) → (A → B → Spelling) → B → Spelling
Both {A} Is Next y bytes = (x : A) × Then (Is x) (Next x y) bytes

module _ {A B : Type 0} (read : Reader A) (next : A → Reader B) (Is : A → Spelling) (Next : A → B → Spelling) (place : ℕ) where
  abbrev on : List ℕ → A × ℕ → Result (B × ℕ) AmlFault
  on text x = behind x.1 (next x.0 (place + x.1) (drop x.1 text))

  pub then_laws : Laws read Is place → ((x : A) (count : ℕ) → Laws (next x) (Next x) (place + count)) → Laws (then_at read next) (Both Is Next) place
  then_laws l m = record {
    found = λ text y total e.
        let b : Went (read place text) (on text) (Ok (y, total)) = bind_ok (read place text) (on text) (y, total) e in
        let x : A = b.x.0 in
        let count : ℕ = b.x.1 in
        let f : Front Is text x count = l.found text x count b.is in
        let c : ReadBehind count (next x (place + count) (drop count text)) y total = behind_ok count (next x (place + count) (drop count text)) y total b.on in
        let g : Front (Next x) (drop count text) y c.more = (m x count).found (drop count text) y c.more c.is in
        record {
          within = omega (arith, f.within, g.within, c.sum, length-drop count text);
          is = (
            x,
            record {
              first = take count text;
              rest = take c.more (drop count text);
              spelled = ap (λ n. take n text) c.sum ∙ take-add count c.more text;
              is_first = f.is;
              is_next = g.is;
            },
          );
        };
    again = λ text bytes tail y e h.
        let t : Then (Is h.0) (Next h.0 y) bytes = h.1 in
        let split : text ≡ t.first ++ (t.rest ++ tail) = e ∙ ap (λ b. b ++ tail) t.spelled ∙ append_assoc t.first t.rest tail in
        let left : drop (length t.first) text ≡ t.rest ++ tail = ap (drop (length t.first)) split ∙ drop-append_seam t.first (t.rest ++ tail) in
        let sized : length t.first + length t.rest ≡ length bytes = sym (ap length t.spelled ∙ length-append t.first t.rest) in
        bind_on (read place text) (on text) (h.0, length t.first) (Ok (y, length bytes)) (l.again text t.first (t.rest ++ tail) h.0 split t.is_first)
        (behind_on (length t.first) (next h.0 (place + length t.first) (drop (length t.first) text)) y (length t.rest)
        ((m h.0 (length t.first)).again (drop (length t.first) text) t.rest tail y left t.is_next)
        ∙ ap (λ n. Ok (y, n)) sized);
    placed = λ text fault e.
        elim (bind_err (read place text) (on text) fault e) [
          | inl d ↦ l.placed text fault d
          | inr b ↦
              let f : Front Is text b.x.0 b.x.1 = l.found text b.x.0 b.x.1 b.is in
              placed_behind place b.x.1 text fault f.within
              ((m b.x.0 b.x.1).placed (drop b.x.1 text) fault (behind_err b.x.1 (next b.x.0 (place + b.x.1) (drop b.x.1 text)) fault b.on))
        ];
  }

module _ {A B : Type 0} (read : Reader A) (next : A → Whole B) (Is : A → Spelling) (Next : A → B → Spelling) (place : ℕ) where
  abbrev on_whole : List ℕ → A × ℕ → Result B AmlFault
  on_whole text x = next x.0 (place + x.1) (drop x.1 text)

  pub then_whole_laws : Laws read Is place → ((x : A) (count : ℕ) → WholeLaws (next x) (Next x) (place + count))
      → WholeLaws (then_whole read next) (Both Is Next) place
  then_whole_laws l m = record {
    found = λ text y e.
        let b : Went (read place text) (on_whole text) (Ok y) = bind_ok (read place text) (on_whole text) y e in
        let f : Front Is text b.x.0 b.x.1 = l.found text b.x.0 b.x.1 b.is in (
          b.x.0,
          record {
            first = take b.x.1 text;
            rest = drop b.x.1 text;
            spelled = sym (take-append-drop b.x.1 text);
            is_first = f.is;
            is_next = (m b.x.0 b.x.1).found (drop b.x.1 text) y b.on;
          },
        );
    again = λ text y h.
        let t : Then (Is h.0) (Next h.0 y) text = h.1 in
        let left : drop (length t.first) text ≡ t.rest = ap (drop (length t.first)) t.spelled ∙ drop-append_seam t.first t.rest in
        bind_on (read place text) (on_whole text) (h.0, length t.first) (Ok y) (l.again text t.first t.rest h.0 t.spelled t.is_first)
        ((m h.0 (length t.first)).again (drop (length t.first) text) y (subst (Next h.0 y) (sym left) t.is_next));
    placed = λ text fault e.
        elim (bind_err (read place text) (on_whole text) fault e) [
          | inl d ↦ l.placed text fault d
          | inr b ↦
              let f : Front Is text b.x.0 b.x.1 = l.found text b.x.0 b.x.1 b.is in
              placed_behind place b.x.1 text fault f.within ((m b.x.0 b.x.1).placed (drop b.x.1 text) fault b.on)
        ];
  }

-- a thing made of another
abbrev pub Made : {A B : Type 0} → (A → B) → (A → Spelling) → B → Spelling
Made {A} make Is y bytes = (x : A) × (y ≡ make x) × Is x bytes

module _ {A B : Type 0} (make : A → B) (read : Reader A) (Is : A → Spelling) (place : ℕ) where
  abbrev made : A × ℕ → Result (B × ℕ) AmlFault
  made x = Ok (make x.0, x.1)

  pub made_laws : Laws read Is place → Laws (made_at make read) (Made make Is) place
  made_laws l = record {
    found = λ text y total e.
        let b : Went (read place text) made (Ok (y, total)) = bind_ok (read place text) made (y, total) e in
        let same : total ≡ b.x.1 = sym (count_same (make b.x.0) y b.x.1 total b.on) in
        let f : Front Is text b.x.0 b.x.1 = l.found text b.x.0 b.x.1 b.is in
        record {
          within = omega (arith, same, f.within);
          is = (b.x.0, sym (value_same (make b.x.0) y b.x.1 total b.on), subst (λ n. Is b.x.0 (take n text)) (sym same) f.is);
        };
    again = λ text first rest y e h.
        bind_on (read place text) made (h.0, length first) (Ok (y, length first)) (l.again text first rest h.0 e h.2)
        (ap (λ y. Ok (y, length first)) (sym h.1));
    placed = λ text fault e.
        elim (bind_err (read place text) made fault e) [
          | inl d ↦ l.placed text fault d
          | inr b ↦ no_fault (make b.x.0, b.x.1) fault b.on
        ];
  }

-- one relation in the place of another that says the same
pub alike : {A : Type 0} {read : Reader A} {Is Also : A → Spelling} {place : ℕ} → Laws read Is place → ((x : A) (bytes : List ℕ) → Is x bytes → Also x bytes)
    → ((x : A) (bytes : List ℕ) → Also x bytes → Is x bytes) → Laws read Also place
alike l to from = record {
  found = λ text x count e.
      let f : Front _ text x count = l.found text x count e in
      record { within = f.within; is = to x (take count text) f.is };
  again = λ text first rest x e h. l.again text first rest x e (from x first h);
  placed = l.placed;
}

pub alike_whole : {A : Type 0} {read : Whole A} {Is Also : A → Spelling} {place : ℕ} → WholeLaws read Is place
    → ((x : A) (bytes : List ℕ) → Is x bytes → Also x bytes)
    → ((x : A) (bytes : List ℕ) → Also x bytes → Is x bytes) → WholeLaws read Also place
alike_whole l to from = record {
  found = λ text x e. to x text (l.found text x e);
  again = λ text x h. l.again text x (from x text h);
  placed = l.placed;
}

-- nothing is spelled where nothing is read
pub outside_laws : {A : Type 0} (back place : ℕ) → Laws {A = A} (outside back) (λ x bytes. ⊥) place
outside_laws back place = record {
  found = λ text x count e. cc;
  again = λ text first rest x e h. absurd h;
  placed = λ text fault e. subst (IsPlacedIn (place + length text)) (err_same (OutsideGrammar (place - back)) fault e) (omega arith);
}

-- a thing that takes no byte
pub nothing_laws : {A : Type 0} (x : A) (place : ℕ) → Laws (λ place text. Ok (x, 0)) (λ y bytes. (y ≡ x) × (bytes ≡ [])) place
nothing_laws x place = record {
  found = λ text y count e.
      let none : 0 ≡ count = count_same x y 0 count e in
      record { within = omega arith; is = (sym (value_same x y 0 count e), ap (λ n. take n text) (sym none)) };
  again = λ text first rest y e h. ap (λ y. Ok (y, 0)) (sym h.0) ∙ ap (λ first. Ok (y, length first)) (sym h.1);
  placed = λ text fault e. no_fault (x, 0) fault e;
}

-- No spelling is the front of another, since a reader reads one thing of a text, whatever follows it there.
module _ {A : Type 0} (read : Reader A) (Is : A → Spelling) (place : ℕ) (l : Laws read Is place) where
  one_read : (a b : A) (first second x y : List ℕ) → Is a first → Is b second → first ++ x ≡ second ++ y
      → ◌≡◌ {A = Result (A × ℕ) AmlFault} (Ok (a, length first)) (Ok (b, length second))
  one_read a b first second x y h k e = sym (l.again (first ++ x) first x a refl h) ∙ l.again (first ++ x) second y b e k

  pub same_thing : (a b : A) (first second x y : List ℕ) → Is a first → Is b second → first ++ x ≡ second ++ y → a ≡ b
  same_thing a b first second x y h k e = value_same a b (length first) (length second) (one_read a b first second x y h k e)

  pub same_front : (a b : A) (first second x y : List ℕ) → Is a first → Is b second → first ++ x ≡ second ++ y → first ≡ second
  same_front a b first second x y h k e =
      let counts : length first ≡ length second = count_same a b (length first) (length second) (one_read a b first second x y h k e) in
      sym (take-append_seam first x) ∙ ap (λ n. take n (first ++ x)) counts ∙ ap (take (length second)) e ∙ take-append_seam second y
