-- Package lengths, and what they enclose, are read exactly where they are spelled.
use Rattle.std.proofs.Common.{◌≡◌, ℕ, ◌+◌, ◌-◌, ◌*◌, ◌/◌, ◌%◌, ◌<◌, ◌≤◌, List, [], ◌∷◌, ◌++◌, length, take, drop, refl, sym, ap, ◌∙◌, subst, inl, inr}
use Rattle.std.proofs.Common.{append_assoc, arith, length-append, length-take-le, length-drop, take-add, false, cond, Result, Ok, Err}
use Rattle.std.specs.Prelude.{nat_lt, nat_le, ◌||◌}
use Rattle.std.proofs.lemmas.Bool.{ltb-true, ltb-false, lt-ltb, le-ltb, leb-false, lt-leb}
use Rattle.std.proofs.Math.Seq.{drop-append_seam, take-append_seam}
use Rattle.vt_outside.specs.Readings.{◌into◌}
use Rattle.vt_bytes.specs.Numbers.{le}
use Rattle.aml_terms.specs.declared.fault.AmlFault.{AmlFault}
use Rattle.aml_terms.specs.declared.fault.AmlFault.TheVariants.{BadLength}
use Rattle.aml_terms.specs.Grammar.{Spelling, Enclosed}
use Rattle.aml_terms.specs.Lengths.{IsLength, short, long}
use Rattle.aml_terms.specs.Reading.{Whole, made_at, number_at, total_behind, total_at, enclosing_at, enclosed_at, IsPlacedIn}
use Rattle.aml_terms.proofs.Choices.{held, failed, chosen, when_held, when_failed, neither}
use Rattle.aml_terms.proofs.ReadSteps.{Went, bind_ok, bind_err, bind_on, err_same, no_fault, value_same, count_same}
use Rattle.aml_terms.proofs.Readers.{Front, Laws, WholeLaws, Made, made_laws, alike, farther}
use Rattle.aml_terms.proofs.ReadNumbers.{IsNumber, number_laws, Led, led_laws}

-- the total that a lead byte of several makes with the number behind it
abbrev totalled : ℕ → ℕ → ℕ
totalled lead more = lead % 16 + 16 * more

abbrev Totalled : ℕ → ℕ → Spelling
Totalled lead = Made (totalled lead) (IsNumber (lead / 64))

several_laws : (lead place : ℕ) → Laws (made_at (totalled lead) (number_at (lead / 64))) (Totalled lead) place
several_laws lead place = made_laws (totalled lead) (number_at (lead / 64)) (IsNumber (lead / 64)) place (number_laws (lead / 64) place)

is_long : (lead total : ℕ) (more : List ℕ) → 0x40 ≤ lead → lead % 64 < 16 → Totalled lead total more → IsLength total (lead ∷ more)
is_long lead total more big low h =
    let lead_is : lead ≡ 64 * length more + lead % 16 = omega (arith, h.2.0) in
    long (lead % 16) more (omega arith) (omega (arith, h.2.0)) (h.1 ∙ ap (totalled lead) h.2.1) (ap (λ lead. lead ∷ more) lead_is)

-- a length behind its lead byte
abbrev LengthBehind : ℕ → ℕ → Spelling
LengthBehind lead total more = IsLength total (lead ∷ more)

behind_laws : (lead place : ℕ) → Laws (total_behind lead) (LengthBehind lead) place
unfolding total_behind
behind_laws lead place = record {
  found = λ text total count e.
      elim (chosen (nat_lt lead 0x40) (Ok (lead, 0)) _ (Ok (total, count)) e) [
        | held t h ↦
            let same : lead ≡ total = value_same lead total 0 count h in
            let none : 0 ≡ count = count_same lead total 0 count h in
            let small : lead < 0x40 = ltb-true lead 0x40 t in
            record { within = omega arith; is = short (omega arith) (ap (λ n. lead ∷ take n text) (sym none) ∙ ap (λ n. n ∷ []) same) }
        | failed t h ↦
            elim (chosen (nat_le 16 (lead % 64)) (Err (BadLength (place - 1))) _ (Ok (total, count)) h) [
              | held u k ↦ cc
              | failed u k ↦
                  let f : Front (Totalled lead) text total count = (several_laws lead place).found text total count k in
                  record { within = f.within; is = is_long lead total (take count text) (ltb-false lead 0x40 t) (leb-false 16 (lead % 64) u) f.is }
            ]
      ];
  again = λ text first rest total e h. behind_again lead place text first rest total e h;
  placed = λ text fault e.
      elim (chosen (nat_lt lead 0x40) (Ok (lead, 0)) _ (Err fault) e) [
        | held t h ↦ no_fault (lead, 0) fault h
        | failed t h ↦
            elim (chosen (nat_le 16 (lead % 64)) (Err (BadLength (place - 1))) _ (Err fault) h) [
              | held u k ↦ subst (IsPlacedIn (place + length text)) (err_same (BadLength (place - 1)) fault k) (omega arith)
              | failed u k ↦ (several_laws lead place).placed text fault k
            ]
      ];
}
  where
    behind_again : (lead place : ℕ) (text first rest : List ℕ) (total : ℕ) → text ≡ first ++ rest → IsLength total (lead ∷ first)
        → total_behind lead place text ≡ Ok (total, length first)
    behind_again lead place text first rest total e (short small f) =
        let same : lead ≡ total = cc in
        let none : first ≡ [] = cc in
        when_held (nat_lt lead 0x40) (Ok (lead, 0)) _ (lt-ltb lead 0x40 (omega arith)) ∙ ap (λ n. Ok (n, 0)) same
        ∙ ap (λ first. Ok (total, length first)) (sym none)
    behind_again lead place text first rest total e (long low more small some told f) =
        let lead_is : lead ≡ 64 * length more + low = cc in
        let same : first ≡ more = cc in
        let big : 0x40 ≤ lead = omega arith in
        let clear : lead % 64 < 16 = omega arith in
        let count : length first ≡ lead / 64 = omega (arith, ap length same) in
        let sum : total ≡ totalled lead (le first) = told ∙ ap (λ more. low + 16 * le more) (sym same) ∙ ap (λ low. low + 16 * le first) (omega arith) in
        when_failed (nat_lt lead 0x40) (Ok (lead, 0)) _ (le-ltb lead 0x40 big)
        ∙ when_failed (nat_le 16 (lead % 64)) (Err (BadLength (place - 1))) _ (lt-leb 16 (lead % 64) clear)
        ∙ (several_laws lead place).again text first rest total e (le first, sum, (count, refl))

total_laws : (place : ℕ) → Laws total_at IsLength place
total_laws place = alike (led_laws total_behind LengthBehind place (λ lead count. behind_laws lead (place + count)))
    (λ total bytes h. subst (IsLength total) (sym h.spelled) h.is)
    led
  where
    led : (total : ℕ) (bytes : List ℕ) → IsLength total bytes → Led (λ byte. LengthBehind byte total) bytes
    led total bytes (short small e) = record { byte = total; rest = []; spelled = e; is = short small refl }
    led total bytes (long low more small some told e) = record {
      byte = 64 * length more + low;
      rest = more;
      spelled = e;
      is = long low more small
          some told refl;
    }

-- a package length that encloses so many bytes
record Encloses (text : List ℕ) (body count : ℕ) : Type 0 where
  pub within : count + body ≤ length text
  pub is : IsLength (count + body) (take count text)

abbrev told_of : ℕ → List ℕ → ℕ × ℕ → Result (ℕ × ℕ) AmlFault
told_of place text total = cond (nat_lt total.0 total.1 || nat_lt (length text) total.0) (Err (BadLength place)) (Ok (total.0 - total.1, total.1))

enclosing_found : (place : ℕ) (text : List ℕ) (body count : ℕ) → enclosing_at place text ≡ Ok (body, count) → Encloses text body count
unfolding enclosing_at
enclosing_found place text body count e =
    let b : Went (total_at place text) (told_of place text) (Ok (body, count)) = bind_ok (total_at place text) (told_of place text) (body, count) e in
    let f : Front IsLength text b.x.0 b.x.1 = (total_laws place).found text b.x.0 b.x.1 b.is in
    elim (chosen (nat_lt b.x.0 b.x.1 || nat_lt (length text) b.x.0) (Err (BadLength place)) (Ok (b.x.0 - b.x.1, b.x.1)) (Ok (body, count)) b.on) [
      | held t h ↦ cc
      | failed t h ↦
          let two : (nat_lt b.x.0 b.x.1 ≡ false) × (nat_lt (length text) b.x.0 ≡ false) = neither _ _ t in
          let least : b.x.1 ≤ b.x.0 = ltb-false b.x.0 b.x.1 two.0 in
          let most : b.x.0 ≤ length text = ltb-false (length text) b.x.0 two.1 in
          let counted : b.x.1 ≡ count = count_same (b.x.0 - b.x.1) body b.x.1 count h in
          let left : b.x.0 - b.x.1 ≡ body = value_same (b.x.0 - b.x.1) body b.x.1 count h in
          let all : b.x.0 ≡ count + body = omega arith in
          record {
            within = omega arith;
            is = subst (λ n. IsLength n (take count text)) all (subst (λ k. IsLength b.x.0 (take k text)) counted f.is);
          }
    ]

enclosing_again : (place : ℕ) (text size body rest : List ℕ) → text ≡ size ++ (body ++ rest) → IsLength (length size + length body) size
    → enclosing_at place text ≡ Ok (length body, length size)
unfolding enclosing_at
enclosing_again place text size body rest e h =
    let total : ℕ = length size + length body in
    let sized : length text ≡ length size + (length body + length rest) =
    omega (arith, ap length e, length-append size (body ++ rest), length-append body rest) in
    let least : nat_lt (length size + length body) (length size) ≡ false = le-ltb (length size + length body) (length size) (omega arith) in
    let most : nat_lt (length text) (length size + length body) ≡ false = le-ltb (length text) (length size + length body) (omega arith) in
    let left : (length size + length body) - length size ≡ length body = omega arith in
    bind_on (total_at place text) (told_of place text) (total, length size) (Ok (length body, length size))
    ((total_laws place).again text size (body ++ rest) total e h)
    (when_failed (nat_lt total (length size) || nat_lt (length text) total) (Err (BadLength place)) (Ok (total - length size, length size))
    (ap (λ b. b || nat_lt (length text) total) least ∙ most)
    ∙ ap (λ n. Ok (n, length size)) left)

enclosing_placed : (place : ℕ) (text : List ℕ) (fault : AmlFault) → enclosing_at place text ≡ Err fault → IsPlacedIn (place + length text) fault
unfolding enclosing_at
enclosing_placed place text fault e =
    elim (bind_err (total_at place text) (told_of place text) fault e) [
      | inl d ↦ (total_laws place).placed text fault d
      | inr b ↦
          elim (chosen (nat_lt b.x.0 b.x.1 || nat_lt (length text) b.x.0) (Err (BadLength place)) (Ok (b.x.0 - b.x.1, b.x.1)) (Err fault) b.on) [
            | held t h ↦ subst (IsPlacedIn (place + length text)) (err_same (BadLength place) fault h) (omega arith)
            | failed t h ↦ no_fault (b.x.0 - b.x.1, b.x.1) fault h
          ]
    ]

module _ {A : Type 0} (inner : Whole A) (Is : A → Spelling) (place : ℕ) where
  abbrev body_of : List ℕ → ℕ × ℕ → List ℕ
  body_of text size = take size.0 (drop size.1 text)

  abbrev counted : ℕ × ℕ → A → Result (A × ℕ) AmlFault
  counted size x = Ok (x, size.1 + size.0)

  abbrev inside_of : List ℕ → ℕ × ℕ → Result (A × ℕ) AmlFault
  inside_of text size = inner (place + size.1) (body_of text size) into counted size

  pub enclosed_laws : ((count : ℕ) → WholeLaws inner Is (place + count)) → Laws (enclosed_at inner) (λ x. Enclosed (Is x)) place
  unfolding enclosed_at
  enclosed_laws l = record {
    found = λ text x total e.
        let b : Went (enclosing_at place text) (inside_of text) (Ok (x, total)) = bind_ok (enclosing_at place text) (inside_of text) (x, total) e in
        let body : ℕ = b.x.0 in
        let count : ℕ = b.x.1 in
        let n : Encloses text body count = enclosing_found place text body count b.is in
        let c : Went (inner (place + count) (body_of text b.x)) (counted b.x) (Ok (x, total)) =
        bind_ok (inner (place + count) (body_of text b.x)) (counted b.x) (x, total) b.on in
        let same : c.x ≡ x = value_same c.x x (count + body) total c.on in
        let all : count + body ≡ total = count_same c.x x (count + body) total c.on in
        let size_is : length (take count text) ≡ count = length-take-le count text (omega (arith, n.within)) in
        let body_is : length (take body (drop count text)) ≡ body = length-take-le body (drop count text) (omega (arith, n.within, length-drop count text)) in
        record {
          within = omega (arith, all, n.within);
          is = record {
            size = take count text;
            body = take body (drop count text);
            spelled = ap (λ n. take n text) (sym all) ∙ take-add count body text;
            told = subst (λ n. IsLength n (take count text)) (ap (λ n. n + body) (sym size_is) ∙ ap (λ n. length (take count text) + n) (sym body_is)) n.is;
            is = subst (λ x. Is x (take body (drop count text))) same ((l count).found (take body (drop count text)) c.x c.is);
          };
        };
    again = λ text bytes rest x e h.
        let split : text ≡ h.size ++ (h.body ++ rest) = e ∙ ap (λ b. b ++ rest) h.spelled ∙ append_assoc h.size h.body rest in
        let left : drop (length h.size) text ≡ h.body ++ rest = ap (drop (length h.size)) split ∙ drop-append_seam h.size (h.body ++ rest) in
        let front : take (length h.body) (drop (length h.size) text) ≡ h.body = ap (take (length h.body)) left ∙ take-append_seam h.body rest in
        bind_on (enclosing_at place text) (inside_of text) (length h.body, length h.size) (Ok (x, length bytes))
        (enclosing_again place text h.size h.body rest split h.told)
        (bind_on (inner (place + length h.size) (take (length h.body) (drop (length h.size) text))) (counted (length h.body, length h.size)) x
        (Ok (x, length bytes))
        ((l (length h.size)).again (take (length h.body) (drop (length h.size) text)) x (subst (Is x) (sym front) h.is))
        (ap (λ n. Ok (x, n)) (sym (ap length h.spelled ∙ length-append h.size h.body))));
    placed = λ text fault e.
        elim (bind_err (enclosing_at place text) (inside_of text) fault e) [
          | inl d ↦ enclosing_placed place text fault d
          | inr b ↦
              let n : Encloses text b.x.0 b.x.1 = enclosing_found place text b.x.0 b.x.1 b.is in
              elim (bind_err (inner (place + b.x.1) (body_of text b.x)) (counted b.x) fault b.on) [
                | inl d ↦
                    farther fault (place + b.x.1 + length (body_of text b.x)) (place + length text)
                    (omega (arith, n.within, length-take-le b.x.0 (drop b.x.1 text), length-drop b.x.1 text))
                    ((l b.x.1).placed (body_of text b.x) fault d)
                | inr c ↦ no_fault (c.x, b.x.1 + b.x.0) fault c.on
              ]
        ];
  }

-- what is enclosed is a thing made of another
pub made_enclosed_laws : {A B : Type 0} (make : A → B) (inner : Whole B) (Is : A → Spelling) (place : ℕ)
    → ((count : ℕ) → WholeLaws inner (Made make Is) (place + count)) → Laws (enclosed_at inner) (Made make (λ x. Enclosed (Is x))) place
made_enclosed_laws make inner Is place l = alike (enclosed_laws inner (Made make Is) place l)
    (λ y bytes h. (h.is.0, h.is.1, record { size = h.size; body = h.body; spelled = h.spelled; told = h.told; is = h.is.2 }))
    (λ y bytes h. record { size = h.2.size; body = h.2.body; spelled = h.2.spelled; told = h.2.told; is = (h.0, h.1, h.2.is) })
