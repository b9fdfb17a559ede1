-- Segments, and those of a path in each of their three forms, are read exactly where they are spelled.
use Rattle.std.proofs.Common.{◌≡◌, ℕ, zero, suc, ◌+◌, ◌-◌, ◌≤◌, ◌⊎◌, Bool, true, false, List, [], ◌∷◌, ◌++◌, length, take, refl, sym, ap, ◌∙◌, subst}
use Rattle.std.proofs.Common.{inl, inr, arith, append-nil, take-add, Result, Ok, Err}
use Rattle.std.specs.Prelude.{◌==◌, ◌&&◌, ◌||◌, nat_le}
use Rattle.std.specs.List.{AllByRecursion}
use Rattle.std.proofs.lemmas.Bool.{eqb-true, eqb-false, ne_eqb, leb-true}
use Rattle.vt_outside.specs.Readings.{◌into◌}
use Rattle.aml_terms.specs.declared.fault.AmlFault.{AmlFault}
use Rattle.aml_terms.specs.declared.fault.AmlFault.TheVariants.{Truncated, BadName}
use Rattle.aml_terms.specs.Grammar.{Spelling, Then}
use Rattle.aml_terms.specs.Paths.{HasShape, IsSegment, is_lead_char, segment_shape, joined, AreSegments, one, two, many}
use Rattle.aml_terms.specs.Reading.{behind, then_at, made_at, byte_at, shape_at, segment_at, segments_at, counted_at, names_at, IsPlacedIn}
use Rattle.aml_terms.proofs.Choices.{held, failed, chosen, when_held, when_failed}
use Rattle.aml_terms.proofs.ReadSteps.{Went, bind_ok, bind_err, bind_on, err_same, no_fault, value_same, count_same, ReadBehind, behind_ok}
use Rattle.aml_terms.proofs.ReadSteps.{behind_err, behind_on}
use Rattle.aml_terms.proofs.Readers.{farther, Front, Laws, Both, then_laws, Made, made_laws, alike, nothing_laws}
use Rattle.aml_terms.proofs.ReadNumbers.{Led, led_laws}

-- characters of a shape
abbrev IsShaped : List (ℕ → Bool) → List ℕ → Spelling
IsShaped shape s bytes = (bytes ≡ s) × HasShape shape s

abbrev with_char : ℕ → List ℕ × ℕ → Result (List ℕ × ℕ) AmlFault
with_char c s = Ok (c ∷ s.0, suc s.1)

no_shape : (s : List ℕ) → HasShape [] s → s ≡ []
no_shape [] h = refl
no_shape (c ∷ cs) h = absurd h

no_shape_laws : (place : ℕ) → Laws (shape_at []) (IsShaped []) place
no_shape_laws place = alike (nothing_laws [] place) (λ s bytes h. (h.1 ∙ sym h.0, subst (HasShape []) (sym h.0) tt))
    (λ s bytes h. (no_shape s h.1, h.0 ∙ no_shape s h.1))

module _ (is : ℕ → Bool) (shape : List (ℕ → Bool)) (l : (place : ℕ) → Laws (shape_at shape) (IsShaped shape) place) where
  char_found : (place : ℕ) (text s : List ℕ) (count : ℕ) → shape_at (is ∷ shape) place text ≡ Ok (s, count) → Front (IsShaped (is ∷ shape)) text s count
  char_found place [] s count e = cc
  char_found place (c ∷ cs) s count e =
      elim (chosen (is c) (shape_at shape (place + 1) cs into with_char c) (Err (BadName place)) (Ok (s, count)) e) [
        | held t h ↦
            let b : Went (shape_at shape (place + 1) cs) (with_char c) (Ok (s, count)) = bind_ok (shape_at shape (place + 1) cs) (with_char c) (s, count) h in
            let f : Front (IsShaped shape) cs b.x.0 b.x.1 = (l (place + 1)).found cs b.x.0 b.x.1 b.is in
            let all : suc b.x.1 ≡ count = count_same (c ∷ b.x.0) s (suc b.x.1) count b.on in
            let made : c ∷ b.x.0 ≡ s = value_same (c ∷ b.x.0) s (suc b.x.1) count b.on in
            record {
              within = omega (arith, all, f.within);
              is = (ap (λ n. take n (c ∷ cs)) (sym all) ∙ ap (λ s. c ∷ s) f.is.0 ∙ made, subst (HasShape (is ∷ shape)) made (t, f.is.1));
            }
        | failed t h ↦ cc
      ]

  char_again : (place : ℕ) (text first rest s : List ℕ) → text ≡ first ++ rest → IsShaped (is ∷ shape) s first
      → shape_at (is ∷ shape) place text ≡ Ok (s, length first)
  char_again place text first rest [] e h = absurd h.1
  char_again place text first rest (c ∷ cs) e h =
      ap (shape_at (is ∷ shape) place) (e ∙ ap (λ first. first ++ rest) h.0)
      ∙ when_held (is c) (shape_at shape (place + 1) (cs ++ rest) into with_char c) (Err (BadName place)) h.1.0
      ∙ bind_on (shape_at shape (place + 1) (cs ++ rest)) (with_char c) (cs, length cs) (Ok (c ∷ cs, suc (length cs)))
      ((l (place + 1)).again (cs ++ rest) cs rest cs refl (refl, h.1.1)) refl
      ∙ ap (λ first. Ok (c ∷ cs, length first)) (sym h.0)

  char_placed : (place : ℕ) (text : List ℕ) (fault : AmlFault) → shape_at (is ∷ shape) place text ≡ Err fault → IsPlacedIn (place + length text) fault
  char_placed place [] fault e = subst (IsPlacedIn (place + 0)) (err_same (Truncated place) fault e) (omega arith)
  char_placed place (c ∷ cs) fault e =
      elim (chosen (is c) (shape_at shape (place + 1) cs into with_char c) (Err (BadName place)) (Err fault) e) [
        | held t h ↦
            elim (bind_err (shape_at shape (place + 1) cs) (with_char c) fault h) [
              | inl d ↦ farther fault (place + 1 + length cs) (place + suc (length cs)) (omega arith) ((l (place + 1)).placed cs fault d)
              | inr b ↦ no_fault (c ∷ b.x.0, suc b.x.1) fault b.on
            ]
        | failed t h ↦ subst (IsPlacedIn (place + suc (length cs))) (err_same (BadName place) fault h) (omega arith)
      ]

  char_laws : (place : ℕ) → Laws (shape_at (is ∷ shape)) (IsShaped (is ∷ shape)) place
  char_laws place = record { found = char_found place; again = char_again place; placed = char_placed place }

shape_laws : (shape : List (ℕ → Bool)) (place : ℕ) → Laws (shape_at shape) (IsShaped shape) place
shape_laws [] place = no_shape_laws place
shape_laws (is ∷ shape) place = char_laws is shape (shape_laws shape) place

-- so many segments
abbrev IsSegments : ℕ → List (List ℕ) → Spelling
IsSegments count ss bytes = (length ss ≡ count) × AllByRecursion IsSegment ss × (bytes ≡ joined ss)

no_segments : (ss : List (List ℕ)) → length ss ≡ 0 → ss ≡ []
no_segments [] e = refl
no_segments (s ∷ ss) e = absurd (omega arith)

segments_again : (count : ℕ) (ss : List (List ℕ)) (bytes : List ℕ) → IsSegments (suc count) ss bytes
    → Both (IsShaped segment_shape) (λ s. Made (λ ss. s ∷ ss) (IsSegments count)) ss bytes
segments_again count [] bytes h = absurd (omega (arith, h.0))
segments_again count (s ∷ ss) bytes h =
    (s, record { first = s; rest = joined ss; spelled = h.2; is_first = (refl, h.1.0); is_next = (ss, refl, (omega (arith, h.0), h.1.1, refl)) })

segments_found : (count : ℕ) (ss : List (List ℕ)) (bytes : List ℕ) → Both (IsShaped segment_shape) (λ s. Made (λ ss. s ∷ ss) (IsSegments count)) ss bytes
    → IsSegments (suc count) ss bytes
segments_found count ss bytes h =
    let s : List ℕ = h.0 in
    let t : Then (IsShaped segment_shape s) (Made (λ ss. s ∷ ss) (IsSegments count) ss) bytes = h.1 in
    let left : List (List ℕ) = t.is_next.0 in
    subst (λ ss. IsSegments (suc count) ss bytes) (sym t.is_next.1)
    (ap suc t.is_next.2.0, (t.is_first.1, t.is_next.2.1), t.spelled ∙ ap (λ first. first ++ t.rest) t.is_first.0 ∙ ap (λ rest. s ++ rest) t.is_next.2.2)

segments_laws : (count place : ℕ) → Laws (segments_at count) (IsSegments count) place
unfolding segments_at segment_at
segments_laws zero place = alike (nothing_laws [] place)
    (λ ss bytes h. subst (λ ss. IsSegments 0 ss bytes) (sym h.0) (refl, tt, h.1))
    (λ ss bytes h. (no_segments ss h.0, h.2 ∙ ap joined (no_segments ss h.0)))
segments_laws (suc count) place =
    alike (then_laws (shape_at segment_shape) (λ s. made_at (λ ss. s ∷ ss) (segments_at count)) (IsShaped segment_shape)
    (λ s. Made (λ ss. s ∷ ss) (IsSegments count)) place (shape_laws segment_shape place)
    (λ s n. made_laws (λ ss. s ∷ ss) (segments_at count) (IsSegments count) (place + n) (segments_laws count (place + n))))
    (segments_found count) (segments_again count)

-- the segments behind their number
abbrev IsCounted : ℕ → List (List ℕ) → Spelling
IsCounted count ss bytes = (1 ≤ count) × IsSegments count ss bytes

counted_laws : (count place : ℕ) → Laws (counted_at count) (IsCounted count) place
unfolding counted_at
counted_laws count place = record {
  found = λ text ss n e.
      elim (chosen (count == 0) (Err (BadName (place - 1))) (segments_at count place text) (Ok (ss, n)) e) [
        | held t h ↦ cc
        | failed t h ↦
            let some : count ≡ 0 → ⊥ = eqb-false count 0 t in
            let f : Front (IsSegments count) text ss n = (segments_laws count place).found text ss n h in
            record { within = f.within; is = (omega arith, f.is) }
      ];
  again = λ text first rest ss e h.
      let some : count ≡ 0 → ⊥ = λ z. omega (arith, h.0) in
      when_failed (count == 0) (Err (BadName (place - 1))) (segments_at count place text) (ne_eqb count 0 some)
      ∙ (segments_laws count place).again text first rest ss e h.1;
  placed = λ text fault e.
      elim (chosen (count == 0) (Err (BadName (place - 1))) (segments_at count place text) (Err fault) e) [
        | held t h ↦ subst (IsPlacedIn (place + length text)) (err_same (BadName (place - 1)) fault h) (omega arith)
        | failed t h ↦ (segments_laws count place).placed text fault h
      ];
}

abbrev LedSegments : List (List ℕ) → Spelling
LedSegments ss = Led (λ count. IsCounted count ss)

many_laws : (place : ℕ) → Laws (then_at byte_at counted_at) LedSegments place
many_laws place = led_laws counted_at IsCounted place (λ count n. counted_laws count (place + n))

-- the segments of a path, in each of their three forms
abbrev pub IsNames : List (List ℕ) → Spelling
IsNames ss bytes = AllByRecursion IsSegment ss × (1 ≤ length ss) × AreSegments ss bytes

alone : (ss : List (List ℕ)) (bytes : List ℕ) → IsSegments 1 ss bytes → AreSegments ss bytes
alone [] bytes h = absurd (omega (arith, h.0))
alone (s ∷ []) bytes h = one s refl (h.2 ∙ append-nil s)
alone (s ∷ t ∷ ss) bytes h = absurd (omega (arith, h.0))

pair : (ss : List (List ℕ)) (bytes : List ℕ) → IsSegments 2 ss bytes → AreSegments ss (0x2E ∷ bytes)
pair [] bytes h = absurd (omega (arith, h.0))
pair (s ∷ []) bytes h = absurd (omega (arith, h.0))
pair (s ∷ t ∷ []) bytes h = two s t refl (ap (λ bytes. 0x2E ∷ bytes) (h.2 ∙ ap (λ t. s ++ t) (append-nil t)))
pair (s ∷ t ∷ u ∷ ss) bytes h = absurd (omega (arith, h.0))

-- one more byte in front
one_more : (n : ℕ) (c : ℕ) (cs : List ℕ) → take (1 + n) (c ∷ cs) ≡ c ∷ take n cs
one_more n c cs = take-add 1 n (c ∷ cs)

names_found : (place : ℕ) (text : List ℕ) (ss : List (List ℕ)) (count : ℕ) → names_at place text ≡ Ok (ss, count) → Front IsNames text ss count
unfolding names_at
names_found place [] ss count e = cc
names_found place (c ∷ cs) ss count e =
    elim (chosen (c == 0x2E) (behind 1 (segments_at 2 (place + 1) cs)) _ (Ok (ss, count)) e) [
      | held t h ↦
          let b : ReadBehind 1 (segments_at 2 (place + 1) cs) ss count = behind_ok 1 (segments_at 2 (place + 1) cs) ss count h in
          let f : Front (IsSegments 2) cs ss b.more = (segments_laws 2 (place + 1)).found cs ss b.more b.is in
          let front : 0x2E ∷ take b.more cs ≡ take count (c ∷ cs) =
          ap (λ c. c ∷ take b.more cs) (sym (eqb-true c 0x2E t)) ∙ sym (one_more b.more c cs) ∙ ap (λ n. take n (c ∷ cs)) (sym b.sum) in
          record {
            within = omega (arith, b.sum, f.within);
            is = (f.is.1, omega (arith, f.is.0), subst (AreSegments ss) front (pair ss (take b.more cs) f.is));
          }
      | failed t h ↦
          elim (chosen (c == 0x2F) (behind 1 (then_at byte_at counted_at (place + 1) cs)) (segments_at 1 place (c ∷ cs)) (Ok (ss, count)) h) [
            | held u k ↦
                let b : ReadBehind 1 (then_at byte_at counted_at (place + 1) cs) ss count =
                behind_ok 1 (then_at byte_at counted_at (place + 1) cs) ss count k in
                let f : Front LedSegments cs ss b.more = (many_laws (place + 1)).found cs ss b.more b.is in
                let m : Led (λ count. IsCounted count ss) (take b.more cs) = f.is in
                let front : 0x2F ∷ take b.more cs ≡ take count (c ∷ cs) =
                ap (λ c. c ∷ take b.more cs) (sym (eqb-true c 0x2F u)) ∙ sym (one_more b.more c cs) ∙ ap (λ n. take n (c ∷ cs)) (sym b.sum) in
                let behind_it : take b.more cs ≡ length ss ∷ joined ss =
                m.spelled ∙ ap (λ n. n ∷ m.rest) (sym m.is.1.0) ∙ ap (λ rest. length ss ∷ rest) m.is.1.2 in
                record {
                  within = omega (arith, b.sum, f.within);
                  is = (m.is.1.1, omega (arith, m.is.0, m.is.1.0), many (sym front ∙ ap (λ rest. 0x2F ∷ rest) behind_it));
                }
            | failed u k ↦
                let f : Front (IsSegments 1) (c ∷ cs) ss count = (segments_laws 1 place).found (c ∷ cs) ss count k in
                record { within = f.within; is = (f.is.1, omega (arith, f.is.0), alone ss (take count (c ∷ cs)) f.is) }
          ]
    ]

-- the first character of a segment is none of the bytes that lead a path
pub lead_char : (c : ℕ) → is_lead_char c ≡ true → ((0x41 ≤ c) × (c ≤ 0x5A)) ⊎ (c ≡ 0x5F)
lead_char c e = go (nat_le 0x41 c) (nat_le c 0x5A) (c == 0x5F) refl refl refl e
  where
    go : (x y z : Bool) → nat_le 0x41 c ≡ x → nat_le c 0x5A ≡ y → (c == 0x5F) ≡ z → ((x && y) || z) ≡ true → ((0x41 ≤ c) × (c ≤ 0x5A)) ⊎ (c ≡ 0x5F)
    go true true z f g h e = inl (leb-true 0x41 c f, leb-true c 0x5A g)
    go true false true f g h e = inr (eqb-true c 0x5F h)
    go true false false f g h e = cc
    go false y true f g h e = inr (eqb-true c 0x5F h)
    go false y false f g h e = cc

one_names : (place : ℕ) (s rest : List ℕ) → IsSegment s → names_at place (s ++ rest) ≡ segments_at 1 place (s ++ rest)
unfolding names_at
one_names place [] rest h = absurd h
one_names place (c ∷ cs) rest h =
    let lead : ((0x41 ≤ c) × (c ≤ 0x5A)) ⊎ (c ≡ 0x5F) = lead_char c h.0 in
    when_failed (c == 0x2E) _ _ (ne_eqb c 0x2E (λ z. omega arith)) ∙ when_failed (c == 0x2F) _ _ (ne_eqb c 0x2F (λ z. omega arith))

names_again : (place : ℕ) (text first rest : List ℕ) (ss : List (List ℕ)) → text ≡ first ++ rest → IsNames ss first
    → names_at place text ≡ Ok (ss, length first)
unfolding names_at
names_again place text first rest ss e (all, some, one s f g) =
    let is : IsSegment s = (subst (AllByRecursion IsSegment) f all).0 in
    let text_is : text ≡ s ++ rest = e ∙ ap (λ first. first ++ rest) g in
    ap (names_at place) text_is ∙ one_names place s rest is ∙ ap (segments_at 1 place) (sym text_is)
    ∙ (segments_laws 1 place).again text first rest ss e (ap length f, all, g ∙ sym (append-nil s) ∙ ap joined (sym f))
names_again place text first rest ss e (all, some, two s t f g) =
    let text_is : text ≡ 0x2E ∷ ((s ++ t) ++ rest) = e ∙ ap (λ first. first ++ rest) g in
    ap (names_at place) text_is
    ∙ behind_on 1 (segments_at 2 (place + 1) ((s ++ t) ++ rest)) ss (length (s ++ t))
    ((segments_laws 2 (place + 1)).again ((s ++ t) ++ rest) (s ++ t) rest ss refl
    (ap length f, all, ap (λ t. s ++ t) (sym (append-nil t)) ∙ ap joined (sym f)))
    ∙ ap (λ n. Ok (ss, n)) (omega (arith, ap length g))
names_again place text first rest ss e (all, some, many g) =
    let behind_it : List ℕ = length ss ∷ joined ss in
    let text_is : text ≡ 0x2F ∷ (behind_it ++ rest) = e ∙ ap (λ first. first ++ rest) g in
    ap (names_at place) text_is
    ∙ behind_on 1 (then_at byte_at counted_at (place + 1) (behind_it ++ rest)) ss (length behind_it)
    ((many_laws (place + 1)).again (behind_it ++ rest) behind_it rest ss refl
    (record { byte = length ss; rest = joined ss; spelled = refl; is = (some, (refl, all, refl)) }))
    ∙ ap (λ n. Ok (ss, n)) (omega (arith, ap length g))

names_placed : (place : ℕ) (text : List ℕ) (fault : AmlFault) → names_at place text ≡ Err fault → IsPlacedIn (place + length text) fault
unfolding names_at
names_placed place [] fault e = subst (IsPlacedIn (place + 0)) (err_same (Truncated place) fault e) (omega arith)
names_placed place (c ∷ cs) fault e =
    elim (chosen (c == 0x2E) (behind 1 (segments_at 2 (place + 1) cs)) _ (Err fault) e) [
      | held t h ↦
          farther fault (place + 1 + length cs) (place + suc (length cs)) (omega arith)
          ((segments_laws 2 (place + 1)).placed cs fault (behind_err 1 (segments_at 2 (place + 1) cs) fault h))
      | failed t h ↦
          elim (chosen (c == 0x2F) (behind 1 (then_at byte_at counted_at (place + 1) cs)) (segments_at 1 place (c ∷ cs)) (Err fault) h) [
            | held u k ↦
                farther fault (place + 1 + length cs) (place + suc (length cs)) (omega arith)
                ((many_laws (place + 1)).placed cs fault (behind_err 1 (then_at byte_at counted_at (place + 1) cs) fault k))
            | failed u k ↦ (segments_laws 1 place).placed (c ∷ cs) fault k
          ]
    ]

pub names_laws : (place : ℕ) → Laws names_at IsNames place
names_laws place = record { found = names_found place; again = names_again place; placed = names_placed place }
