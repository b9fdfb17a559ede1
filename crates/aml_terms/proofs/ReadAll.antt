-- Terms or values, one after the other to the end of a text, are read exactly where they are spelled.
use Rattle.std.proofs.Common.{◌≡◌, ℕ, zero, suc, ◌+◌, ◌≤◌, ◌<◌, List, [], ◌∷◌, length, take, drop, refl, sym, ap, ◌∙◌, subst, inl, inr, arith}
use Rattle.std.proofs.Common.{length-append, length-take-le, length-drop, take-append-drop, Result, Ok, Err}
use Rattle.std.proofs.Math.Seq.{drop-append_seam}
use Rattle.aml_terms.specs.declared.fault.AmlFault.{AmlFault}
use Rattle.aml_terms.specs.Trees.{Tree, Trees, no_trees, tree}
use Rattle.aml_terms.specs.Grammar.{Spelling, Then}
use Rattle.aml_terms.specs.Reading.{Reader, with_tree, all_from, all_in, IsPlacedIn}
use Rattle.aml_terms.proofs.ReadSteps.{Went, bind_ok, bind_err, bind_on, ok_same, no_fault}
use Rattle.aml_terms.proofs.Readers.{Front, Laws, WholeLaws, placed_behind}

-- `All` says that trees are spelled one after the other, as `Is` says of each that it is spelled, by one byte at least.
pub record OneByOne (Is : Tree → Spelling) (All : Trees → Spelling) : Type 0 where
  pub some : (t : Tree) (bytes : List ℕ) → Is t bytes → 0 < length bytes
  pub none : All no_trees []
  pub is_none : (bytes : List ℕ) → All no_trees bytes → bytes ≡ []
  pub one : (t : Tree) (ts : Trees) (bytes : List ℕ) → Then (Is t) (All ts) bytes → All (tree t ts) bytes
  pub is_one : (t : Tree) (ts : Trees) (bytes : List ℕ) → All (tree t ts) bytes → Then (Is t) (All ts) bytes

module _ (read : Reader Tree) (Is : Tree → Spelling) (All : Trees → Spelling) (l : (place : ℕ) → Laws read Is place) (o : OneByOne Is All) where
  abbrev others : ℕ → ℕ → List ℕ → Tree × ℕ → Result Trees AmlFault
  others steps place text t = with_tree t.0 (all_from read steps (place + t.1) (drop t.1 text))

  abbrev with_first : Tree → Trees → Result Trees AmlFault
  with_first t ts = Ok (tree t ts)

  -- what is left behind one is shorter
  shrinks : (steps count : ℕ) (text : List ℕ) (t : Tree) → length text ≤ suc steps → Front Is text t count → length (drop count text) ≤ steps
  shrinks steps count text t h f =
      let one : 0 < length (take count text) = o.some t (take count text) f.is in
      omega (arith, one, f.within, length-take-le count text f.within, length-drop count text)

  none_found : (place : ℕ) (ts : Trees) → ◌≡◌ {A = Result Trees AmlFault} (Ok no_trees) (Ok ts) → All ts []
  none_found place ts e = subst (λ ts. All ts []) (ok_same no_trees ts e) o.none

  all_found : (steps place : ℕ) (text : List ℕ) (ts : Trees) → length text ≤ steps → all_from read steps place text ≡ Ok ts → All ts text
  unfolding all_from
  all_found zero place [] ts h e = none_found place ts e
  all_found zero place (b ∷ bs) ts h e = absurd (omega arith)
  all_found (suc steps) place [] ts h e = none_found place ts e
  all_found (suc steps) place (b ∷ bs) ts h e =
      let r : Went (read place (b ∷ bs)) (others steps place (b ∷ bs)) (Ok ts) = bind_ok (read place (b ∷ bs)) (others steps place (b ∷ bs)) ts e in
      let f : Front Is (b ∷ bs) r.x.0 r.x.1 = (l place).found (b ∷ bs) r.x.0 r.x.1 r.is in
      let left : List ℕ = drop r.x.1 (b ∷ bs) in
      let s : Went (all_from read steps (place + r.x.1) left) (with_first r.x.0) (Ok ts) =
      bind_ok (all_from read steps (place + r.x.1) left) (with_first r.x.0) ts r.on in
      subst (λ ts. All ts (b ∷ bs)) (ok_same (tree r.x.0 s.x) ts s.on)
      (o.one r.x.0 s.x (b ∷ bs) (record {
        first = take r.x.1 (b ∷ bs);
        rest = left;
        spelled = sym (take-append-drop r.x.1 (b ∷ bs));
        is_first = f.is;
        is_next = all_found steps (place + r.x.1) left s.x (shrinks steps r.x.1 (b ∷ bs) r.x.0 h f) s.is;
      }))

  none_again : (steps place : ℕ) → all_from read steps place [] ≡ Ok no_trees
  unfolding all_from
  none_again zero place = refl
  none_again (suc steps) place = refl

  one_again : (steps place count : ℕ) (text : List ℕ) (t : Tree) (ts : Trees) → 0 < length text → read place text ≡ Ok (t, count)
      → all_from read steps (place + count) (drop count text) ≡ Ok ts → all_from read (suc steps) place text ≡ Ok (tree t ts)
  unfolding all_from
  one_again steps place count [] t ts some e h = absurd (omega arith)
  one_again steps place count (b ∷ bs) t ts some e h =
      bind_on (read place (b ∷ bs)) (others steps place (b ∷ bs)) (t, count) (Ok (tree t ts)) e (ap (with_tree t) h)

  all_again : (ts : Trees) (steps place : ℕ) (text : List ℕ) → length text ≤ steps → All ts text → all_from read steps place text ≡ Ok ts
  all_again no_trees steps place text h k = ap (all_from read steps place) (o.is_none text k) ∙ none_again steps place
  all_again (tree t ts) zero place text h k =
      let one : Then (Is t) (All ts) text = o.is_one t ts text k in
      absurd (omega (arith, ap length one.spelled, length-append one.first one.rest, o.some t one.first one.is_first))
  all_again (tree t ts) (suc steps) place text h k =
      let one : Then (Is t) (All ts) text = o.is_one t ts text k in
      let some : 0 < length one.first = o.some t one.first one.is_first in
      let sized : length text ≡ length one.first + length one.rest = ap length one.spelled ∙ length-append one.first one.rest in
      let left : drop (length one.first) text ≡ one.rest = ap (drop (length one.first)) one.spelled ∙ drop-append_seam one.first one.rest in
      one_again steps place (length one.first) text t ts (omega arith) ((l place).again text one.first one.rest t one.spelled one.is_first)
      (ap (all_from read steps (place + length one.first)) left ∙ all_again ts steps (place + length one.first) one.rest (omega arith) one.is_next)

  all_placed : (steps place : ℕ) (text : List ℕ) (fault : AmlFault) → length text ≤ steps → all_from read steps place text ≡ Err fault
      → IsPlacedIn (place + length text) fault
  unfolding all_from
  all_placed zero place [] fault h e = no_fault no_trees fault e
  all_placed zero place (b ∷ bs) fault h e = absurd (omega arith)
  all_placed (suc steps) place [] fault h e = no_fault no_trees fault e
  all_placed (suc steps) place (b ∷ bs) fault h e =
      elim (bind_err (read place (b ∷ bs)) (others steps place (b ∷ bs)) fault e) [
        | inl d ↦ (l place).placed (b ∷ bs) fault d
        | inr r ↦
            let f : Front Is (b ∷ bs) r.x.0 r.x.1 = (l place).found (b ∷ bs) r.x.0 r.x.1 r.is in
            let left : List ℕ = drop r.x.1 (b ∷ bs) in
            elim (bind_err (all_from read steps (place + r.x.1) left) (with_first r.x.0) fault r.on) [
              | inl d ↦
                  placed_behind place r.x.1 (b ∷ bs) fault f.within
                  (all_placed steps (place + r.x.1) left fault (shrinks steps r.x.1 (b ∷ bs) r.x.0 h f) d)
              | inr s ↦ no_fault (tree r.x.0 s.x) fault s.on
            ]
      ]

  pub all_laws : (place : ℕ) → WholeLaws (all_in read) All place
  unfolding all_in
  all_laws place = record {
    found = λ text ts e. all_found (length text) place text ts (omega arith) e;
    again = λ text ts h. all_again ts (length text) place text (omega arith) h;
    placed = λ text fault e. all_placed (length text) place text fault (omega arith) e;
  }
