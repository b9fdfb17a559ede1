-- Terms that are read one after the other, to the end of a text.
use Rattle.std.proofs.Common.{◌≡◌, ℕ, zero, suc, ◌+◌, ◌-◌, ◌≤◌, ◌<◌, List, [], ◌∷◌, ◌++◌, length, take, drop, refl, sym, ap, ◌∙◌, arith, length-drop}
use Rattle.std.proofs.Common.{Result, Ok, Err}
use Rattle.std.proofs.lemmas.List.{drop-drop, take_rest}
use Rattle.vt_outside.specs.Readings.{◌into◌, Agrees}
use Rattle.aml_terms.specs.declared.fault.AmlFault.{AmlFault}
use Rattle.aml_terms.specs.declared.term.Term.{Term}
use Rattle.aml_terms.specs.Trees.{Tree, Trees, no_trees, trees_of, view, views}
use Rattle.aml_terms.specs.Reading.{Reader, with_tree, all_from, all_in, reported}
use Rattle.aml_decode.specs.declared.found.Found.{Found}
use Rattle.aml_decode.proofs.Faults.{fault_of_all}
use Rattle.aml_decode.proofs.Levels.{Moves}

-- these, before those that are read
abbrev pub with_front : List Tree → Result Trees AmlFault → Result Trees AmlFault
with_front [] read = read
with_front (t ∷ ts) read = with_tree t (with_front ts read)

with_more : (ts : List Tree) (t : Tree) (read : Result Trees AmlFault) → with_front (ts ++ t ∷ []) read ≡ with_front ts (with_tree t read)
with_more [] t read = refl
with_more (u ∷ ts) t read = ap (with_tree u) (with_more ts t read)

with_none : (ts : List Tree) → with_front ts (Ok no_trees) ≡ Ok (trees_of ts)
with_none [] = refl
with_none (t ∷ ts) = ap (with_tree t) (with_none ts)

with_fault : (ts : List Tree) (fault : AmlFault) → with_front ts (Err fault) ≡ Err fault
with_fault [] fault = refl
with_fault (t ∷ ts) fault = ap (with_tree t) (with_fault ts fault)

with_front_of : {A : Type 0} (ts : List Tree) (read : Result A AmlFault) (next : A → Result Trees AmlFault)
    → with_front ts (read into next) ≡ (read into λ x. with_front ts (next x))
with_front_of ts (Ok x) next = refl
with_front_of ts (Err fault) next = with_fault ts fault

module _ (read : Reader Tree) (moves : Moves read) where
  -- the first one, and then the others, in so many steps
  abbrev behind_first : ℕ → ℕ → List ℕ → Tree × ℕ → Result Trees AmlFault
  behind_first steps place text t = with_tree t.0 (all_from read steps (place + t.1) (drop t.1 text))

  no_more : (steps place : ℕ) → all_from read steps place [] ≡ Ok no_trees
  unfolding all_from
  no_more zero place = refl
  no_more (suc steps) place = refl

  -- more than enough steps are as good as enough
  enough : (steps more place : ℕ) (text : List ℕ) → length text ≤ steps → length text ≤ more
      → all_from read steps place text ≡ all_from read more place text
  unfolding all_from
  enough steps more place [] h k = no_more steps place ∙ sym (no_more more place)
  enough zero more place (b ∷ bs) h k = absurd (omega arith)
  enough (suc steps) zero place (b ∷ bs) h k = absurd (omega arith)
  enough (suc steps) (suc more) place (b ∷ bs) h k =
      elim (read place (b ∷ bs)) as (λ r. read place (b ∷ bs) ≡ r → (r into behind_first steps place (b ∷ bs)) ≡ (r into behind_first more place (b ∷ bs))) [
        | Ok t ↦ λ e.
            let some : 1 ≤ t.1 = moves place (b ∷ bs) t e in
            let fewer : length (drop t.1 (b ∷ bs)) ≤ length bs = omega (arith, length-drop t.1 (b ∷ bs)) in
            ap (with_tree t.0) (enough steps more (place + t.1) (drop t.1 (b ∷ bs)) (omega arith) (omega arith))
        | Err fault ↦ λ e. refl
      ] refl

  -- all of a text that isn't empty: the first, and then all behind it
  abbrev behind_one : ℕ → List ℕ → Tree × ℕ → Result Trees AmlFault
  behind_one place text t = with_tree t.0 (all_in read (place + t.1) (drop t.1 text))

  all_step : (place : ℕ) (text : List ℕ) → 0 < length text → all_in read place text ≡ (read place text into behind_one place text)
  unfolding all_in all_from
  all_step place [] some = absurd (omega arith)
  all_step place (b ∷ bs) some =
      elim (read place (b ∷ bs)) as (λ r. read place (b ∷ bs) ≡ r → (r into behind_first (length bs) place (b ∷ bs)) ≡ (r into behind_one place (b ∷ bs))) [
        | Ok t ↦ λ e.
            let some : 1 ≤ t.1 = moves place (b ∷ bs) t e in
            let fewer : length (drop t.1 (b ∷ bs)) ≤ length bs = omega (arith, length-drop t.1 (b ∷ bs)) in
            ap (with_tree t.0) (enough (length bs) (length (drop t.1 (b ∷ bs))) (place + t.1) (drop t.1 (b ∷ bs)) fewer (omega arith))
        | Err fault ↦ λ e. refl
      ] refl

  all_done : (place : ℕ) (text : List ℕ) → length text ≡ 0 → all_in read place text ≡ Ok no_trees
  unfolding all_in all_from
  all_done place [] none = refl
  all_done place (b ∷ bs) none = absurd (omega arith)

  -- the next one is read, and all are those so far with it, and then those behind it
  pub next_read : (place size more : ℕ) (text : List ℕ) (front : List Tree) (t : Tree) (all : Result Trees AmlFault) → size < length text
      → read (place + size) (take (length text - size) (drop size text)) ≡ Ok (t, more) → with_front front (all_in read (place + size) (drop size text)) ≡ all
      → with_front (front ++ t ∷ []) (all_in read (place + (size + more)) (drop (size + more) text)) ≡ all
  next_read place size more text front t all some is e =
      let at : place + (size + more) ≡ place + size + more = omega arith in
      let left : 0 < length (drop size text) = omega (arith, length-drop size text) in
      let next : read (place + size) (drop size text) ≡ Ok (t, more) = ap (read (place + size)) (sym (take_rest text size)) ∙ is in
      rw (at, ← drop-drop more size text)
      (with_more front t (all_in read (place + size + more) (drop more (drop size text)))
      ∙ ap (with_front front)
      (ap (λ r. r into behind_one (place + size) (drop size text)) (sym next) ∙ sym (all_step (place + size) (drop size text) left)) ∙ e)

  -- the next one is at fault, and so are all
  pub next_bad : (fault : AmlFault) (place size : ℕ) (text : List ℕ) (front : List Tree) (all : Result Trees AmlFault) → size < length text
      → Agrees {Value = Found Term} reported (λ found. (view found.value, found.size)) (Err fault)
      (read (place + size) (take (length text - size) (drop size text)))
      → with_front front (all_in read (place + size) (drop size text)) ≡ all → Agrees reported views (Err fault) all
  next_bad fault place size text front all some is e =
      let left : 0 < length (drop size text) = omega (arith, length-drop size text) in
      fault_of_all {X = Found Term} {Y = List Term} (λ found. (view found.value, found.size)) views fault
      (read (place + size) (take (length text - size) (drop size text))) (λ t. with_front front (behind_one (place + size) (drop size text) t)) all is
      (ap (λ rest. read (place + size) rest into (λ t. with_front front (behind_one (place + size) (drop size text) t))) (take_rest text size)
      ∙ sym (with_front_of front (read (place + size) (drop size text)) (behind_one (place + size) (drop size text)))
      ∙ ap (with_front front) (sym (all_step (place + size) (drop size text) left)) ∙ e)

  -- none is left
  pub none_left : (place size : ℕ) (text : List ℕ) (front : List Tree) (all : Result Trees AmlFault) → length text ≤ size
      → with_front front (all_in read (place + size) (drop size text)) ≡ all → all ≡ Ok (trees_of front)
  none_left place size text front all none e =
      let left : length (drop size text) ≡ 0 = omega (arith, length-drop size text) in
      sym e ∙ ap (with_front front) (all_done (place + size) (drop size text) left) ∙ with_none front
