-- A walk over terms, up to the first at which it stops.
use Rattle.std.proofs.Common.{◌≡◌, ℕ, zero, suc, ◌+◌, ◌≤◌, Bool, true, false, is_some, List, [], ◌∷◌, length, Option, Some, None, slice_get, slice_set}
use Rattle.std.proofs.Common.{refl, sym, ap, ap₂, subst, ◌∙◌, add-one, arith}
use Rattle.std.specs.Prelude.{⊤}
use Rattle.std.proofs.lemmas.Bool.{cond-true, cond-false}
use Rattle.std.proofs.lemmas.Option.{none-some, same_Some}
use Rattle.aml_terms.specs.declared.term.Term.{Term}
use Rattle.aml_terms.specs.Trees.{Tree, Trees, no_trees, tree, view, views}
use Rattle.aml_terms.proofs.FromTrees.{from_trees}
use Rattle.aml_generation.specs.Generation.{behind, or_behind, is_address, taken_of_name, taken_of_names, taken_of_device, taken_of_devices}
use Rattle.aml_generation.specs.Generation.{taken_inside, taken}
use Rattle.aml_generation.proofs.Kept.{Keeps, none_from, keeps_device, keeps_inside}

-- a walk: of the first term at which it stops it tells what is told of that one, and it passes those before it
pub record IsWalk (stops : Tree → Bool) (one : Tree → Option ℕ × Tree) (all : Trees → Option ℕ × Trees) : Type 0 where
  pub ended : all no_trees ≡ (None, no_trees)
  pub stopped : (t : Tree) (ts : Trees) → stops t ≡ true → all (tree t ts) ≡ ((one t).0, tree (one t).1 ts)
  pub passed : (t : Tree) (ts : Trees) → stops t ≡ false → all (tree t ts) ≡ behind t (all ts)

-- something is told of a term
abbrev pub tells : (Tree → Option ℕ × Tree) → Tree → Bool
tells one t = is_some (one t).0

-- so many terms are passed
abbrev pub ArePassed : (Tree → Bool) → ℕ → List Term → Type 0
ArePassed stops zero ts = ⊤
ArePassed stops (suc count) [] = ⊤
ArePassed stops (suc count) (t ∷ ts) = (stops (view t) ≡ false) × ArePassed stops count ts

-- terms are as they were, and so many of them are passed
pub record Walked (stops : Tree → Bool) (before : List Term) (count : ℕ) (now : List Term) : Type 0 where
  pub same : now ≡ before
  pub passed : ArePassed stops count before

-- one more is passed
more_passed : (stops : Tree → Bool) (i : ℕ) (ts : List Term) (t : Term) → ArePassed stops i ts → slice_get ts i ≡ Some t → stops (view t) ≡ false
    → ArePassed stops (suc i) ts
more_passed stops i [] t passed at failed = tt
more_passed stops zero (x ∷ xs) t passed at failed = (ap (λ (one : Term). stops (view one)) (same_Some x t at) ∙ failed, tt)
more_passed stops (suc i) (x ∷ xs) t passed at failed = (passed.0, more_passed stops i xs t passed.1 at failed)

-- what stood there is put there again
put_again : (i : ℕ) (ts : List Term) (t : Term) → slice_get ts i ≡ Some t → slice_set ts i t ≡ ts
put_again i [] t at = refl
put_again zero (x ∷ xs) t at = ap (λ (one : Term). one ∷ xs) (sym (same_Some x t at))
put_again (suc i) (x ∷ xs) t at = ap (λ (others : List Term). x ∷ others) (put_again i xs t at)

-- the walk stops at a place, where it leaves another term
stopped_at : {stops : Tree → Bool} {one : Tree → Option ℕ × Tree} {all : Trees → Option ℕ × Trees} → IsWalk stops one all
    → (i : ℕ) (ts : List Term) (t u : Term) → ArePassed stops i ts → slice_get ts i ≡ Some t → stops (view t) ≡ true → view u ≡ (one (view t)).1
    → all (views ts) ≡ ((one (view t)).0, views (slice_set ts i u))
stopped_at walk i [] t u passed at held left = absurd (none-some t at)
stopped_at {stops} {one} {all} walk zero (x ∷ xs) t u passed at held left =
    ap (λ (first : Term). all (tree (view first) (views xs))) (same_Some x t at) ∙ walk.stopped (view t) (views xs) held
    ∙ ap (λ (seen : Tree). ((one (view t)).0, tree seen (views xs))) (sym left)
stopped_at walk (suc i) (x ∷ xs) t u passed at held left =
    walk.passed (view x) (views xs) passed.0 ∙ ap (behind (view x)) (stopped_at walk i xs t u passed.1 at held left)

-- the walk passes all
passed_all : {stops : Tree → Bool} {one : Tree → Option ℕ × Tree} {all : Trees → Option ℕ × Trees} → IsWalk stops one all
    → (i : ℕ) (ts : List Term) → ArePassed stops i ts → length ts ≤ i → all (views ts) ≡ (None, views ts)
passed_all walk i [] passed past = walk.ended
passed_all walk zero (x ∷ xs) passed past = absurd (omega arith)
passed_all walk (suc i) (x ∷ xs) passed past =
    let less : length xs ≤ i = omega arith in
    walk.passed (view x) (views xs) passed.0 ∙ ap (behind (view x)) (passed_all walk i xs passed.1 less)

-- a loop passes a term
pub past : (stops : Tree → Bool) (before now : List Term) (i : ℕ) (t : Term) → Walked stops before i now → slice_get now i ≡ Some t
    → stops (view t) ≡ false → Walked stops before (i + 1) now
past stops before now i t walked at failed =
    let before_at : slice_get before i ≡ Some t = ap (λ (ts : List Term). slice_get ts i) (sym walked.same) ∙ at in
    record {
      same = walked.same;
      passed = subst (λ n. ArePassed stops n before) (sym (add-one i)) (more_passed stops i before t walked.passed before_at failed);
    }

-- a loop passes a term of which nothing is told, and which is put there again
pub on : (one : Tree → Option ℕ × Tree) → ((t : Tree) → Keeps (one t) t) → (before now : List Term) (i : ℕ) (t u : Term) (told : Option ℕ)
    → Walked (tells one) before i now → slice_get now i ≡ Some t → ◌≡◌ {A = Option ℕ × Tree} (told, view u) (one (view t)) → told ≡ None
    → Walked (tells one) before (i + 1) (slice_set now i u)
on one kept before now i t u told walked at is none =
    let first : (one (view t)).0 ≡ None = ap (λ (r : Option ℕ × Tree). r.0) (sym is) ∙ none in
    let stays : view u ≡ view t = ap (λ (r : Option ℕ × Tree). r.1) is ∙ kept (view t) first in
    let next = past (tells one) before now i t walked at (ap is_some first) in
    record { same = ap (slice_set now i) (from_trees u t stays) ∙ put_again i now t at ∙ next.same; passed = next.passed }

-- a loop stops at a term, where it leaves another
pub stop : {stops : Tree → Bool} {one : Tree → Option ℕ × Tree} {all : Trees → Option ℕ × Trees} → IsWalk stops one all
    → (before now : List Term) (i : ℕ) (t u : Term) (told : Option ℕ) → Walked stops before i now → slice_get now i ≡ Some t → stops (view t) ≡ true
    → ◌≡◌ {A = Option ℕ × Tree} (told, view u) (one (view t))
    → ◌≡◌ {A = Option ℕ × Trees} (told, views (slice_set now i u)) (all (views before))
stop {stops} {one} {all} walk before now i t u told walked at held is =
    let before_at : slice_get before i ≡ Some t = ap (λ (ts : List Term). slice_get ts i) (sym walked.same) ∙ at in
    let first : told ≡ (one (view t)).0 = ap (λ (r : Option ℕ × Tree). r.0) is in
    let left : view u ≡ (one (view t)).1 = ap (λ (r : Option ℕ × Tree). r.1) is in
    ap₂ (λ (told : Option ℕ) (ts : List Term). (told, views (slice_set ts i u))) first walked.same
    ∙ sym (stopped_at walk i before t u walked.passed before_at held left)

-- a loop stops at a term that tells an address
pub stop_some : {one : Tree → Option ℕ × Tree} {all : Trees → Option ℕ × Trees} → IsWalk (tells one) one all
    → (before now : List Term) (i : ℕ) (t u : Term) (told : Option ℕ) (address : ℕ) → Walked (tells one) before i now → slice_get now i ≡ Some t
    → ◌≡◌ {A = Option ℕ × Tree} (told, view u) (one (view t)) → told ≡ Some address
    → ◌≡◌ {A = Option ℕ × Trees} (Some address, views (slice_set now i u)) (all (views before))
stop_some {one} walk before now i t u told address walked at is some =
    let held : tells one (view t) ≡ true = ap (λ (r : Option ℕ × Tree). is_some r.0) (sym is) ∙ ap is_some some in
    ap (λ (a : Option ℕ). (a, views (slice_set now i u))) (sym some) ∙ stop walk before now i t u told walked at held is

-- a loop comes to the end
pub over : {stops : Tree → Bool} {one : Tree → Option ℕ × Tree} {all : Trees → Option ℕ × Trees} → IsWalk stops one all
    → (before now : List Term) (i : ℕ) → Walked stops before i now → length now ≤ i
    → ◌≡◌ {A = Option ℕ × Trees} (None, views now) (all (views before))
over walk before now i walked past =
    let beyond : length before ≤ i = subst (λ (ts : List Term). length ts ≤ i) walked.same past in
    ap (λ (ts : List Term). (None, views ts)) walked.same ∙ sym (passed_all walk i before walked.passed beyond)

-- a walk that stops where something is told
telling : (one : Tree → Option ℕ × Tree) (all : Trees → Option ℕ × Trees) → ((t : Tree) → Keeps (one t) t) → all no_trees ≡ (None, no_trees)
    → ((t : Tree) (ts : Trees) → all (tree t ts) ≡ or_behind (one t) ts (all ts)) → IsWalk (tells one) one all
telling one all kept ended each = record {
  ended = ended;
  stopped = λ t ts held. each t ts ∙ cond-true (tells one t) ((one t).0, tree (one t).1 ts) (behind (one t).1 (all ts)) held;
  passed = λ t ts failed. each t ts ∙ cond-false (tells one t) ((one t).0, tree (one t).1 ts) (behind (one t).1 (all ts)) failed
      ∙ ap (λ (left : Tree). behind left (all ts)) (kept t (none_from (one t).0 failed));
}

pub over_devices : IsWalk (tells taken_of_device) taken_of_device taken_of_devices
over_devices = telling taken_of_device taken_of_devices keeps_device refl (λ t ts. refl)

pub over_terms : IsWalk (tells taken_inside) taken_inside taken
over_terms = telling taken_inside taken keeps_inside refl (λ t ts. refl)

-- the walk over the names of a device stops at its first `ADDR`, whatever that tells
pub over_names : IsWalk is_address taken_of_name taken_of_names
over_names = record {
  ended = refl;
  stopped = λ t ts held. cond-true (is_address t) ((taken_of_name t).0, tree (taken_of_name t).1 ts) (behind t (taken_of_names ts)) held;
  passed = λ t ts failed. cond-false (is_address t) ((taken_of_name t).0, tree (taken_of_name t).1 ts) (behind t (taken_of_names ts)) failed;
}
