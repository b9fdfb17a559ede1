-- Terms that are appended one after the other, each whole.
use Rattle.std.proofs.Common.{◌≡◌, ℕ, ◌+◌, ◌≤◌, List, ◌∷◌, ◌++◌, length, drop, sym, ap, ◌∙◌, subst, inl, append-nil, append_assoc}
use Rattle.aml_terms.specs.declared.term.Term.{Term}
use Rattle.aml_terms.specs.Trees.{view, views}
use Rattle.aml_terms.specs.WellFormed.{AreGood, IsGood, IsWellFormed}
use Rattle.aml_terms.specs.Written.{IsShort, AreShort, spelled}
use Rattle.aml_encode.specs.Appended.{Begins}
use Rattle.aml_encode.proofs.Lists.{begins_on}
use Rattle.aml_encode.proofs.Measuring.{At, Ahead, Over, ahead, over, drop-at, text_of}

-- Of terms those in front of a place are appended.
pub record Appended (ts : List Term) (old : List ℕ) (i : ℕ) (new : List ℕ) : Type 0 where
  pub text : new ++ text_of (drop i ts) ≡ old ++ text_of ts
  pub good : AreGood (views (drop i ts))
  pub whole : AreShort (views (drop i ts)) → AreShort (views ts)
  pub part : AreShort (views ts) → AreShort (views (drop i ts))
  pub kept : Begins old new

-- the first of those that are left is well formed, and so are the others
good_ahead : (ts : List Term) (i : ℕ) (t : Term) → At ts i t → AreGood (views (drop i ts)) → IsGood (view t) × AreGood (views (drop (i + 1) ts))
unfolding AreGood
good_ahead ts i t here good =
    let all : AreGood (views (t ∷ drop (i + 1) ts)) = subst (λ us. AreGood (views us)) (drop-at ts i t here) good in all

pub well_formed : (ts : List Term) (old : List ℕ) (i : ℕ) (new : List ℕ) (t : Term) → At ts i t → Appended ts old i new → IsWellFormed (view t)
well_formed ts old i new t here a = inl (good_ahead ts i t here a.good).0

-- one more is appended
pub one_more : (ts : List Term) (old : List ℕ) (i : ℕ) (new more : List ℕ) (t : Term) → At ts i t → Appended ts old i new
    → more ≡ new ++ spelled (view t) → IsShort (view t) → Appended ts old (i + 1) more
one_more ts old i new more t here a wrote short =
    let next : Ahead ts i t = ahead ts i t here in
    record {
      text =
          ap (λ xs. xs ++ text_of (drop (i + 1) ts)) wrote ∙ append_assoc new (spelled (view t)) (text_of (drop (i + 1) ts))
          ∙ ap (λ xs. new ++ xs) (sym next.text) ∙ a.text;
      good = (good_ahead ts i t here a.good).1;
      whole = λ w. a.whole (next.all_short short w);
      part = λ w. (next.short (a.part w)).1;
      kept = begins_on old new more a.kept (record { rest = spelled (view t); is = wrote });
    }

-- where one that is to come is too long, not all are short
pub not_short : (ts : List Term) (old : List ℕ) (i : ℕ) (new : List ℕ) (t : Term) → At ts i t → Appended ts old i new → ¬ IsShort (view t)
    → ¬ AreShort (views ts)
not_short ts old i new t here a long = λ w. long ((ahead ts i t here).short (a.part w)).0

-- all are appended
pub record AllAppended (ts : List Term) (old new : List ℕ) : Type 0 where
  pub wrote : new ≡ old ++ text_of ts
  pub short : AreShort (views ts)

pub all_appended : (ts : List Term) (old : List ℕ) (i : ℕ) (new : List ℕ) → length ts ≤ i → Appended ts old i new → AllAppended ts old new
all_appended ts old i new past a =
    let o : Over ts i = over ts i past in
    record { wrote = sym (append-nil new) ∙ ap (λ xs. new ++ xs) (sym o.text) ∙ a.text; short = a.whole o.short }
