-- What is written, from the terms in a list to the list.
use Rattle.std.proofs.Common.{◌≡◌, ℕ, suc, ◌+◌, ◌≤◌, List, [], ◌∷◌, ◌++◌, length, drop, refl, sym, ap, ◌∙◌, append-nil, append_assoc}
use Rattle.aml_terms.specs.declared.term.Term.{Term}
use Rattle.aml_terms.specs.Trees.{count_of, view, views}
use Rattle.aml_terms.specs.Written.{IsShort, AreShort, spelled}
use Rattle.aml_encode.specs.Appended.{Begins}
use Rattle.aml_encode.specs.Bodies.{bodies}
use Rattle.aml_encode.specs.Writable.{IsWritable, AreWritable}
use Rattle.aml_encode.proofs.Lists.{cancelled, begins_on}
use Rattle.aml_encode.proofs.Measuring.{At, Ahead, ahead, Over, over, text_of, sizes_of}

pub count_views : (ts : List Term) → count_of (views ts) ≡ length ts
count_views [] = refl
count_views (t ∷ ts) = ap suc (count_views ts)

-- Of terms those in front of a place are written.
pub record Partway (ts : List Term) (listed old : List ℕ) (i : ℕ) (sizes new : List ℕ) : Type 0 where
  pub behind : List ℕ
  pub all : listed ≡ sizes_of ts ++ behind
  pub left : sizes ≡ sizes_of (drop i ts) ++ behind
  pub text : new ++ text_of (drop i ts) ≡ old ++ text_of ts
  pub good : AreWritable (views (drop i ts))
  pub short : AreShort (views (drop i ts))
  pub kept : Begins old new

-- the sizes begin with those of the next one
sizes_ahead : (ts : List Term) (i : ℕ) (t : Term) (sizes behind : List ℕ) → Ahead ts i t → sizes ≡ sizes_of (drop i ts) ++ behind
    → sizes ≡ bodies (view t) ++ (sizes_of (drop (i + 1) ts) ++ behind)
sizes_ahead ts i t sizes behind a left =
    left ∙ ap (λ xs. xs ++ behind) a.sizes ∙ append_assoc (bodies (view t)) (sizes_of (drop (i + 1) ts)) behind

-- the next one can be written
pub record CanWrite (sizes : List ℕ) (t : Term) : Type 0 where
  pub good : IsWritable (view t)
  pub short : IsShort (view t)
  pub listed : Begins (bodies (view t)) sizes

pub can_write : (ts : List Term) (listed old : List ℕ) (i : ℕ) (sizes new : List ℕ) (t : Term) → At ts i t
    → Partway ts listed old i sizes new → CanWrite sizes t
can_write ts listed old i sizes new t here p =
    let a : Ahead ts i t = ahead ts i t here in
    record {
      good = (a.good p.good).0;
      short = (a.short p.short).0;
      listed = record { rest = sizes_of (drop (i + 1) ts) ++ p.behind; is = sizes_ahead ts i t sizes p.behind a p.left };
    }

-- one more is written
pub partway_more : (ts : List Term) (listed old : List ℕ) (i : ℕ) (sizes new left more : List ℕ) (t : Term) → At ts i t
    → Partway ts listed old i sizes new → more ≡ new ++ spelled (view t) → sizes ≡ bodies (view t) ++ left → Begins new more
    → Partway ts listed old (i + 1) left more
partway_more ts listed old i sizes new left more t here p wrote taken kept =
    let a : Ahead ts i t = ahead ts i t here in
    let others : List ℕ = sizes_of (drop (i + 1) ts) ++ p.behind in
    record {
      behind = p.behind;
      all = p.all;
      left = cancelled (bodies (view t)) left others (sym taken ∙ sizes_ahead ts i t sizes p.behind a p.left);
      text =
          ap (λ xs. xs ++ text_of (drop (i + 1) ts)) wrote ∙ append_assoc new (spelled (view t)) (text_of (drop (i + 1) ts))
          ∙ ap (λ xs. new ++ xs) (sym a.text) ∙ p.text;
      good = (a.good p.good).1;
      short = (a.short p.short).1;
      kept = begins_on old new more p.kept kept;
    }

-- all are written
pub record AllWritten (ts : List Term) (listed old sizes new : List ℕ) : Type 0 where
  pub wrote : new ≡ old ++ text_of ts
  pub taken : listed ≡ sizes_of ts ++ sizes

pub partway_all : (ts : List Term) (listed old : List ℕ) (i : ℕ) (sizes new : List ℕ) → length ts ≤ i
    → Partway ts listed old i sizes new → AllWritten ts listed old sizes new
partway_all ts listed old i sizes new past p =
    let o : Over ts i = over ts i past in
    let behind : sizes ≡ p.behind = p.left ∙ ap (λ xs. xs ++ p.behind) o.sizes in
    record {
      wrote = sym (append-nil new) ∙ ap (λ xs. new ++ xs) (sym o.text) ∙ p.text;
      taken = p.all ∙ ap (λ xs. sizes_of ts ++ xs) (sym behind);
    }
