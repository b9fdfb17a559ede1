-- What is measured, from the terms in a package to the package.
use Rattle.std.proofs.Common.{◌≡◌, ℕ, zero, suc, ◌+◌, ◌/◌, ◌<◌, ◌≤◌, List, [], ◌∷◌, ◌++◌, length, drop, get_or, drop-cons, add-one, Ok, Err}
use Rattle.std.proofs.Common.{refl, sym, ap, ◌∙◌, subst, arith, length-append, append-nil, append_assoc}
use Rattle.std.proofs.lemmas.List.{drop_all}
use Rattle.vt_bytes.specs.Numbers.{le_bytes}
use Rattle.vt_bytes.proofs.Numbers.{length-le_bytes}
use Rattle.aml_terms.specs.declared.term.Term.{Term}
use Rattle.aml_terms.specs.Trees.{view, views, no_trees}
use Rattle.aml_terms.specs.Written.{IsShort, AreShort, length_with, more_for, package_length, spelled, all_spelled, all_written, most_enclosed}
use Rattle.aml_terms.proofs.BytesOfParts.{all_spelled-tree}
use Rattle.aml_encode.specs.declared.fault.TermFault.{TermFault}
use Rattle.aml_encode.specs.declared.fault.TermFault.TheVariants.{TermTooLong, OutOfMemory}
use Rattle.aml_encode.specs.Bodies.{bodies, all_bodies}
use Rattle.aml_encode.specs.Measured.{MeasuredBody, MeasuredTerm, Refuses, Summed, IsShortBody, size_with}
use Rattle.aml_encode.specs.Writable.{IsWritable, AreWritable}

length-length_with : (more total : ℕ) → length (length_with more total) ≡ more + 1
length-length_with zero total = refl
length-length_with (suc more) total =
    let size : length (le_bytes (suc more) (total / 16)) ≡ suc more = length-le_bytes (suc more) (total / 16) in
    omega arith

pub package_length_size : (body : ℕ) → length (package_length body) ≡ more_for body + 1
unfolding package_length
package_length_size body = length-length_with (more_for body) (body + (more_for body + 1))

-- a fault of a part is one of the whole
pub refuses_all : (Short All : Type 0) (fault : TermFault) → (All → Short) → Refuses Short fault → Refuses All fault
refuses_all Short All TermTooLong part refused = λ all. refused (part all)
refuses_all Short All OutOfMemory part refused = tt

-- an item of a list, at its place
pub record At (ts : List Term) (i : ℕ) (t : Term) : Type 0 where
  pub within : i < length ts
  pub is : t ≡ get_or ts i t

-- it is the first of those from its place on
pub drop-at : (ts : List Term) (i : ℕ) (t : Term) → At ts i t → drop i ts ≡ t ∷ drop (i + 1) ts
drop-at ts i t here =
    let within : i < length ts = here.within in
    rw (add-one, drop-cons ts i t) (ap (λ x. x ∷ drop (suc i) ts) (sym here.is))

-- terms as they are spelled, and the sizes of the bodies in them
abbrev pub text_of : List Term → List ℕ
text_of ts = all_spelled (views ts)

abbrev pub sizes_of : List Term → List ℕ
sizes_of ts = all_bodies (views ts)

-- the terms from a place on, by the first of them and the others
pub record Ahead (ts : List Term) (i : ℕ) (t : Term) : Type 0 where
  pub text : text_of (drop i ts) ≡ spelled (view t) ++ text_of (drop (i + 1) ts)
  pub size : length (text_of (drop i ts)) ≡ length (spelled (view t)) + length (text_of (drop (i + 1) ts))
  pub sizes : sizes_of (drop i ts) ≡ bodies (view t) ++ sizes_of (drop (i + 1) ts)
  pub good : AreWritable (views (drop i ts)) → IsWritable (view t) × AreWritable (views (drop (i + 1) ts))
  pub short : AreShort (views (drop i ts)) → IsShort (view t) × AreShort (views (drop (i + 1) ts))
  pub all_short : IsShort (view t) → AreShort (views (drop (i + 1) ts)) → AreShort (views (drop i ts))

pub ahead : (ts : List Term) (i : ℕ) (t : Term) → At ts i t → Ahead ts i t
unfolding AreShort
ahead ts i t here =
    let d : drop i ts ≡ t ∷ drop (i + 1) ts = drop-at ts i t here in
    let text : text_of (drop i ts) ≡ spelled (view t) ++ text_of (drop (i + 1) ts) =
    ap text_of d ∙ all_spelled-tree (view t) (views (drop (i + 1) ts)) in
    record {
      text = text;
      size = ap length text ∙ length-append (spelled (view t)) (text_of (drop (i + 1) ts));
      sizes = ap sizes_of d;
      good = λ w. let all : AreWritable (views (t ∷ drop (i + 1) ts)) = subst (λ us. AreWritable (views us)) d w in all;
      short = λ w. let all : AreShort (views (t ∷ drop (i + 1) ts)) = subst (λ us. AreShort (views us)) d w in all;
      all_short = λ s w. let all : AreShort (views (t ∷ drop (i + 1) ts)) = (s, w) in subst (λ us. AreShort (views us)) (sym d) all;
    }

-- no terms are spelled by no bytes
all_spelled-none : all_spelled no_trees ≡ []
unfolding all_written
all_spelled-none = refl

-- none is left
pub record Over (ts : List Term) (i : ℕ) : Type 0 where
  pub text : text_of (drop i ts) ≡ []
  pub sizes : sizes_of (drop i ts) ≡ []
  pub short : AreShort (views (drop i ts))

pub over : (ts : List Term) (i : ℕ) → length ts ≤ i → Over ts i
unfolding AreShort
over ts i past =
    let none : drop i ts ≡ [] = drop_all i ts past in
    let short : AreShort (views []) = tt in
    record {
      text = ap text_of none ∙ all_spelled-none;
      sizes = ap sizes_of none;
      short = subst (λ us. AreShort (views us)) (sym none) short;
    }

-- Of terms that a package encloses behind so many bytes, those in front of a place are measured.
pub record Halfway (front : ℕ) (ts : List Term) (old : List ℕ) (i body : ℕ) (sizes : List ℕ) : Type 0 where
  pub size : body + length (text_of (drop i ts)) ≡ front + length (text_of ts)
  pub listed : sizes ++ sizes_of (drop i ts) ≡ old ++ sizes_of ts
  pub few : body ≤ most_enclosed
  pub good : AreWritable (views (drop i ts))
  pub whole : AreShort (views (drop i ts)) → AreShort (views ts)
  pub part : AreShort (views ts) → AreShort (views (drop i ts))

-- one more is measured
pub halfway_more : (front : ℕ) (ts : List Term) (old : List ℕ) (i body : ℕ) (sizes new : List ℕ) (t : Term) (found sum : ℕ)
    → At ts i t → Halfway front ts old i body sizes → MeasuredTerm (view t) sizes new (Ok found) → Summed (body + found) (Ok sum)
    → Halfway front ts old (i + 1) sum new
halfway_more front ts old i body sizes new t found sum here h m s =
    let a : Ahead ts i t = ahead ts i t here in
    let exact : found ≡ length (spelled (view t)) = omega (arith, m.0, s.0, s.1) in
    record {
      size = omega (arith, a.size, h.size, s.0);
      listed =
          ap (λ xs. xs ++ sizes_of (drop (i + 1) ts)) m.1 ∙ append_assoc sizes (bodies (view t)) (sizes_of (drop (i + 1) ts))
          ∙ ap (λ xs. sizes ++ xs) (sym a.sizes) ∙ h.listed;
      few = omega (arith, s.0, s.1);
      good = (a.good h.good).1;
      whole = λ w. h.whole (a.all_short m.2 w);
      part = λ w. (a.short (h.part w)).1;
    }

-- one more is too much
pub halfway_off : (fault : TermFault) (front : ℕ) (ts : List Term) (old : List ℕ) (i body : ℕ) (sizes new : List ℕ) (t : Term) (found : ℕ)
    → At ts i t → Halfway front ts old i body sizes → MeasuredTerm (view t) sizes new (Ok found) → Summed (body + found) (Err fault)
    → Refuses (IsShortBody (size_with front (views ts)) (views ts)) fault
halfway_off TermTooLong front ts old i body sizes new t found here h m s =
    let a : Ahead ts i t = ahead ts i t here in
    λ w. absurd (omega (arith, a.size, h.size, m.0, s, w.0))
halfway_off OutOfMemory front ts old i body sizes new t found here h m s = absurd s

-- all are measured
pub halfway_all : (front : ℕ) (ts : List Term) (old : List ℕ) (i body : ℕ) (sizes : List ℕ) → length ts ≤ i
    → Halfway front ts old i body sizes → MeasuredBody (size_with front (views ts)) (views ts) old sizes (Ok body)
halfway_all front ts old i body sizes past h =
    let o : Over ts i = over ts i past in
    let all : body ≡ front + length (text_of ts) = omega (arith, h.size, ap length o.text) in
    let listed : sizes ≡ old ++ sizes_of ts = sym (append-nil sizes) ∙ ap (λ xs. sizes ++ xs) (sym o.sizes) ∙ h.listed in
    (all, listed, (omega (arith, all, h.few), h.whole o.short))
