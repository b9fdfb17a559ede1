-- The values of a package that are kept, and the count that tells how many they are.
use Rattle.std.proofs.Common.{◌≡◌, ℕ, ◌+◌, ◌-◌, ◌≤◌, ◌<◌, List, [], ◌∷◌, ◌++◌, length, map, take, drop, refl, sym, ap, ◌∙◌, arith, length-append}
use Rattle.std.proofs.Common.{append-nil, Bool, true, false, cond, ltb, Ok, Err}
use Rattle.std.proofs.lemmas.List.{take_rest, take_all, take-append-le, map-append}
use borrow.Author.Tests.{ltb-true, ltb-false, eq-eqb, ne_eqb}
use Rattle.aml_terms.specs.declared.fault.AmlFault.TheVariants.{OutsideGrammar}
use Rattle.aml_terms.specs.declared.term.Term.{Term}
use Rattle.aml_terms.specs.Trees.{Tree, pack, trees_of, view, views, count_of}
use Rattle.aml_terms.specs.Reading.{Reader, byte_at, all_in, counted_in, package_in}
use Rattle.aml_decode.specs.declared.values.Kept.{Kept}
use Rattle.aml_decode.specs.Kept.{IsKept}

count_trees : (ts : List Tree) → count_of (trees_of ts) ≡ length ts
count_trees [] = refl
count_trees (t ∷ ts) = let h = count_trees ts in omega arith

-- one more is kept, or only counted
one_kept : (more : Bool) (values : List Term) (t : Term) (trees : List Tree) → ltb (length trees) 255 ≡ more → map view values ≡ take 255 trees
    → map view (values ++ cond more (t ∷ []) []) ≡ take 255 (trees ++ view t ∷ [])
one_kept true values t trees e is =
    let few : length trees < 255 = ltb-true (length trees) 255 e in
    let sized : length (trees ++ view t ∷ []) ≤ 255 = omega (arith, length-append trees (view t ∷ [])) in
    map-append view values (t ∷ []) ∙ ap (λ ts. ts ++ view t ∷ []) (is ∙ take_all 255 trees (omega arith)) ∙ sym (take_all 255 (trees ++ view t ∷ []) sized)
one_kept false values t trees e is =
    map-append view values [] ∙ append-nil (map view values) ∙ is ∙ sym (take-append-le 255 trees (view t ∷ []) (ltb-false (length trees) 255 e))

pub next_kept : (old new : Kept) (t : Term) (trees : List Tree) → IsKept old trees → new.count ≡ old.count + 1
    → new.values ≡ old.values ++ cond (ltb old.count 255) (t ∷ []) [] → IsKept new (trees ++ view t ∷ [])
next_kept old new t trees is counted kept = record {
  counted = omega (arith, is.counted, length-append trees (view t ∷ []));
  first =
      ap (map view) (kept ∙ ap (λ n. old.values ++ cond (ltb n 255) (t ∷ []) []) is.counted)
      ∙ one_kept (ltb (length trees) 255) old.values t trees refl is.first;
}

-- where they are no more than may be in a package, all are kept
all_kept : (kept : Kept) (trees : List Tree) → IsKept kept trees → kept.count ≤ 255 → views kept.values ≡ trees_of trees
all_kept kept trees is few = let sized : length trees ≤ 255 = omega (arith, is.counted) in ap trees_of (is.first ∙ take_all 255 trees sized)

-- the count tells it
pub count_right : (read : Reader Tree) (place count : ℕ) (text : List ℕ) (kept : Kept) (trees : List Tree) → count < 256 → byte_at place text ≡ Ok (count, 1)
    → IsKept kept trees → all_in read (place + 1) (take (length text - 1) (drop 1 text)) ≡ Ok (trees_of trees) → count ≡ kept.count
    → package_in read place text ≡ Ok (pack (views kept.values))
unfolding package_in counted_in
count_right read place count text kept trees fits is are all same =
    let told : count ≡ count_of (trees_of trees) = same ∙ are.counted ∙ sym (count_trees trees) in
    rw (is, ← take_rest text 1, all, eq-eqb count (count_of (trees_of trees)) told) (ap (λ ts. Ok (pack ts)) (sym (all_kept kept trees are (omega arith))))

-- the count doesn't tell it
pub count_wrong : (read : Reader Tree) (place count : ℕ) (text : List ℕ) (kept : Kept) (trees : List Tree) → byte_at place text ≡ Ok (count, 1)
    → IsKept kept trees → all_in read (place + 1) (take (length text - 1) (drop 1 text)) ≡ Ok (trees_of trees) → (count ≡ kept.count → ⊥)
    → package_in read place text ≡ Err (OutsideGrammar place)
unfolding package_in counted_in
count_wrong read place count text kept trees is are all other =
    let untold : count ≡ count_of (trees_of trees) → ⊥ = λ e. other (e ∙ count_trees trees ∙ sym are.counted) in
    rw (is, ← take_rest text 1, all, ne_eqb count (count_of (trees_of trees)) untold) (ap (λ p. Err (OutsideGrammar p)) (omega arith))
