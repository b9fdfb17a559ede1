-- The sizes of paths.
use Rattle.std.proofs.Common.{◌≡◌, ℕ, suc, ◌*◌, Bool, List, [], ◌∷◌, length, refl, ap, arith, length-append}
use Rattle.std.specs.List.{AllByRecursion}
use Rattle.aml_terms.specs.Paths.{HasShape, IsSegment, joined, segment_shape}

shape_size : (shape : List (ℕ → Bool)) (s : List ℕ) → HasShape shape s → length s ≡ length shape
shape_size [] [] h = refl
shape_size [] (c ∷ cs) h = absurd h
shape_size (is ∷ shape) [] h = absurd h
shape_size (is ∷ shape) (c ∷ cs) h = ap suc (shape_size shape cs h.1)

pub joined_size : (ss : List (List ℕ)) → AllByRecursion IsSegment ss → length (joined ss) ≡ 4 * length ss
joined_size [] h = refl
joined_size (s ∷ ss) h =
    let four : length s ≡ 4 = shape_size segment_shape s h.0 in
    let rest : length (joined ss) ≡ 4 * length ss = joined_size ss h.1 in
    omega (arith, length-append s (joined ss))
