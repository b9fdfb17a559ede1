-- Sums of bytes modulo 256, lane by lane.
use Rattle.std.proofs.Common.{◌≡◌, ℕ, zero, suc, ◌+◌, ◌*◌, ◌%◌, ◌<◌, List, [], ◌∷◌, ◌++◌, length, take, drop, get_or, arith, refl, sym, ap, ap₂, ◌∙◌}
use Rattle.std.proofs.Common.{take-add, zero-add}
use Rattle.std.specs.Prelude.{sum}
use Rattle.std.specs.List.{flat_map}
use Rattle.std.specs.Simd.{first_chunks}
use Rattle.std.specs.Simd.Lanes.{zip2, fold_l}
use Rattle.std.proofs.lemmas.List.{take-append-drop, take_more, flat_map_more}
use Rattle.std.proofs.lemmas.List.Concat.{flat_map-cons}
use Rattle.std.proofs.lemmas.List.Sums.{sum_by-cons, sum_by-append}
use Rattle.vt_bytes.specs.Numbers.{byte_sum}

-- a byte more, and bytes behind others
sum-cons : (x : ℕ) (xs : List ℕ) → sum (x ∷ xs) ≡ x + sum xs
sum-cons x xs = sum_by-cons (λ n. n) x xs

sum-append : (xs ys : List ℕ) → sum (xs ++ ys) ≡ sum xs + sum ys
sum-append xs ys = sum_by-append (λ n. n) xs ys

-- lanes that are added, each modulo 256, sum to what both sum to
added : (xs ys : List ℕ) → length xs ≡ length ys → byte_sum (zip2 (λ a b. (a + b) % 256) xs ys) ≡ (sum xs + sum ys) % 256
added [] [] size = refl
added [] (y ∷ ys) size = absurd (omega (arith, size))
added (x ∷ xs) [] size = absurd (omega (arith, size))
added (x ∷ xs) (y ∷ ys) size =
    let rest = zip2 (λ a b. (a + b) % 256) xs ys in
    omega (arith, sum-cons ((x + y) % 256) rest, sum-cons x xs, sum-cons y ys, added xs ys (omega (arith, size)))

pub lanes_added : (xs ys : List ℕ) → length xs ≡ length ys → byte_sum (zip2 (λ a b. (a + b) % 256) xs ys) ≡ byte_sum (xs ++ ys)
lanes_added xs ys size = added xs ys size ∙ ap (λ n. n % 256) (sym (sum-append xs ys))

-- lanes that are added up one after the other, each modulo 256
added_up : (a : ℕ) (xs : List ℕ) → fold_l (λ s x. (s + x) % 256) (a % 256) xs ≡ (a + sum xs) % 256
added_up a [] = ap (λ n. n % 256) (omega arith)
added_up a (x ∷ xs) =
    let first : (a % 256 + x) % 256 ≡ (a + x) % 256 = omega arith in
    let others : a + x + sum xs ≡ a + sum (x ∷ xs) = omega (arith, sum-cons x xs) in
    ap (λ s. fold_l (λ t y. (t + y) % 256) s xs) first ∙ added_up (a + x) xs ∙ ap (λ n. n % 256) others

pub lanes_summed : (xs : List ℕ) → fold_l (λ s x. (s + x) % 256) 0 xs ≡ byte_sum xs
lanes_summed xs = added_up 0 xs ∙ ap (λ n. n % 256) (zero-add (sum xs))

-- bytes behind others whose sum is known
pub sums_joined : (before now more : List ℕ) → byte_sum before ≡ byte_sum now → byte_sum (before ++ more) ≡ byte_sum (now ++ more)
sums_joined before now more same = omega (arith, sum-append before more, sum-append now more, same)

-- blocks one after the other are the bytes that they were cut from
pub blocks_joined : (size count : ℕ) (bytes : List ℕ) → flat_map (λ (block : List ℕ). block) (first_chunks size count bytes) ≡ take (count * size) bytes
blocks_joined size zero bytes =
    let none : 0 ≡ 0 * size = omega arith in
    ap (λ n. take n bytes) none
blocks_joined size (suc count) bytes =
    let one_more : size + count * size ≡ suc count * size = grind arith in
    flat_map-cons (λ (block : List ℕ). block) (take size bytes) (first_chunks size count (drop size bytes))
    ∙ ap (λ rest. take size bytes ++ rest) (blocks_joined size count (drop size bytes))
    ∙ sym (take-add size (count * size) bytes) ∙ ap (λ n. take n bytes) one_more

-- one block more
pub block_more : (blocks : List (List ℕ)) (index : ℕ) → index < length blocks
    → flat_map (λ (b : List ℕ). b) (take index blocks) ++ get_or blocks index [] ≡ flat_map (λ (b : List ℕ). b) (take (index + 1) blocks)
block_more blocks index within =
    flat_map_more (λ (b : List ℕ). b) [] (take index blocks) (get_or blocks index [])
    ∙ ap (flat_map (λ (b : List ℕ). b)) (sym (take_more blocks index [] within))

-- the sum of the blocks and that of the rest
pub whole_sum : (bytes blocks rest : List ℕ) (count : ℕ) → blocks ≡ take count bytes → rest ≡ drop count bytes
    → (byte_sum blocks + byte_sum rest) % 256 ≡ byte_sum bytes
whole_sum bytes blocks rest count front back =
    let all : sum bytes ≡ sum blocks + sum rest =
    ap sum (sym (take-append-drop count bytes) ∙ ap₂ (λ (a b : List ℕ). a ++ b) (sym front) (sym back)) ∙ sum-append blocks rest in
    omega arith
