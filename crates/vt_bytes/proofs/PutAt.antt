-- Bytes that are put at a place of others: how many there are then, those that were put, and the others.
use Rattle.std.proofs.Common.{◌≡◌, ℕ, ◌+◌, ◌<◌, ◌≤◌, ◌⊎◌, List, [], ◌++◌, length, slice_index, take, drop, arith, ap, ◌∙◌, add-zero}
use Rattle.std.proofs.lemmas.List.{places, take-append-drop, append-nil}
use Rattle.vt_bytes.specs.Parts.{put_at}

pub length-put_at : (bytes : List ℕ) (place : ℕ) (piece : List ℕ) → place + length piece ≤ length bytes
    → length (put_at bytes place piece) ≡ length bytes
length-put_at bytes place piece within = grind (arith, places)

pub index-put_at : (bytes : List ℕ) (place : ℕ) (piece : List ℕ) (i : ℕ) → place + length piece ≤ length bytes → i < length piece
    → slice_index (put_at bytes place piece) (place + i) ≡ slice_index piece i
index-put_at bytes place piece i within below = grind (arith, places)

pub index-beside_put : (bytes : List ℕ) (place : ℕ) (piece : List ℕ) (k : ℕ) → place + length piece ≤ length bytes
    → (k < place) ⊎ (place + length piece ≤ k) → slice_index (put_at bytes place piece) k ≡ slice_index bytes k
index-beside_put bytes place piece k within beside = grind (arith, places)

pub put_at-none : (bytes : List ℕ) (place : ℕ) → put_at bytes place [] ≡ bytes
put_at-none bytes place =
    ap (λ front. front ++ drop (place + 0) bytes) (append-nil (take place bytes)) ∙ ap (λ from. take place bytes ++ drop from bytes) (add-zero place)
    ∙ take-append-drop place bytes
