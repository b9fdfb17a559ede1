use Rattle.std.proofs.Common.{◌+◌, ◌<◌, ◌≤◌, ℕ, List, length, take, drop, slice_index, arith}
use Rattle.std.proofs.lemmas.List.{places}
use Rattle.vt_bytes.specs.Numbers.{be}
use Rattle.vt_bytes.proofs.Numbers.{be_more}
use Rattle.cfg_dma.proofs.descriptor.number_at.Goals as goal

index-dropped : (bytes : List ℕ) (at k : ℕ) → ((i : ℕ) → slice_index bytes i < 256) → slice_index (drop at bytes) k < 256
index-dropped bytes at k each = let there : slice_index bytes (at + k) < 256 = each (at + k) in grind (arith, places)

-- four bytes spell a number below 2 ^ 32
be-four : (bytes : List ℕ) → 4 ≤ length bytes → ((i : ℕ) → slice_index bytes i < 256) → be (take 4 bytes) < 4294967296
be-four bytes within each =
    omega (
      arith,
      be_more bytes 0 (omega arith),
      be_more bytes 1 (omega arith),
      be_more bytes 2 (omega arith),
      be_more bytes 3 (omega arith),
      each 0,
      each 1,
      each 2,
      each 3,
    )

pub overflow_cast-result : goal.overflow_cast-result
overflow_cast-result c =
    let within : 4 ≤ length (drop c.args.at c.args.bytes.now) = grind (arith, places) in
    omega (
      arith,
      be-four (drop c.args.at c.args.bytes.now) within (λ k. index-dropped c.args.bytes.now c.args.at k (λ i. (c.type_inv.bytes i).fits)),
      c.get_be.ensures,
    )
