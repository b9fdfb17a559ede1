-- The number that the bytes of a field spell fits the field.
use Rattle.std.proofs.Common.{◌≡◌, ℕ, zero, suc, ◌+◌, ◌*◌, ◌^◌, ◌<◌, List, [], ◌∷◌, take, slice_index, arith, ap}
use Rattle.std.proofs.lemmas.Grind.{pow_more}
use Rattle.vt_bytes.specs.Numbers.{le}

-- one byte more is 256 times as many numbers
power_suc : (k : ℕ) → 256 ^ suc k ≡ 256 ^ k * 256
power_suc k =
    let more : 256 ^ (k + 1) ≡ 256 ^ k * 256 = pow_more 256 k in
    let next : suc k ≡ k + 1 = omega arith in
    let same : 256 ^ suc k ≡ 256 ^ (k + 1) = ap (λ j. 256 ^ j) next in
    omega arith

-- the number that a field spells fits as many bytes
pub le-fits : (k : ℕ) (bytes : List ℕ) → ((i : ℕ) → slice_index bytes i < 256) → le (take k bytes) < 256 ^ k
le-fits zero bytes each = omega arith
le-fits (suc k) [] each =
    let power : 256 ^ suc k ≡ 256 ^ k * 256 = power_suc k in
    let rest : le (take {A = ℕ} k []) < 256 ^ k = le-fits k [] each in
    omega arith
le-fits (suc k) (byte ∷ bytes) each =
    let power : 256 ^ suc k ≡ 256 ^ k * 256 = power_suc k in
    let rest : le (take k bytes) < 256 ^ k = le-fits k bytes (λ i. each (suc i)) in
    let first : byte < 256 = each 0 in
    omega arith
