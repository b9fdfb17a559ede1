-- Lists of bytes, and the numbers that they spell.
use Rattle.std.proofs.Common.{◌≡◌, ℕ, suc, ◌*◌, ◌^◌, ◌<◌, List, [], ◌∷◌, ◌++◌, length, subst, arith}
use Rattle.std.specs.List.{AllByRecursion}
use Rattle.std.proofs.Math.Nat.{pow-succ'}
use Rattle.vt_bytes.specs.Numbers.{le}

-- each number is that of a byte
abbrev pub AreBytes : List ℕ → Type 0
AreBytes = AllByRecursion (λ byte. byte < 256)

both_bytes : (first rest : List ℕ) → AreBytes (first ++ rest) → AreBytes first × AreBytes rest
both_bytes [] rest h = (tt, h)
both_bytes (b ∷ first) rest h =
    let others : AreBytes first × AreBytes rest = both_bytes first rest h.1 in
    ((h.0, others.0), others.1)

-- both parts of bytes are bytes
pub parts_of_bytes : (bytes first rest : List ℕ) → bytes ≡ first ++ rest → AreBytes bytes → AreBytes first × AreBytes rest
parts_of_bytes bytes first rest is h = both_bytes first rest (subst AreBytes is h)

-- a first byte, and what is behind it
pub byte_and_rest : (bytes : List ℕ) (byte : ℕ) (rest : List ℕ) → bytes ≡ byte ∷ rest → AreBytes bytes → (byte < 256) × AreBytes rest
byte_and_rest bytes byte rest is h = subst AreBytes is h

-- bytes spell a number that they have room for
pub le-below : (bytes : List ℕ) → AreBytes bytes → le bytes < 256 ^ length bytes
le-below [] h = omega arith
le-below (b ∷ bytes) h =
    let below : le bytes < 256 ^ length bytes = le-below bytes h.1 in
    let power : 256 ^ suc (length bytes) ≡ 256 * 256 ^ length bytes = pow-succ' 256 (length bytes) in
    rw power (omega (arith, h.0))
