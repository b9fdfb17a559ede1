-- Strings in bytes, each with its NUL (DMTF DSP0134, version 3.0.0, 6.1.3).
use Rattle.std.specs.Prelude.{◌≡◌, ℕ, List, [], ◌∷◌, length, ◌==◌, if◌then◌else◌}
use Rattle.vt_layout.specs.Strings.{with_nuls}

-- strings with a byte in front of the first
abbrev pub with_first : ℕ → List (List ℕ) → List (List ℕ)
with_first byte [] = (byte ∷ []) ∷ []
with_first byte (text ∷ texts) = (byte ∷ text) ∷ texts

-- the strings in bytes: a NUL ends each
unfoldable pub cut_at_nuls : List ℕ → List (List ℕ)
cut_at_nuls [] = []
cut_at_nuls (byte ∷ bytes) = if byte == 0 then [] ∷ cut_at_nuls bytes else with_first byte (cut_at_nuls bytes)

-- the bytes are so many strings, each with its NUL
pub record AreStringsIn (bytes : List ℕ) (count : ℕ) : Type 0 where
  pub spelled : bytes ≡ with_nuls (cut_at_nuls bytes)
  pub counted : count ≡ length (cut_at_nuls bytes)
