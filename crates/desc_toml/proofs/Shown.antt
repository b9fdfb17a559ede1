-- The bytes of a key that are shown.
use Rattle.std.proofs.Common.{◌≡◌, ℕ, ◌≤◌, List, length, map, take, take_all, refl, sym, ap, ◌∙◌, arith}
use Rattle.desc_toml.specs.Lines.{shown_byte, shown}

-- a key's bytes up to a place are shown: the place is the 64th, or the key ends there
pub shown_to_64 : (key bytes : List ℕ) (place : ℕ) → bytes ≡ map shown_byte (take place key) → place ≡ 64 → bytes ≡ shown key
shown_to_64 key bytes place is last = rw (is, last) refl

pub shown_to_end : (key bytes : List ℕ) (place : ℕ) → bytes ≡ map shown_byte (take place key) → length key ≤ place → place ≤ 64 → bytes ≡ shown key
shown_to_end key bytes place is end within =
    let here : take place key ≡ key = take_all place key end in
    let all : take 64 key ≡ key = take_all 64 key (omega (arith, end, within)) in
    is ∙ ap (map shown_byte) (here ∙ sym all)
