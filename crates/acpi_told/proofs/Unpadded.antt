-- A text without the spaces at its end, byte by byte.
use Rattle.std.proofs.Common.{◌≡◌, ℕ, ◌+◌, ◌<◌, ◌==◌, true, false, cond, List, [], ◌∷◌, ◌++◌, length, take, get_or, ap, sym, ◌∙◌}
use Rattle.std.proofs.Math.Seq.{take-suc}
use Rattle.std.proofs.lemmas.Bool.{ne_eqb}
use Rattle.acpi_model.specs.Maker.{in_front, unpadded}
use Rattle.acpi_told.proofs.OneMore.{next_number}

-- bytes that end in another byte than a space are such a text, and a space behind bytes doesn't count
other_last : (bytes : List ℕ) (last : ℕ) → (last == 0x20) ≡ false → unpadded (bytes ++ last ∷ []) ≡ bytes ++ last ∷ []
other_last [] last other = ap (λ is. cond is [] (last ∷ [])) other
other_last (first ∷ []) last other = ap (in_front first) (other_last [] last other)
other_last (first ∷ second ∷ bytes) last other = ap (in_front first) (other_last (second ∷ bytes) last other)

space_last : (bytes : List ℕ) (last : ℕ) → (last == 0x20) ≡ true → unpadded (bytes ++ last ∷ []) ≡ unpadded bytes
space_last [] last space = ap (λ is. cond is [] (last ∷ [])) space
space_last (first ∷ bytes) last space = ap (in_front first) (space_last bytes last space)

-- so of a front with one more byte
next_front : (all : List ℕ) (place : ℕ) → place < length all → take (place + 1) all ≡ take place all ++ get_or all place 0 ∷ []
next_front all place within = ap (λ n. take n all) (next_number place) ∙ take-suc all place 0 within

pub other_next : (all : List ℕ) (place : ℕ) → place < length all → (get_or all place 0 ≡ 0x20 → ⊥)
    → take (place + 1) all ≡ unpadded (take (place + 1) all)
other_next all place within other =
    sym (ap unpadded (next_front all place within)
    ∙ other_last (take place all) (get_or all place 0) (ne_eqb (get_or all place 0) 0x20 other) ∙ sym (next_front all place within))

pub space_next : (all : List ℕ) (place : ℕ) → place < length all → get_or all place 0 ≡ 0x20
    → unpadded (take place all) ≡ unpadded (take (place + 1) all)
space_next all place within space =
    sym (ap unpadded (next_front all place within) ∙ space_last (take place all) (get_or all place 0) (ap (λ n. n == 0x20) space))
