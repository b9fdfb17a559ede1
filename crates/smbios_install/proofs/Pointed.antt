-- Bytes whose number was blanked, and then had a place added.
use Rattle.std.proofs.Common.{◌≡◌, ℕ, zero, suc, ◌+◌, ◌^◌, ◌<◌, ◌≤◌, ◌⊎◌, inl, inr, List, length, replicate, refl, ap, sym, ◌∙◌, arith}
use Rattle.std.proofs.lemmas.List.{length-replicate}
use Rattle.vt_bytes.specs.Numbers.{le, le_bytes}
use Rattle.vt_bytes.specs.Parts.{part, put_at}
use Rattle.vt_bytes.proofs.Numbers.{le-le_bytes, length-le_bytes}
use Rattle.vt_bytes.proofs.PutAt.{length-put_at}
use Rattle.smbios_install.proofs.Bytes.{part-put, part-beside_put}
use Rattle.smbios_install.proofs.Placed.{pointed}

-- The bytes tell the place in their number, and are what they were beside it.
pub record TellsPlace (bytes : List ℕ) (at size place : ℕ) (now : List ℕ) : Type 0 where
  pub same_size : length now ≡ length bytes
  pub number : le (part now at size) ≡ place
  pub beside : (from count : ℕ) → (from + count ≤ at) ⊎ (at + size ≤ from) → part now from count ≡ part bytes from count

le-zeros : (size : ℕ) → le (replicate size 0) ≡ 0
le-zeros zero = refl
le-zeros (suc size) = omega (arith, le-zeros size)

-- what is put at a place of a size
part_of_put : (bytes : List ℕ) (at size : ℕ) (piece : List ℕ) → length piece ≡ size → at + size ≤ length bytes → part (put_at bytes at piece) at size ≡ piece
part_of_put bytes at size piece long within =
    ap (part (put_at bytes at piece) at) (sym long) ∙ part-put bytes at piece (omega arith)

beside_of_put : (bytes : List ℕ) (at size : ℕ) (piece : List ℕ) (from count : ℕ) → length piece ≡ size → at + size ≤ length bytes
    → (from + count ≤ at) ⊎ (at + size ≤ from) → part (put_at bytes at piece) from count ≡ part bytes from count
beside_of_put bytes at size piece from count long within beside =
    part-beside_put bytes at piece from count (omega arith)
    (elim beside as (λ _. (from + count ≤ at) ⊎ (at + length piece ≤ from)) [ inl before ↦ inl before | inr behind ↦ inr (omega arith) ])

-- the number of the blanked bytes is zero
pub blank_number : (bytes : List ℕ) (at size : ℕ) → at + size ≤ length bytes → le (part (put_at bytes at (replicate size 0)) at size) ≡ 0
blank_number bytes at size within =
    ap le (part_of_put bytes at size (replicate size 0) (length-replicate size 0) within) ∙ le-zeros size

pub tells_place : (bytes : List ℕ) (at size place : ℕ) → at + size ≤ length bytes → place < 256 ^ size
    → TellsPlace bytes at size place (pointed (put_at bytes at (replicate size 0)) at size place)
tells_place bytes at size place within fits =
    let blanks = put_at bytes at (replicate size 0) in
    let zeros : length (replicate {A = ℕ} size 0) ≡ size = length-replicate size 0 in
    let long : length blanks ≡ length bytes = length-put_at bytes at (replicate size 0) (omega arith) in
    let number : le (part blanks at size) + place ≡ place = omega (arith, blank_number bytes at size within) in
    let piece = le_bytes size (le (part blanks at size) + place) in
    let wide : length piece ≡ size = length-le_bytes size (le (part blanks at size) + place) in
    let blanks_within : at + size ≤ length blanks = omega arith in
    record {
      same_size = length-put_at blanks at piece (omega arith) ∙ long;
      number = ap le (part_of_put blanks at size piece wide blanks_within)
          ∙ ap (λ n. le (le_bytes size n)) number ∙ le-le_bytes size place fits;
      beside = λ from count beside. beside_of_put blanks at size piece from count wide blanks_within beside
          ∙ beside_of_put bytes at size (replicate size 0) from count zeros within beside;
    }
