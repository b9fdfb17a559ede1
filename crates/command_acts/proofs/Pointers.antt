-- A number of a placed file that gets a place added.
use Rattle.std.proofs.Common.{◌≡◌, ℕ, ◌+◌, ◌<◌, ◌≤◌, List, length, Some, Result, Ok, Err, IsErr, OnOk, OnErr, ◌↔◌, inl, inr, arith, refl, ap, ap₂}
use Rattle.std.proofs.Common.{subst, sym, ◌∙◌}
use Rattle.std.specs.Option.{option_map_or}
use Rattle.std.proofs.lemmas.Bool.{cases_lt, true≢false}
use Rattle.std.proofs.lemmas.Option.{same_Some}
use Rattle.vt_bytes.specs.Numbers.{le, le_bytes}
use Rattle.vt_bytes.specs.Memory.{Memory, IsRamRange, bytes_at, with_bytes, Puts}
use Rattle.command_acts.specs.declared.placed.PlacedFile.{PlacedFile}
use Rattle.loader_script.specs.Run.{Placed, placed_with, pointer_sum, with_pointer}
use Rattle.command_acts.specs.FilesInMemory.{placed_named, place_of, placed_in, files_in, pointed, ArePlaced, Stays, CanPoint}
use Rattle.command_acts.proofs.NamedInMemory.{found_in}
use Rattle.command_acts.proofs.Placings.{standing, there_standing}
use Rattle.vt_bytes.proofs.Bytes.{length-bytes_at, part-bytes_at}
use Rattle.vt_bytes.proofs.Numbers.{length-le_bytes}
use Rattle.vt_bytes.specs.Parts.{part, put_at}
use Rattle.command_acts.proofs.Writes.{ram_part}
use Rattle.command_acts.proofs.PlacedFiles.{IsWrite, found_is_placed, file_written, stays_written}
use Rattle.command_acts.proofs.Patches.{sum_of, with_pointer-is}

-- a sum fits where adding it gave no error, and doesn't where it gave one
pub fits_from : {A E : Type 0} (r : Result A E) (limit number sum : ℕ) → (IsErr r ↔ (limit ≤ number)) → number ≡ sum → OnOk r (sum < limit)
fits_from (Ok x) limit number sum far is =
    elim (cases_lt sum limit) as (λ _. sum < limit) [ inl below ↦ below | inr above ↦ absurd (true≢false (sym (far.1 (omega (arith, is))))) ]
fits_from (Err e) limit number sum far is = tt

pub far_from : {A E : Type 0} (r : Result A E) (limit number sum : ℕ) → (IsErr r ↔ (limit ≤ number)) → number ≡ sum → OnErr r (limit ≤ sum)
far_from (Ok x) limit number sum far is = tt
far_from (Err e) limit number sum far is = omega (arith, far.0 refl, is)

-- what follows where there is a value
pub OnOk-map : {A E : Type 0} {P Q : Type 0} (r : Result A E) → (P → Q) → OnOk r P → OnOk r Q
OnOk-map (Ok x) then said = then said
OnOk-map (Err e) then said = tt

-- the files of a pointer that can be added, as they are placed
pub record IsPointer (m : Memory) (placed : List PlacedFile) (dest src : List ℕ) (offset size : ℕ) (p s : PlacedFile) : Type 0 where
  pub apart : ArePlaced m.top placed
  pub dest_is : placed_named placed dest ≡ Some p
  pub src_is : placed_named placed src ≡ Some s
  pub can : CanPoint (files_in m placed) dest src offset size

-- they are known by their names and their places
pub pointer_stands : (m : Memory) (placed : List PlacedFile) (dest src : List ℕ) (offset size to from : ℕ) → ArePlaced m.top placed
    → CanPoint (files_in m placed) dest src offset size → to ≡ place_of placed dest → from ≡ place_of placed src
    → IsPointer m placed dest src offset size (standing placed dest to) (standing placed src from)
pointer_stands m placed dest src offset size to from apart can dest_at src_at = record {
  apart = apart;
  dest_is = there_standing m placed dest to can.d can.found dest_at;
  src_is = there_standing m placed src from can.s can.source_found src_at;
  can = can;
}

-- the number is in its file
pub number_within : (m : Memory) (placed : List PlacedFile) (dest src : List ℕ) (offset size : ℕ) (p s : PlacedFile)
    → IsPointer m placed dest src offset size p s → offset + size ≤ p.size
number_within m placed dest src offset size p s pointer =
    let is : pointer.can.d ≡ placed_in m p =
    same_Some pointer.can.d (placed_in m p) (sym pointer.can.found ∙ found_in m placed dest p pointer.dest_is) in
    omega (arith, subst (λ (d : Placed). offset + size ≤ length d.bytes) is pointer.can.within, length-bytes_at m p.place p.size)

-- and in RAM
pub pointer_ram : (m : Memory) (placed : List PlacedFile) (dest src : List ℕ) (offset size field : ℕ) (p s : PlacedFile) → field ≡ p.place + offset
    → IsPointer m placed dest src offset size p s → IsRamRange m.top field size
pointer_ram m placed dest src offset size field p s field_is pointer =
    subst (λ a. IsRamRange m.top a size) (sym field_is)
    (ram_part m.top p.place p.size offset size (found_is_placed m.top placed dest p pointer.dest_is pointer.apart).0
    (number_within m placed dest src offset size p s pointer))

-- the number's bytes, in its file and in memory
number_bytes : (m : Memory) (placed : List PlacedFile) (dest src : List ℕ) (offset size field : ℕ) (p s : PlacedFile) → field ≡ p.place + offset
    → IsPointer m placed dest src offset size p s → part (bytes_at m p.place p.size) offset size ≡ bytes_at m field size
number_bytes m placed dest src offset size field p s field_is pointer =
    part-bytes_at m p.place p.size offset size (number_within m placed dest src offset size p s pointer) ∙ ap (λ a. bytes_at m a size) (sym field_is)

-- what is added up in memory is the sum of the command
pub pointer_number : (m : Memory) (placed : List PlacedFile) (dest src : List ℕ) (offset size field : ℕ) (p s : PlacedFile) → field ≡ p.place + offset
    → IsPointer m placed dest src offset size p s → le (bytes_at m field size) + s.place ≡ pointer_sum (files_in m placed) dest src offset size
pointer_number m placed dest src offset size field p s field_is pointer =
    ap (λ bytes. le bytes + s.place) (sym (number_bytes m placed dest src offset size field p s field_is pointer))
    ∙ sym (sum_of (files_in m placed) dest src offset size (placed_in m p) (placed_in m s)
    (found_in m placed dest p pointer.dest_is) (found_in m placed src s pointer.src_is))

-- the write of the sum is one in the file
pub pointer_write : (m new : Memory) (placed : List PlacedFile) (dest src : List ℕ) (offset size field : ℕ) (p s : PlacedFile)
    → field ≡ p.place + offset → IsPointer m placed dest src offset size p s
    → Puts m new field (le_bytes size (le (bytes_at m field size) + s.place))
    → IsWrite m new p offset (le_bytes size (le (bytes_at m field size) + s.place))
pointer_write m new placed dest src offset size field p s field_is pointer puts = record {
  puts = subst (λ a. Puts m new a (le_bytes size (le (bytes_at m field size) + s.place))) field_is puts;
  within = omega (arith, number_within m placed dest src offset size p s pointer, length-le_bytes size (le (bytes_at m field size) + s.place));
}

-- and gives the files that the command gives
pub pointer_after : (m new : Memory) (placed : List PlacedFile) (dest src : List ℕ) (offset size field : ℕ) (p s : PlacedFile)
    → field ≡ p.place + offset → IsPointer m placed dest src offset size p s
    → Puts m new field (le_bytes size (le (bytes_at m field size) + s.place)) → files_in new placed ≡ with_pointer dest src offset size (files_in m placed)
pointer_after m new placed dest src offset size field p s field_is pointer puts =
    let write = pointer_write m new placed dest src offset size field p s field_is pointer puts in
    file_written m new placed dest p offset (le_bytes size (le (bytes_at m field size) + s.place)) pointer.dest_is pointer.apart write
    ∙ ap (λ bytes. placed_with (files_in m placed) dest (put_at (bytes_at m p.place p.size) offset (le_bytes size (le bytes + s.place))))
    (sym (number_bytes m placed dest src offset size field p s field_is pointer))
    ∙ sym (with_pointer-is (files_in m placed) dest src offset size (placed_in m p) (placed_in m s) (found_in m placed dest p pointer.dest_is)
    (found_in m placed src s pointer.src_is))

-- other bytes stay
pub pointer_stays : (m new : Memory) (placed : List PlacedFile) (dest src : List ℕ) (offset size field : ℕ) (p s : PlacedFile)
    → field ≡ p.place + offset → IsPointer m placed dest src offset size p s
    → Puts m new field (le_bytes size (le (bytes_at m field size) + s.place)) → Stays m new placed placed
pointer_stays m new placed dest src offset size field p s field_is pointer puts =
    stays_written m new placed dest p offset (le_bytes size (le (bytes_at m field size) + s.place)) pointer.dest_is
    (pointer_write m new placed dest src offset size field p s field_is pointer puts)

-- the place of a file that is found
pub place_found : (placed : List PlacedFile) (name : List ℕ) (p : PlacedFile) → placed_named placed name ≡ Some p → place_of placed name ≡ p.place
place_found placed name p found = ap (λ o. option_map_or (λ (q : PlacedFile). q.place) o 0) found

-- the memory with the sum in it is the one that the definition gives
pub pointed_from : (m : Memory) (placed : List PlacedFile) (dest src : List ℕ) (offset size field : ℕ) (p s : PlacedFile) → field ≡ p.place + offset
    → placed_named placed dest ≡ Some p → placed_named placed src ≡ Some s
    → with_bytes m field (le_bytes size (le (bytes_at m field size) + s.place)) ≡ pointed m placed dest src offset size
pointed_from m placed dest src offset size field p s field_is dest_is src_is =
    ap₂ (λ at place. with_bytes m at (le_bytes size (le (bytes_at m at size) + place)))
    (field_is ∙ ap (λ place. place + offset) (sym (place_found placed dest p dest_is))) (sym (place_found placed src s src_is))
