-- A byte of a placed file that a sum is taken from.
use Rattle.std.proofs.Common.{◌≡◌, ℕ, suc, ◌+◌, ◌-◌, ◌%◌, ◌<◌, ◌≤◌, List, [], ◌∷◌, ◌++◌, length, take, drop, slice_index, slice_set, Some}
use Rattle.std.proofs.Common.{arith, ap, ap₂, subst, sym, ◌∙◌, append_assoc}
use Rattle.std.proofs.lemmas.List.{set_split}
use Rattle.std.proofs.lemmas.Option.{same_Some}
use Rattle.vt_bytes.specs.Numbers.{byte_sum}
use Rattle.vt_bytes.specs.Parts.{put_at}
use Rattle.vt_bytes.specs.Memory.{Memory, IsRam, IsRamRange, at, bytes_at, with_bytes, Puts}
use Rattle.command_acts.specs.declared.placed.PlacedFile.{PlacedFile}
use Rattle.loader_script.specs.Run.{Placed, placed_with, with_sum}
use Rattle.command_acts.specs.FilesInMemory.{placed_named, place_of, placed_in, files_in, summed, ArePlaced, Stays, CanSum}
use Rattle.command_acts.proofs.NamedInMemory.{found_in}
use Rattle.command_acts.proofs.Placings.{standing, there_standing}
use Rattle.vt_bytes.proofs.Bytes.{length-bytes_at, part-bytes_at, index-bytes_at}
use Rattle.command_acts.proofs.Writes.{ram_part}
use Rattle.command_acts.proofs.PlacedFiles.{IsWrite, found_is_placed, file_written, stays_written}
use Rattle.command_acts.proofs.Patches.{with_sum-is}
use Rattle.command_acts.proofs.Pointers.{place_found}

-- one byte put at a place of a list is that place set
put_one : (bytes : List ℕ) (offset byte : ℕ) → offset < length bytes → slice_set bytes offset byte ≡ put_at bytes offset (byte ∷ [])
put_one bytes offset byte within =
    let next : suc offset ≡ offset + 1 = omega arith in
    set_split bytes offset byte within ∙ ap (λ k. take offset bytes ++ byte ∷ drop k bytes) next
    ∙ sym (append_assoc (take offset bytes) (byte ∷ []) (drop (offset + 1) bytes))

-- the file of a sum that can be subtracted, as it is placed
pub record IsSum (m : Memory) (placed : List PlacedFile) (name : List ℕ) (offset start count : ℕ) (p : PlacedFile) : Type 0 where
  pub apart : ArePlaced m.top placed
  pub found : placed_named placed name ≡ Some p
  pub can : CanSum (files_in m placed) name offset start count

-- it is known by its name and its place
pub sum_stands : (m : Memory) (placed : List PlacedFile) (name : List ℕ) (offset start count at : ℕ) → ArePlaced m.top placed
    → CanSum (files_in m placed) name offset start count → at ≡ place_of placed name → IsSum m placed name offset start count (standing placed name at)
sum_stands m placed name offset start count at apart can is =
    record { apart = apart; found = there_standing m placed name at can.d can.found is; can = can }

-- it is the one that the command speaks of
its_file : (m : Memory) (placed : List PlacedFile) (name : List ℕ) (offset start count : ℕ) (p : PlacedFile) (sum : IsSum m placed name offset start count p)
    → sum.can.d ≡ placed_in m p
its_file m placed name offset start count p sum = same_Some sum.can.d (placed_in m p) (sym sum.can.found ∙ found_in m placed name p sum.found)

-- the range is in its file
range_within : (m : Memory) (placed : List PlacedFile) (name : List ℕ) (offset start count : ℕ) (p : PlacedFile)
    → IsSum m placed name offset start count p → start + count ≤ p.size
range_within m placed name offset start count p sum =
    omega (
      arith,
      subst (λ (d : Placed). start + count ≤ length d.bytes) (its_file m placed name offset start count p sum) sum.can.range,
      length-bytes_at m p.place p.size,
    )

-- and in RAM
pub sum_ram : (m : Memory) (placed : List PlacedFile) (name : List ℕ) (offset start count from : ℕ) (p : PlacedFile) → from ≡ p.place + start
    → IsSum m placed name offset start count p → IsRamRange m.top from count
sum_ram m placed name offset start count from p from_is sum =
    subst (λ a. IsRamRange m.top a count) (sym from_is)
    (ram_part m.top p.place p.size start count (found_is_placed m.top placed name p sum.found sum.apart).0
    (range_within m placed name offset start count p sum))

-- the byte is in its file
pub byte_within : (m : Memory) (placed : List PlacedFile) (name : List ℕ) (offset start count : ℕ) (p : PlacedFile)
    → IsSum m placed name offset start count p → offset < p.size
byte_within m placed name offset start count p sum =
    omega (
      arith,
      subst (λ (d : Placed). offset < length d.bytes) (its_file m placed name offset start count p sum) sum.can.byte,
      length-bytes_at m p.place p.size,
    )

-- and in RAM
pub byte_ram : (m : Memory) (placed : List PlacedFile) (name : List ℕ) (offset start count field : ℕ) (p : PlacedFile) → field ≡ p.place + offset
    → IsSum m placed name offset start count p → IsRam m.top field
byte_ram m placed name offset start count field p field_is sum =
    subst (IsRam m.top) (sym field_is) ((found_is_placed m.top placed name p sum.found sum.apart).0 offset
    (byte_within m placed name offset start count p sum))

-- the byte less the sum, as the command gives it
abbrev less : ℕ → List ℕ → ℕ
less byte range = (byte + (256 - byte_sum range)) % 256

-- the byte that the command gives, from memory
byte_given : (m : Memory) (placed : List PlacedFile) (name : List ℕ) (offset start count field from : ℕ) (p : PlacedFile) → field ≡ p.place + offset
    → from ≡ p.place + start → IsSum m placed name offset start count p
    → less (slice_index (bytes_at m p.place p.size) offset) (take count (drop start (bytes_at m p.place p.size))) ≡ less (at m field) (bytes_at m from count)
byte_given m placed name offset start count field from p field_is from_is sum =
    ap₂ less
    (index-bytes_at m p.place p.size offset (byte_within m placed name offset start count p sum) ∙ ap (at m) (sym field_is))
    (part-bytes_at m p.place p.size start count (range_within m placed name offset start count p sum) ∙ ap (λ a. bytes_at m a count) (sym from_is))

-- its write is one in the file
byte_write : (m new : Memory) (placed : List PlacedFile) (name : List ℕ) (offset start count field byte : ℕ) (p : PlacedFile)
    → field ≡ p.place + offset → IsSum m placed name offset start count p → Puts m new field (byte ∷ []) → IsWrite m new p offset (byte ∷ [])
byte_write m new placed name offset start count field byte p field_is sum puts = record {
  puts = subst (λ a. Puts m new a (byte ∷ [])) field_is puts;
  within = omega (arith, byte_within m placed name offset start count p sum);
}

-- and gives the files that the command gives
pub sum_after : (m new : Memory) (placed : List PlacedFile) (name : List ℕ) (offset start count field from byte : ℕ) (p : PlacedFile)
    → field ≡ p.place + offset → from ≡ p.place + start → IsSum m placed name offset start count p
    → byte ≡ (at m field + (256 - byte_sum (bytes_at m from count))) % 256 → Puts m new field (byte ∷ [])
    → files_in new placed ≡ with_sum name offset start count (files_in m placed)
sum_after m new placed name offset start count field from byte p field_is from_is sum byte_is puts =
    let write = byte_write m new placed name offset start count field byte p field_is sum puts in
    let given = byte_given m placed name offset start count field from p field_is from_is sum ∙ sym byte_is in
    file_written m new placed name p offset (byte ∷ []) sum.found sum.apart write
    ∙ ap (λ bytes. placed_with (files_in m placed) name bytes)
    (sym (put_one (bytes_at m p.place p.size) offset byte
    (omega (arith, byte_within m placed name offset start count p sum, length-bytes_at m p.place p.size))))
    ∙ ap (λ b. placed_with (files_in m placed) name (slice_set (bytes_at m p.place p.size) offset b)) (sym given)
    ∙ sym (with_sum-is (files_in m placed) name offset start count (placed_in m p) (found_in m placed name p sum.found))

-- other bytes stay
pub sum_stays : (m new : Memory) (placed : List PlacedFile) (name : List ℕ) (offset start count field byte : ℕ) (p : PlacedFile)
    → field ≡ p.place + offset → IsSum m placed name offset start count p → Puts m new field (byte ∷ []) → Stays m new placed placed
sum_stays m new placed name offset start count field byte p field_is sum puts =
    stays_written m new placed name p offset (byte ∷ []) sum.found (byte_write m new placed name offset start count field byte p field_is sum puts)

-- the memory with the byte in it is the one that the definition gives
pub summed_from : (m : Memory) (placed : List PlacedFile) (name : List ℕ) (offset start count field from byte : ℕ) (p : PlacedFile)
    → field ≡ p.place + offset → from ≡ p.place + start → placed_named placed name ≡ Some p
    → byte ≡ (at m field + (256 - byte_sum (bytes_at m from count))) % 256
    → with_bytes m field (byte ∷ []) ≡ summed m placed name offset start count
summed_from m placed name offset start count field from byte p field_is from_is found byte_is =
    let place = sym (place_found placed name p found) in
    ap (λ b. with_bytes m field (b ∷ [])) byte_is
    ∙ ap₂ (λ a range. with_bytes m a ((at m a + (256 - byte_sum (bytes_at m range count))) % 256 ∷ []))
    (field_is ∙ ap (λ at. at + offset) place) (from_is ∙ ap (λ at. at + start) place)
