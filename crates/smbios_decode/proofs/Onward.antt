-- Structures that are read one after the other.
use Rattle.std.proofs.Common.{◌≡◌, ◌≢◌, ℕ, zero, suc, ◌+◌, ◌-◌, ◌<◌, ◌≤◌, ◌⊎◌, inl, inr, ⊎_elim, true, false, List, [], ◌∷◌, ◌++◌, length, drop, ◌==◌}
use Rattle.std.proofs.Common.{arith, refl, ap, sym, ◌∙◌, subst}
use Rattle.std.proofs.Common.{append_assoc, length-append, length-drop}
use Rattle.std.proofs.lemmas.Bool.{eqb-true, eqb-false}
use Rattle.std.proofs.lemmas.List.{drop-drop, drop_at, nil_from_length}
use Rattle.smbios_model.specs.declared.smbios.Structure.{Structure}
use Rattle.vt_layout.specs.Strings.{string_set}
use Rattle.smbios_model.specs.Smbios.{formatted, IsStructure}
use Rattle.smbios_decode.specs.declared.fault.SmbiosFault.{SmbiosFault}
use Rattle.smbios_decode.specs.declared.fault.SmbiosFault.TheVariants.{NoEnd, OutOfMemory}
use Rattle.smbios_decode.specs.declared.structure.Found.{Found}
use Rattle.smbios_decode.specs.Faults.{BeginsWhole, IsFault, AreRefused, IsRead, IsRefused}
use Rattle.smbios_decode.specs.Found.{IsFound}
use Rattle.smbios_decode.proofs.Headed.{behind, behind_is}
use Rattle.smbios_decode.proofs.Wholes.{structure_whole}

-- The structures in front of a place were read: whatever the bytes from there on mean, all the bytes mean, with these in front.
pub record IsReached (bytes : List ℕ) (place : ℕ) (structures : List Structure) : Type 0 where
  pub within : place ≤ length bytes
  pub read : (more : List Structure) → IsRead (drop place bytes) more → IsRead bytes (structures ++ more)
  pub refused : (before : List Structure) (fault : SmbiosFault) → AreRefused place (drop place bytes) before fault
      → AreRefused 0 bytes (structures ++ before) fault
  pub whole : 0 < place → BeginsWhole bytes

-- a structure has some bytes
some_bytes : (bytes : List ℕ) (kind : ℕ) (s : Structure) → IsStructure bytes kind s → 0 < length bytes
some_bytes bytes kind s is =
    omega (arith, ap length is.spelled, length-append (formatted kind s.handle is.area) (string_set is.strings))

-- a structure that was found behind a place, and what follows it
record IsNext (bytes : List ℕ) (place : ℕ) (found : Found) : Type 0 where
  pub first : List ℕ
  pub number : ℕ
  pub split : drop place bytes ≡ first ++ drop (place + found.size) bytes
  pub sized : length first ≡ found.size
  pub stands : IsStructure first number found.structure
  pub last : found.is_last ≡ (number == 127)

next_of : (bytes : List ℕ) (place : ℕ) (found : Found) → IsFound (behind bytes place) found → IsNext bytes place found
next_of bytes place found is =
    let whole : drop place bytes ≡ is.first ++ is.rest = sym (behind_is bytes place) ∙ is.split in
    let rest : drop (place + found.size) bytes ≡ is.rest =
    sym (drop-drop found.size place bytes) ∙ ap (drop found.size) whole ∙ drop_at is.first is.rest found.size is.sized in
    record {
      first = is.first;
      number = is.number;
      split = whole ∙ ap (λ bs. is.first ++ bs) (sym rest);
      sized = is.sized;
      stands = is.stands;
      last = is.last;
    }

-- it has some bytes, and ends within them all
pub found_within : (bytes : List ℕ) (place : ℕ) (found : Found) → place ≤ length bytes → IsFound (behind bytes place) found
    → (0 < found.size) × (place + found.size ≤ length bytes)
found_within bytes place found within is =
    let some = some_bytes is.first is.number found.structure is.stands in
    let long : length is.first + length is.rest ≡ length bytes - place =
    sym (length-append is.first is.rest) ∙ ap length (sym is.split ∙ behind_is bytes place) ∙ length-drop place bytes in
    (omega (arith, some, is.sized), omega (arith, long, is.sized, within, some))

-- a whole structure at a place, or before it
pub whole_at : (bytes : List ℕ) (place : ℕ) → (0 < place → BeginsWhole bytes) → BeginsWhole (drop place bytes) → BeginsWhole bytes
whole_at bytes zero before here = here
whole_at bytes (suc place) before here = before (omega arith)

next_whole : (bytes : List ℕ) (place : ℕ) (found : Found) → (0 < place → BeginsWhole bytes) → IsNext bytes place found → BeginsWhole bytes
next_whole bytes place found before next =
    whole_at bytes place before (
      next.number,
      found.structure.handle,
      next.stands.area,
      next.stands.strings,
      structure_whole (drop place bytes) next.first (drop (place + found.size) bytes) next.number found.structure next.split next.stands,
    )

-- a structure in front of those that are read
read_more : (bytes first rest : List ℕ) (kind : ℕ) (s : Structure) (more : List Structure) → bytes ≡ first ++ rest → kind ≢ 127
    → IsStructure first kind s → IsRead rest more → IsRead bytes (s ∷ more)
read_more bytes first rest kind s [] split other stands is = absurd is.listed
read_more bytes first rest kind s (next ∷ others) split other stands is = record {
  used = first ++ is.used;
  unused = is.unused;
  split = split ∙ ap (λ bs. first ++ bs) is.split ∙ sym (append_assoc first is.used is.unused);
  listed = (first, is.used, kind, refl, other, stands, is.listed);
}

not_last : (bytes : List ℕ) (place : ℕ) (structures : List Structure) (found : Found) → IsReached bytes place structures
    → place + found.size ≤ length bytes → found.is_last ≡ false → IsNext bytes place found
    → IsReached bytes (place + found.size) (structures ++ found.structure ∷ [])
not_last bytes place structures found is within goes_on next =
    let rest : List ℕ = drop (place + found.size) bytes in
    let other : next.number ≢ 127 = eqb-false next.number 127 (sym next.last ∙ goes_on) in
    record {
      within = within;
      read = λ more are.
          let whole = is.read (found.structure ∷ more) (read_more (drop place bytes) next.first rest next.number found.structure more next.split other
          next.stands are) in
          subst (IsRead bytes) (sym (append_assoc structures (found.structure ∷ []) more)) whole;
      refused = λ before fault are.
          let there : AreRefused (place + length next.first) rest before fault =
          subst (λ size. AreRefused (place + size) rest before fault) (sym next.sized) are in
          let whole = is.refused (found.structure ∷ before) fault (next.first, rest, next.number, next.split, other, next.stands, there) in
          subst (λ all. AreRefused 0 bytes all fault) (sym (append_assoc structures (found.structure ∷ []) before)) whole;
      whole = λ some. next_whole bytes place found is.whole next;
    }

-- behind a structure that isn't the last
pub reached_more : (bytes : List ℕ) (place : ℕ) (structures : List Structure) (found : Found) → IsReached bytes place structures
    → IsFound (behind bytes place) found → found.is_last ≡ false → IsReached bytes (place + found.size) (structures ++ found.structure ∷ [])
reached_more bytes place structures found is there goes_on =
    not_last bytes place structures found is (found_within bytes place found is.within there).1 goes_on (next_of bytes place found there)

-- so a whole structure stands at the front
pub reached_whole : (bytes : List ℕ) (place : ℕ) (structures : List Structure) (found : Found) → IsReached bytes place structures
    → IsFound (behind bytes place) found → BeginsWhole bytes
reached_whole bytes place structures found is there = next_whole bytes place found is.whole (next_of bytes place found there)

-- at the last
pub read_last : (bytes : List ℕ) (place : ℕ) (structures : List Structure) (found : Found) → IsReached bytes place structures
    → IsFound (behind bytes place) found → found.is_last ≡ true → IsRead bytes (structures ++ found.structure ∷ [])
read_last bytes place structures found is there ends =
    let next = next_of bytes place found there in
    let number : next.number ≡ 127 = eqb-true next.number 127 (sym next.last ∙ ends) in
    is.read (found.structure ∷ [])
    (record {
      used = next.first;
      unused = drop (place + found.size) bytes;
      split = next.split;
      listed = subst (λ n. IsStructure next.first n found.structure) number next.stands;
    })

-- at a fault, unless memory runs out
pub refused_there : (bytes : List ℕ) (place : ℕ) (structures : List Structure) (fault : SmbiosFault) → IsReached bytes place structures
    → (fault ≡ OutOfMemory) ⊎ IsFault place (behind bytes place) fault → (fault ≡ OutOfMemory) ⊎ IsRefused bytes fault
refused_there bytes place structures fault is there =
    ⊎_elim (λ memory. inl memory)
    (λ faulty. inr (structures ++ [], is.refused [] fault (subst (λ bs. IsFault place bs fault) (behind_is bytes place) faulty))) there

-- at the end of the bytes
pub no_end : (bytes : List ℕ) (place : ℕ) (structures : List Structure) → IsReached bytes place structures → length bytes ≤ place
    → IsRefused bytes NoEnd
no_end bytes place structures is ends =
    (structures ++ [], is.refused [] NoEnd (nil_from_length (drop place bytes) (omega (arith, length-drop place bytes, ends))))
