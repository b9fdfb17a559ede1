-- How a reader judges what it holds, state by state.
use Rattle.std.proofs.Common.{◌≡◌, ℕ, ◌+◌, ◌*◌, ◌<◌, List, [], ◌++◌, length, Ok, Err, refl, sym, ap, ◌∙◌, inl, inr}
use Rattle.std.proofs.lemmas.Bool.{cases_lt}
use Rattle.std.proofs.lemmas.List.{append-nil}
use Rattle.cfg_directory.specs.declared.item.Item.{Item}
use Rattle.cfg_directory.specs.declared.held.Held.{Held}
use Rattle.cfg_directory.specs.declared.held.Stage.{Stage}
use Rattle.cfg_directory.specs.declared.held.Stage.TheVariants.{Count, Entries, Flags, Contents, Refused}
use Rattle.cfg_directory.specs.declared.container.ImageFault.{ImageFault}
use Rattle.cfg_directory.specs.declared.container.ImageFault.TheVariants.{Truncated}
use Rattle.cfg_directory.specs.Container.{read_so}
use Rattle.cfg_directory.specs.Fed.{Fed, Takes, IsFed, judged_by, judged, answer_of, finished}
use Rattle.cfg_directory.specs.Held.{HasCount, HasListed, Gathers, LacksBytes, IsHeld, KeepsHeld, IsTaken, IsTakenAt, fed_by, bytes_of, contents_of}
use Rattle.cfg_directory.proofs.Fronts.{short_count}
use Rattle.cfg_directory.proofs.Heads.{entries_lack, flags_lack}
use Rattle.cfg_directory.proofs.Gathered.{read_lacks, read_whole}

-- with no files yet, the head is all
pub head_alone : (held : Held) → held.items ≡ [] → bytes_of held ≡ held.head
head_alone held none = ap (λ (items : List Item). held.head ++ contents_of items) none ∙ append-nil held.head

-- before the flags are whole, what is held ends too early
pub counting : (held : Held) → length held.head < 4 → held.items ≡ [] → read_so (bytes_of held) ≡ Err Truncated
counting held short none = ap read_so (head_alone held none) ∙ short_count held.head short

pub entering : (held : Held) (count : ℕ) → HasCount held.head count → length held.head < 4 + 64 * count → held.items ≡ []
    → read_so (bytes_of held) ≡ Err Truncated
entering held count has short none = ap read_so (head_alone held none) ∙ entries_lack held.head count has short

pub flagging : (held : Held) (count : ℕ) → HasListed held.head count held.listed → length held.head < 4 + 65 * count → held.items ≡ []
    → read_so (bytes_of held) ≡ Err Truncated
flagging held count has short none = ap read_so (head_alone held none) ∙ flags_lack held.head count held.listed has short

-- with the files' bytes it is a container, or ends too early
gathering : (held : Held) → Gathers held → LacksBytes held → judged (bytes_of held) ≡ Takes (bytes_of held)
gathering held gathers lacks = elim (cases_lt held.next (length held.listed)) as (λ _. judged (bytes_of held) ≡ Takes (bytes_of held)) [
  | inl some ↦ ap (judged_by (bytes_of held)) (read_lacks held gathers lacks some)
  | inr past ↦ ap (judged_by (bytes_of held)) (read_whole held gathers past)
]

-- so it still takes bytes
still_takes : (stage : Stage) (held : Held) → IsHeld stage held → fed_by stage held ≡ judged (bytes_of held)
still_takes Count held (short, none) = sym (ap (judged_by (bytes_of held)) (counting held short none))
still_takes (Entries count) held (has, short, none) = sym (ap (judged_by (bytes_of held)) (entering held count has short none))
still_takes (Flags count) held (has, short, none) = sym (ap (judged_by (bytes_of held)) (flagging held count has short none))
still_takes Contents held (gathers, lacks) = sym (gathering held gathers lacks)
still_takes (Refused fault) held is = absurd is

keeps : (stage : Stage) (held : Held) → IsHeld stage held → KeepsHeld stage held
keeps Count held is = is
keeps (Entries count) held is = is
keeps (Flags count) held is = is
keeps Contents held is = is
keeps (Refused fault) held is = tt

answered : (stage : Stage) (held : Held) → IsHeld stage held → answer_of (fed_by stage held) ≡ Ok tt
answered Count held is = refl
answered (Entries count) held is = refl
answered (Flags count) held is = refl
answered Contents held is = refl
answered (Refused fault) held is = absurd is

-- ---- a piece that was taken

pub record IsFedOn (before : Fed) (piece : List ℕ) (stage : Stage) (held : Held) : Type 0 where
  pub fed : IsFed before piece (fed_by stage held)
  pub answer : answer_of (fed_by stage held) ≡ Ok tt
  pub keeps : KeepsHeld stage held

taken : (bytes piece : List ℕ) (stage : Stage) (held : Held) → IsTaken (bytes ++ piece) held (Ok stage) → IsFedOn (Takes bytes) piece stage held
taken bytes piece stage held (is, same) = record {
  fed = inl (still_takes stage held is ∙ ap judged same);
  answer = answered stage held is;
  keeps = keeps stage held is;
}

pub taken_on : (before : Stage) (old : Held) (piece : List ℕ) (stage : Stage) (held : Held) → IsTakenAt before (bytes_of old ++ piece) held (Ok stage)
    → IsFedOn (fed_by before old) piece stage held
taken_on Count old piece stage held is = taken (bytes_of old) piece stage held is
taken_on (Entries count) old piece stage held is = taken (bytes_of old) piece stage held is
taken_on (Flags count) old piece stage held is = taken (bytes_of old) piece stage held is
taken_on Contents old piece stage held is = taken (bytes_of old) piece stage held is
taken_on (Refused fault) old piece stage held is = absurd cc

-- ---- the end

pub ends_early : (stage : Stage) (held : Held) → KeepsHeld stage held → (stage ≡ Contents → ⊥) → ((fault : ImageFault) → stage ≡ Refused fault → ⊥)
    → finished (fed_by stage held) ≡ Err Truncated
ends_early Count held (short, none) other going = counting held short none
ends_early (Entries count) held (has, short, none) other going = entering held count has short none
ends_early (Flags count) held (has, short, none) other going = flagging held count has short none
ends_early Contents held is other going = absurd (other refl)
ends_early (Refused fault) held is other going = absurd (going fault refl)
