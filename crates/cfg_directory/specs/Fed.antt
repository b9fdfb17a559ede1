-- What a reader of a container was fed, and what it answers.
use Rattle.std.specs.Prelude.{◌≡◌, ℕ, List, ◌++◌, ◌⊎◌, Result, Ok, Err}
use Rattle.cfg_directory.specs.declared.item.Item.{Item}
use Rattle.cfg_directory.specs.declared.container.ImageFault.{ImageFault}
use Rattle.cfg_directory.specs.declared.container.ImageFault.TheVariants.{Truncated, OutOfMemory}
use Rattle.cfg_directory.specs.Container.{HasEntries, read_so}

-- A reader takes bytes, those of all pieces so far, until it gave a refusal, and from then on it refuses by that alone.
pub data Fed : Type 0 where
  Takes : (bytes : List ℕ) → Fed
  Refuses : (fault : ImageFault) → Fed

-- A reader that was fed bytes still takes them where they are a container, or where they end too early to be one.
abbrev pub judged_by : List ℕ → Result (List Item) ImageFault → Fed
judged_by bytes (Ok items) = Takes bytes
judged_by bytes (Err Truncated) = Takes bytes
judged_by bytes (Err fault) = Refuses fault

abbrev pub judged : List ℕ → Fed
judged bytes = judged_by bytes (read_so bytes)

-- What a reader is once it was fed a piece more: a refusal stays, and memory may run out, but only where the entries are there.
abbrev pub IsFed : Fed → List ℕ → Fed → Type 0
IsFed (Takes bytes) piece after = (after ≡ judged (bytes ++ piece)) ⊎ ((after ≡ Refuses OutOfMemory) × HasEntries (bytes ++ piece))
IsFed (Refuses fault) piece after = after ≡ Refuses fault

-- what is answered to a piece, by what the reader is then
abbrev pub answer_of : Fed → Result (Unit {0}) ImageFault
answer_of (Takes bytes) = Ok tt
answer_of (Refuses fault) = Err fault

-- what a reader gives in the end
abbrev pub finished : Fed → Result (List Item) ImageFault
finished (Takes bytes) = read_so bytes
finished (Refuses fault) = Err fault
