-- What a reader of a container holds, and how far it is.
use Rattle.std.specs.Prelude.{◌≡◌, ℕ, suc, ◌+◌, ◌*◌, ◌<◌, ◌≤◌, Bool, List, [], ◌++◌, ◌⊎◌, length, take, drop, sum_by, Result, Ok, Err}
use Rattle.std.specs.List.{flat_map}
use Rattle.vt_bytes.specs.Numbers.{be}
use Rattle.cfg_directory.specs.declared.item.Item.{Item}
use Rattle.cfg_directory.specs.declared.listed.Listed.{Listed}
use Rattle.cfg_directory.specs.declared.container.ImageFault.{ImageFault}
use Rattle.cfg_directory.specs.declared.container.ImageFault.TheVariants.{OutOfMemory}
use Rattle.cfg_directory.specs.declared.held.Held.{Held}
use Rattle.cfg_directory.specs.declared.held.Stage.{Stage}
use Rattle.cfg_directory.specs.declared.held.Stage.TheVariants.{Count, Entries, Flags, Contents, Refused}
use Rattle.cfg_directory.specs.Items.{file_limit, bytes_limit}
use Rattle.cfg_directory.specs.Container.{HasEntries, directory_so, items_so, contents_so, read_so}
use Rattle.cfg_directory.specs.Fed.{Fed, Takes, Refuses, judged}

-- the bytes of files
abbrev pub contents_of : List Item → List ℕ
contents_of items = flat_map (λ (item : Item). item.bytes) items

-- how many bytes files have by their entries
abbrev pub sizes_of : List Listed → ℕ
sizes_of listed = sum_by (λ (l : Listed). l.size) listed

-- The bytes that were fed: the head, and then the files' bytes.
abbrev pub bytes_of : Held → List ℕ
bytes_of held = held.head ++ contents_of held.items

-- The number of files is there, and isn't too large.
pub record HasCount (head : List ℕ) (count : ℕ) : Type 0 where
  pub there : 4 ≤ length head
  pub is : be (take 4 head) ≡ count
  pub few : count ≤ file_limit

-- The entries are there, and say this.
pub record HasListed (head : List ℕ) (count : ℕ) (listed : List Listed) : Type 0 where
  pub counted : HasCount head count
  pub there : 4 + 64 * count ≤ length head
  pub says : directory_so count 0 [] (drop 4 head) ≡ Ok listed

-- A whole head, and what its entries and its flags say of the bytes that follow it.
pub record Opens (head : List ℕ) (listed : List Listed) (flags : List Bool) : Type 0 where
  pub entries : HasEntries head
  pub says : (rest : List ℕ) → read_so (head ++ rest) ≡ contents_so listed flags rest
  pub small : sizes_of listed ≤ bytes_limit
  pub as_many : length flags ≡ length listed

-- the files that a whole head opens, which have no bytes yet
abbrev pub IsOpened : List ℕ → List Listed → List Item → Type 0
IsOpened head listed items = (flags : List Bool) × Opens head listed flags × (items ≡ items_so listed flags [])

-- The files have the bytes behind the head: all before the next one are whole, and none behind it has begun.
pub record Gathers (held : Held) : Type 0 where
  pub flags : List Bool
  pub opens : Opens held.head held.listed flags
  pub items : held.items ≡ items_so held.listed flags (contents_of held.items)
  pub begun : sizes_of (take held.next held.listed) ≤ length (contents_of held.items)
  pub within : length (contents_of held.items) ≤ sizes_of (take (suc held.next) held.listed)

-- the next file lacks bytes, if there is one
abbrev pub LacksBytes : Held → Type 0
LacksBytes held = held.next < length held.listed → length (contents_of held.items) < sizes_of (take (suc held.next) held.listed)

-- What is held, by how far the reader is.
abbrev pub IsHeld : Stage → Held → Type 0
IsHeld Count held = (length held.head < 4) × (held.items ≡ [])
IsHeld (Entries count) held = HasCount held.head count × (length held.head < 4 + 64 * count) × (held.items ≡ [])
IsHeld (Flags count) held = HasListed held.head count held.listed × (length held.head < 4 + 65 * count) × (held.items ≡ [])
IsHeld Contents held = Gathers held × LacksBytes held
IsHeld (Refused fault) held = ⊥

-- the same, of a reader that may have refused before, and then anything may be held
abbrev pub KeepsHeld : Stage → Held → Type 0
KeepsHeld (Refused fault) held = Unit {0}
KeepsHeld stage held = IsHeld stage held

-- why bytes are refused
abbrev pub IsRefusal : List ℕ → ImageFault → Type 0
IsRefusal bytes fault = (judged bytes ≡ Refuses fault) ⊎ ((fault ≡ OutOfMemory) × HasEntries bytes)

-- How far the reader is with all of these bytes, or why it refuses them.
abbrev pub IsTaken : List ℕ → Held → Result Stage ImageFault → Type 0
IsTaken bytes held (Ok stage) = IsHeld stage held × (bytes_of held ≡ bytes)
IsTaken bytes held (Err fault) = IsRefusal bytes fault

-- the same, of a reader that may have refused before
abbrev pub IsTakenAt : Stage → List ℕ → Held → Result Stage ImageFault → Type 0
IsTakenAt (Refused fault) bytes held result = result ≡ Err fault
IsTakenAt stage bytes held result = IsTaken bytes held result

-- What a reader was fed, by what it holds.
abbrev pub fed_by : Stage → Held → Fed
fed_by (Refused fault) held = Refuses fault
fed_by stage held = Takes (bytes_of held)

-- a file of which some bytes of a piece were taken
pub record IsFilled (old new : Held) (piece left : List ℕ) : Type 0 where
  pub gathers : Gathers new
  pub head : new.head ≡ old.head
  pub listed : new.listed ≡ old.listed
  pub joined : contents_of new.items ++ left ≡ contents_of old.items ++ piece
  pub next : (new.next ≡ suc old.next) ⊎ ((new.next ≡ old.next) × (left ≡ []) × LacksBytes new)
