-- The events that schedules have for a seed.
use Rattle.std.specs.Prelude.{⊤, ℕ, zero, suc, ◌+◌, ◌/◌, ◌%◌, ◌^◌, ◌<◌, ◌≤◌, List, [], ◌∷◌, nat_lt, slice_set, if◌then◌else◌}
use Rattle.zone_alloc.specs.Policies.{word_of}
use Rattle.load_states.specs.declared.event.Event.{Event}
use Rattle.load_states.specs.declared.event.Event.TheVariants.{Device, Firmware, Other, Reset}

-- A schedule: the events that it has for each seed, none for a number that is no u64, and those that are left.
pub record Plan : Type 0 where
  pub events : ℕ → List Event
  pub left : List Event

-- A listed schedule: its events, and those of them that are left.
pub record ListedState : Type 0 where
  pub events : List Event
  pub left : List Event

-- the events for a number: those of the seed that it is, or none where it is no u64
abbrev pub for_seed : ℕ → List Event → List Event
for_seed number events = if nat_lt number (2 ^ 64) then events else []

-- a piece of 1 to 4,096 bytes, by a word
abbrev pub piece_by : ℕ → Event
piece_by word = Device (1 + word / 4 % 4096)

-- a byte written below 1 MiB: the address by one word, the byte by another
abbrev pub write_by : ℕ → ℕ → Event
write_by address byte = Other (address % 0x100000) (byte % 256)

-- the event of a word, whose remainder by 4 is its kind: 0 is a step of the firmware, 1 and 2 are a piece, and 3 is a write by the two
-- words behind it
abbrev pub event_as : ℕ → ℕ → ℕ → ℕ → Event
event_as zero word second third = Firmware
event_as (suc zero) word second third = piece_by word
event_as (suc (suc zero)) word second third = piece_by word
event_as (suc (suc (suc _))) word second third = write_by second third

-- how many words an event of a kind takes
abbrev pub words_as : ℕ → ℕ
words_as zero = 1
words_as (suc zero) = 1
words_as (suc (suc zero)) = 1
words_as (suc (suc (suc _))) = 3

-- the event that the words of a seed draw from number k on
abbrev pub event_at : ℕ → ℕ → Event
event_at seed k = event_as (word_of seed k % 4) (word_of seed k) (word_of seed (k + 1)) (word_of seed (k + 2))

-- the number of the word behind it
abbrev pub word_behind : ℕ → ℕ → ℕ
word_behind seed k = k + words_as (word_of seed k % 4)

-- so many events, which the words of a seed draw from number k on
unfoldable pub events_from : ℕ → ℕ → ℕ → List Event
events_from seed k zero = []
events_from seed k (suc count) = event_at seed k ∷ events_from seed (word_behind seed k) count

-- a seed of 2^63 or more resets the guest: events 16 and 48, counted from 0, are resets, in the place of those that were drawn there
abbrev pub with_resets : ℕ → List Event → List Event
with_resets seed events = if nat_lt seed (2 ^ 63) then events else slice_set (slice_set events 16 Reset) 48 Reset

-- the events of a seed: none for 0, and for any other those that its words draw, 4,096 of them, but for its resets
unfoldable pub seeded_events : ℕ → List Event
seeded_events zero = []
seeded_events (suc n) = with_resets (suc n) (events_from (suc n) 0 4096)

-- an event that a seed may have: a piece has 1 to 4,096 bytes, and a byte is written below 1 MiB
abbrev pub IsSeeded : Event → Type 0
IsSeeded (Device bytes) = (1 ≤ bytes) × (bytes ≤ 4096)
IsSeeded Firmware = ⊤
IsSeeded Reset = ⊤
IsSeeded (Other address byte) = (address < 0x100000) × (byte < 256)
