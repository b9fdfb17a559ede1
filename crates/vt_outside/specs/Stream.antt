-- What is seen of a source and of a sink, and what one call leaves of it.
use Rattle.std.specs.Prelude.{◌≡◌, ◌==◌, ℕ, Bool, ◌+◌, ◌-◌, ◌^◌, ◌≤◌, min, max, List, ◌++◌, length, count_by, Option, Some, None}

-- the next value of a count that is kept in a u64
abbrev pub next_count : ℕ → ℕ
next_count count = min (count + 1) (2 ^ 64 - 1)

-- A count that is kept in a u64 rose: it is greater than it was, or it stays at the last value of a u64.
abbrev pub Rose : ℕ → ℕ → Type 0
Rose before after = next_count before ≤ after

-- What was left before these bytes were given: they, and then what is left after them.
-- Of a source that tells nothing, nothing is said.
abbrev pub in_front : List ℕ → Option (List ℕ) → Option (List ℕ)
in_front given None = None
in_front given (Some rest) = Some (given ++ rest)

-- how many line feeds bytes have
abbrev pub line_feeds : List ℕ → ℕ
line_feeds bytes = count_by (λ byte. byte == 10) bytes

-- What a sink tells of the bytes that it took: nothing, the bytes, or how many line feeds they have.
pub data Told : Type 0 where
  Untold : Told
  Bytes : List ℕ → Told
  LineFeeds : ℕ → Told

-- What is told after these bytes were taken: of what was taken before, and then they. A count that is kept in a u64 stays at its last value.
abbrev pub behind : Told → List ℕ → Told
behind Untold piece = Untold
behind (Bytes before) piece = Bytes (before ++ piece)
behind (LineFeeds before) piece = LineFeeds (max before (min (before + line_feeds piece) (2 ^ 64 - 1)))

-- What is seen of a source: the bytes that are left, where it tells them, whether a read has found that none is, and how many reads were
-- answered with a fault.
pub record SourceSeen : Type 0 where
  pub left : Option (List ℕ)
  pub ended : Bool
  pub faults : ℕ

-- What is seen of a sink: what it tells of the bytes that were taken, how many of them are flushed, and how many writes and flushes were
-- answered with a fault.
pub record SinkSeen : Type 0 where
  pub taken : Told
  pub flushed : ℕ
  pub faults : ℕ

-- A read failed: the fault was counted, and all else is as it was.
abbrev pub ReadFailed : SourceSeen → SourceSeen → Type 0
ReadFailed before after = (after ≡ record before { faults = after.faults }) × Rose before.faults after.faults

-- A write or a flush failed: the fault was counted, and all else is as it was.
abbrev pub WriteFailed : SinkSeen → SinkSeen → Type 0
WriteFailed before after = (after ≡ record before { faults = after.faults }) × Rose before.faults after.faults

-- A sink took these bytes, none of which is flushed yet, and counted no fault.
abbrev pub Took : List ℕ → SinkSeen → SinkSeen → Type 0
Took bytes before after = after ≡ record before { taken = behind before.taken bytes }

-- A sink took a part of a text from its front, nothing, some or all of it, and then failed: the fault was counted.
pub record TookFront (text : List ℕ) (before after : SinkSeen) : Type 0 where
  pub front : List ℕ
  pub rest : List ℕ
  pub text_is : text ≡ front ++ rest
  pub took : after ≡ record before { taken = behind before.taken front; faults = after.faults }
  pub rose : Rose before.faults after.faults

-- so many bytes are all that are told
abbrev pub AreAll : ℕ → Told → Type 0
AreAll count (Bytes bytes) = count ≡ length bytes
AreAll count other = Unit {0}

-- All that a sink took is flushed, where it tells its bytes.
abbrev pub IsFlushed : SinkSeen → Type 0
IsFlushed s = AreAll s.flushed s.taken
