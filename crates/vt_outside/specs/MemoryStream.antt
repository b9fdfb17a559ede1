-- Sources and sinks in memory, as a caller sees them.
use Rattle.std.specs.Prelude.{◌≡◌, ◌==◌, ℕ, Bool, false, List, drop, Contains, if◌then◌else◌}
use Rattle.vt_outside.specs.Stream.{next_count}

-- A source in memory: the bytes that are left, how many a call gives at most, the calls that fail, how many
-- calls there were, how many failed, and whether one has found that no byte is left.
pub record SourceState : Type 0 where
  pub left : List ℕ
  pub piece : ℕ
  pub fails : List ℕ
  pub calls : ℕ
  pub faults : ℕ
  pub ended : Bool

-- The next call of a source fails: its number is listed. Behind the source's end none does.
abbrev pub CallFails : SourceState → Type 0
CallFails s = (s.ended ≡ false) × Contains s.fails s.calls

-- A source after a call that gave so many bytes. Behind the source's end a call isn't counted.
abbrev pub after_call : ℕ → SourceState → SourceState
after_call n s = if s.ended then s else (record s { left = drop n s.left; calls = next_count s.calls; ended = n == 0 })

-- A sink in memory: the bytes taken, how many of them are flushed, how many it holds at most, the writes that
-- fail, how many writes there were, and how many failed.
pub record SinkState : Type 0 where
  pub taken : List ℕ
  pub flushed : ℕ
  pub room : ℕ
  pub fails : List ℕ
  pub calls : ℕ
  pub faults : ℕ
