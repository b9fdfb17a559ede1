-- Sources and sinks over readers and writers of std, as a caller sees them.
use Rattle.std.specs.Prelude.{ℕ, Bool}

-- A source over a reader: the reader as it stands, whether it has given no byte, and how many reads were answered with a fault.
pub record ReaderState (R : Type 0) : Type 0 where
  pub reader : R
  pub ended : Bool
  pub faults : ℕ

-- A sink over a writer: the writer as it stands, and how many writes and flushes were answered with a fault.
pub record WriterState (W : Type 0) : Type 0 where
  pub writer : W
  pub faults : ℕ
