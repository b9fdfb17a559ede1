-- What was given of a source that was read to its end.
use Rattle.std.specs.Prelude.{◌≡◌, ℕ, ◌≤◌, true, List, [], length, IfSome}
use Rattle.vt_outside.specs.Stream.{SourceSeen, in_front}
use Rattle.vmtables.specs.Outcome.{input_limit}

-- All of a source was read, no more than an input may have, and its bytes are some that were taken.
pub record WasGiven (Took : List ℕ → Type 0) (source source_after : SourceSeen) : Type 0 where
  pub bytes : List ℕ
  pub took : Took bytes
  pub given : source.left ≡ in_front bytes source_after.left
  pub none_left : IfSome source_after.left (λ rest. rest ≡ [])
  pub ended : source_after.ended ≡ true
  pub within : length bytes ≤ input_limit
