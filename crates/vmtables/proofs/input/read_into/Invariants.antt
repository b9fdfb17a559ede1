use Rattle.std.proofs.Common.{◌≡◌, ◌-◌, ◌<◌, ◌≤◌, ℕ, List, length}
use Rattle.vt_outside.specs.Stream.{in_front}
use Rattle.vmtables.specs.Outcome.{input_limit}
use Rattle.vmtables.proofs.input.read_into.Given as goal

abbrev pub invariant-loop-piece : goal.invariant-loop-piece
invariant-loop-piece g l = record {
  bytes : List ℕ;
  took : g.T.Taker.took l.taker bytes;
  len : length bytes ≡ l.len;
  given : (g.S.Source.seen l.initial.source).left ≡ in_front bytes (g.S.Source.seen l.source).left;
  within : length bytes ≤ input_limit;
  sound : (g.S.Source.seen l.source).faults ≡ (g.S.Source.seen l.initial.source).faults;
  some : 0 < length l.piece.items;
}

abbrev pub decreases-loop-piece : goal.decreases-loop-piece
decreases-loop-piece g l = input_limit - l.len
