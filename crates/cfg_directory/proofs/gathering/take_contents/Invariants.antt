use Rattle.std.proofs.Common.{◌≡◌, ◌-◌, ◌++◌, length}
use Rattle.cfg_directory.specs.Held.{Gathers, bytes_of}
use Rattle.cfg_directory.proofs.gathering.take_contents.Given as goal

abbrev pub invariant-loop-held : goal.invariant-loop-held
invariant-loop-held l = record {
  gathers : Gathers l.held;
  joined : bytes_of l.held ++ l.left ≡ bytes_of l.fn.held ++ l.fn.piece;
  listed : l.held.listed ≡ l.fn.held.listed;
}

abbrev pub decreases-loop-held : goal.decreases-loop-held
decreases-loop-held l = length l.fn.held.listed - l.held.next
