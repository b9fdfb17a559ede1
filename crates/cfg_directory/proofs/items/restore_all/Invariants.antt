use Rattle.std.proofs.Common.{◌≡◌, ◌-◌, length, take}
use Rattle.cfg_directory.specs.Restored.{restored}
use Rattle.cfg_directory.proofs.items.restore_all.Given as goal

abbrev pub invariant-loop-place : goal.invariant-loop-place
invariant-loop-place l = l.items ≡ restored l.fn.items (take l.place l.kept)

abbrev pub decreases-loop-place : goal.decreases-loop-place
decreases-loop-place l = length l.kept - l.place
