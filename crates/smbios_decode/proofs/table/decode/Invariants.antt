use Rattle.std.proofs.Common.{◌-◌, length}
use Rattle.smbios_decode.proofs.Onward.{IsReached}
use Rattle.smbios_decode.proofs.table.decode.Given as goal

abbrev pub invariant-loop-place : goal.invariant-loop-place
invariant-loop-place l = IsReached l.bytes l.place l.structures

abbrev pub decreases-loop-place : goal.decreases-loop-place
decreases-loop-place l = length l.bytes - l.place
