use Rattle.std.proofs.Common.{◌≡◌, ◌+◌, ◌-◌, ◌≤◌, length}
use Rattle.acpi_decode.specs.Seen.{bytes_from}
use Rattle.acpi_decode.proofs.block.read_block.Given as goal

abbrev pub invariant-loop-place : goal.invariant-loop-place
invariant-loop-place g l = record {
  from : l.from ≤ l.place;
  within : l.place ≤ l.end;
  part : length l.part ≡ 4096;
  read : l.bytes ≡ bytes_from (g.V.MemView.seen l.view) (l.table + l.from) (l.place - l.from);
}

abbrev pub decreases-loop-place : goal.decreases-loop-place
decreases-loop-place g l = l.end - l.place
