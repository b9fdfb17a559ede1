use Rattle.std.proofs.Common.{◌≡◌, ◌+◌, ◌≤◌, length}
use Rattle.memory_dump.specs.Reading.{behind_so}
use Rattle.memory_dump.proofs.reading.read_rows.Given as goal

abbrev pub invariant-loop-row : goal.invariant-loop-row
invariant-loop-row l = record {
  said : behind_so l.initial.memory.memory 2 0 l.text ≡ behind_so l.memory.memory l.number l.from l.rest;
  few : l.number + length l.rest ≤ 2 + length l.text;
}

abbrev pub decreases-loop-row : goal.decreases-loop-row
decreases-loop-row l = length l.rest
