use Rattle.std.proofs.Common.{◌≡◌, ◌*◌, ◌≤◌, length, take}
use Rattle.memory_dump.specs.Dump.{rows_text}
use Rattle.memory_dump.proofs.writing.put_rows.Given as goal

abbrev pub invariant-loop-k : goal.invariant-loop-k
invariant-loop-k l = record {
  size : length l.text ≡ 10752;
  room : l.len ≤ 42 * l.k;
  so_far : take l.len l.text ≡ rows_text l.memory.memory l.address l.k;
}
