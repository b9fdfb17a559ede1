use Rattle.std.proofs.Common.{◌≡◌, ◌==◌, take}
use Rattle.std.specs.List.{list_all}
use Rattle.memory_dump.proofs.row.is_filled_row.Given as goal

abbrev pub invariant-loop-i : goal.invariant-loop-i
invariant-loop-i l = record {
  so_far : l.filled ≡ list_all (λ byte. byte == l.fill) (take l.i l.row);
}
