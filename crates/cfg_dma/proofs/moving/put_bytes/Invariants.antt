use Rattle.std.proofs.Common.{◌≡◌, ◌-◌, ◌≤◌}
use Rattle.vt_bytes.specs.Memory.{bytes_at}
use Rattle.cfg_directory.specs.Items.{with_bytes_at}
use Rattle.cfg_dma.proofs.moving.put_bytes.Given as goal

abbrev pub invariant-loop-done : goal.invariant-loop-done
invariant-loop-done l = record {
  within : l.done ≤ l.count;
  so_far : l.items ≡ with_bytes_at l.fn.items l.select l.offset (bytes_at l.memory.memory l.address l.done);
}

abbrev pub decreases-loop-done : goal.decreases-loop-done
decreases-loop-done l = l.count - l.done
