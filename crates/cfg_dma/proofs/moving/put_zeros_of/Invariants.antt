use Rattle.std.proofs.Common.{◌≡◌, ◌-◌, ◌≤◌, replicate}
use Rattle.vt_bytes.specs.Memory.{with_bytes}
use Rattle.guest_memory.specs.Touched.{TouchesOnly}
use Rattle.cfg_dma.specs.Touching.{IsAmong}
use Rattle.cfg_dma.proofs.moving.put_zeros_of.Given as goal

abbrev pub invariant-loop-done : goal.invariant-loop-done
invariant-loop-done l = record {
  within : l.done ≤ l.count;
  so_far : l.memory.memory ≡ with_bytes l.fn.memory.memory l.address (replicate l.done 0);
  touches : TouchesOnly (IsAmong l.address l.count) l.fn.memory.memory.top l.fn.memory.touched l.memory.touched;
}

abbrev pub decreases-loop-done : goal.decreases-loop-done
decreases-loop-done l = l.count - l.done
