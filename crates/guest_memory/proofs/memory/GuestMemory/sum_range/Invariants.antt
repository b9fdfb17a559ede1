use Rattle.std.proofs.Common.{◌≡◌, ◌-◌, ◌≤◌}
use Rattle.vt_bytes.specs.Memory.{bytes_at}
use Rattle.vt_bytes.specs.Numbers.{byte_sum}
use Rattle.guest_memory.proofs.memory.GuestMemory.sum_range.Given as goal

abbrev pub invariant-loop-done : goal.invariant-loop-done
invariant-loop-done l = record {
  within : l.done ≤ l.len;
  so_far : l.sum ≡ byte_sum (bytes_at l.self.memory l.address l.done);
}

abbrev pub decreases-loop-done : goal.decreases-loop-done
decreases-loop-done l = l.len - l.done
