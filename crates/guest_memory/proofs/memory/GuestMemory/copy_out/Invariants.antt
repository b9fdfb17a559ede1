use Rattle.std.proofs.Common.{◌≡◌, ◌-◌, ◌≤◌, length, take}
use Rattle.vt_bytes.specs.Memory.{bytes_at}
use Rattle.guest_memory.proofs.memory.GuestMemory.copy_out.Given as goal

abbrev pub invariant-loop-done : goal.invariant-loop-done
invariant-loop-done l = record {
  within : l.done ≤ length l.bytes;
  size : length l.bytes ≡ length l.initial.bytes;
  so_far : take l.done l.bytes ≡ bytes_at l.self.memory l.address l.done;
}

abbrev pub decreases-loop-done : goal.decreases-loop-done
decreases-loop-done l = length l.initial.bytes - l.done
