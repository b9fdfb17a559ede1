use Rattle.std.proofs.Common.{◌≡◌, ◌-◌, ◌≤◌, length, take}
use Rattle.vt_bytes.specs.Memory.{with_bytes}
use Rattle.guest_memory.specs.Touched.{touched_at}
use Rattle.guest_memory.proofs.memory.GuestMemory.copy_in.Given as goal

abbrev pub invariant-loop-done : goal.invariant-loop-done
invariant-loop-done l = record {
  within : l.done ≤ length l.bytes;
  so_far : l.self.memory ≡ with_bytes l.fn.self.memory l.address (take l.done l.bytes);
  touched : l.self.touched ≡ touched_at l.fn.self.memory.top l.address l.done l.fn.self.touched;
}

abbrev pub decreases-loop-done : goal.decreases-loop-done
decreases-loop-done l = length l.bytes - l.done
