use Rattle.std.proofs.Common.{◌≡◌, ◌-◌, ◌*◌, ◌≤◌, replicate}
use Rattle.vt_bytes.specs.Memory.{with_bytes}
use Rattle.guest_memory.specs.Touched.{TouchesOnly}
use Rattle.firmware_load.specs.Inside.{Nowhere}
use Rattle.firmware_load.proofs.f_segment.refill.Given as goal

abbrev pub invariant-loop-done : goal.invariant-loop-done
invariant-loop-done l = record {
  within : l.done ≤ 16;
  so_far : l.memory.memory ≡ with_bytes l.fn.memory.memory 0xF0000 (replicate (l.done * 4096) l.fn.memory.memory.fill);
  touches : TouchesOnly Nowhere l.fn.memory.memory.top l.fn.memory.touched l.memory.touched;
}

abbrev pub decreases-loop-done : goal.decreases-loop-done
decreases-loop-done l = 16 - l.done
