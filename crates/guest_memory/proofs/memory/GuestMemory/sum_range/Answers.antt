use Rattle.std.proofs.Common.{refl, arith, ap}
use Rattle.vt_bytes.specs.Numbers.{byte_sum}
use Rattle.vt_bytes.proofs.Bytes.{bytes_at-none}
use Rattle.guest_memory.proofs.Runs.{one_more_summed}
use Rattle.guest_memory.proofs.memory.GuestMemory.sum_range.Goals as goal

pub loop-done-init : goal.loop-done-init
loop-done-init c = record { within = omega arith; so_far = ap byte_sum (bytes_at-none c.args.self.now.memory c.args.address 0 refl) }

pub loop-done-preserved : goal.loop-done-preserved
loop-done-preserved c = record {
  within = omega arith;
  so_far = one_more_summed c.args.self.now.memory c.args.address _ _ c.loop-done.done _ c.loop-done.invariant.so_far c.sum_in_frame-sum.ensures;
}
