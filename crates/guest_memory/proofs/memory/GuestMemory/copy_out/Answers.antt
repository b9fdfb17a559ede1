use Rattle.std.proofs.Common.{◌-◌, length, refl, arith}
use Rattle.vt_bytes.proofs.Bytes.{bytes_at-none}
use Rattle.guest_memory.proofs.Runs.{length_read, one_more_read}
use Rattle.guest_memory.proofs.memory.GuestMemory.copy_out.Goals as goal

pub loop-done-init : goal.loop-done-init
loop-done-init c = record { within = omega arith; size = refl; so_far = bytes_at-none c.args.self.now.memory c.args.address 0 refl }

pub loop-done-preserved : goal.loop-done-preserved
loop-done-preserved c =
    let part = c.get_from_frame-done.new.bytes in
    let left = length c.loop-done.bytes - c.loop-done.done in
    let size = length_read c.loop-done.bytes part c.loop-done.done left (omega arith) (omega arith) in
    record {
      within = omega arith;
      size = omega arith;
      so_far = one_more_read c.args.self.now.memory c.args.address c.loop-done.bytes part c.loop-done.done left c.get_from_frame-done.result
          c.loop-done.invariant.within (omega arith) c.loop-done.invariant.so_far c.get_from_frame-done.ensures.front;
    }
