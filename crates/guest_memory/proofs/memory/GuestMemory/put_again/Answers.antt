use Rattle.std.proofs.Common.{length, ap, ◌∙◌}
use Rattle.vt_bytes.specs.Memory.{with_bytes}
use Rattle.guest_memory.proofs.Lent.{put_again}
use Rattle.guest_memory.proofs.memory.GuestMemory.put_again.Goals as goal

pub returns-clause-memory : goal.returns-clause-memory
returns-clause-memory c =
    let m = c.args.self.now.memory in
    c.copy_in.ensures.after ∙ ap (with_bytes m c.args.address) c.copy_out.ensures
    ∙ put_again m c.args.address (length c.args.bytes.now) c.top-top.ensures.lawful c.requires
