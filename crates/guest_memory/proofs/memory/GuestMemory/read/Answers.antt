use Rattle.std.proofs.Common.{slice_index, ap, ◌∙◌}
use Rattle.vt_bytes.proofs.Bytes.{bytes_at-one}
use Rattle.guest_memory.proofs.memory.GuestMemory.read.Goals as goal

pub returns : goal.returns
returns c = ap (λ bytes. slice_index bytes 0) (c.window.ensures.value ∙ bytes_at-one c.args.self.now.memory c.args.address)
