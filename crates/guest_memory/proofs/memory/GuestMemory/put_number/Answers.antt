use Rattle.std.proofs.Common.{◌≡◌, length, take, arith, ap, ◌∙◌}
use Rattle.vt_bytes.specs.Memory.{with_bytes}
use Rattle.vt_bytes.specs.Numbers.{le_bytes}
use Rattle.vt_bytes.proofs.Numbers.{le_bytes-short, length-le_bytes}
use Rattle.guest_memory.specs.Touched.{touched_at}
use Rattle.guest_memory.proofs.memory.GuestMemory.put_number.Goals as goal

pub copy_in-requires : goal.copy_in-requires
copy_in-requires c =
    let bytes : take c.from.result c.to_le_bytes-bytes.result ≡ le_bytes c.args.size c.args.number =
    ap (λ size. take size c.to_le_bytes-bytes.result) c.from.ensures
    ∙ ap (take c.args.size) c.to_le_bytes-bytes.ensures
    ∙ le_bytes-short c.args.size c.args.number c.requires.size in
    λ i below. c.requires.ram i (omega (arith, ap length bytes ∙ length-le_bytes c.args.size c.args.number))

pub returns : goal.returns
returns c =
    let held = c.args.self.now in
    let bytes : take c.from.result c.to_le_bytes-bytes.result ≡ le_bytes c.args.size c.args.number =
    ap (λ size. take size c.to_le_bytes-bytes.result) c.from.ensures
    ∙ ap (take c.args.size) c.to_le_bytes-bytes.ensures
    ∙ le_bytes-short c.args.size c.args.number c.requires.size in
    record {
      after = c.copy_in.ensures.after ∙ ap (with_bytes held.memory c.args.address) bytes;
      touched = c.copy_in.ensures.touched
          ∙ ap (λ n. touched_at held.memory.top c.args.address n held.touched) (ap length bytes ∙ length-le_bytes c.args.size c.args.number);
    }
