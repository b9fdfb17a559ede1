use Rattle.std.proofs.Common.{List, ℕ, ◌++◌, take, drop, ap, ap₂, ◌∙◌}
use Rattle.vt_bytes.specs.Numbers.{be_bytes}
use Rattle.cfg_dma.specs.Reads.{descriptor_bytes}
use Rattle.firmware_load.proofs.guest.descriptor.Goals as goal

pub returns : goal.returns
returns c =
    c.put_be-3.ensures
    ∙ ap (λ (bytes : List ℕ). take 8 bytes ++ be_bytes 8 c.args.address ++ drop 16 bytes)
    (c.put_be-2.ensures ∙ ap (λ (bytes : List ℕ). take 4 bytes ++ be_bytes 4 c.from-2.result ++ drop 8 bytes) c.put_be.ensures)
    ∙ ap₂ (λ control size. descriptor_bytes control size c.args.address) c.from.ensures c.from-2.ensures
