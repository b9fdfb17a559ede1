use Rattle.std.proofs.Common.{[], ℕ, ◌+◌, arith, ap₂, ◌∙◌}
use Rattle.vt_bytes.specs.Memory.{with_bytes}
use Rattle.vt_bytes.specs.Numbers.{le_bytes}
use Rattle.cfg_dma.specs.Reads.{started}
use Rattle.cfg_dma.specs.Transfers.{Attached, attached}
use Rattle.cfg_dma.specs.Writes.{next_write}
use Rattle.load_states.specs.Guarded.{descriptor_at, buffer_at}
use Rattle.firmware_load.proofs.AtStages.{pointer_small}
use Rattle.firmware_load.proofs.Touching.{touches_on}
use Rattle.firmware_load.proofs.guest.Guest.write_number.Goals as goal

pub overflow_add-number : goal.overflow_add-number
overflow_add-number c = omega (arith, c.place_of.ensures, c.from.ensures, c.requires.fits, pointer_small c.args.size c.requires.size)

pub returns-clause-after : goal.returns-clause-after
returns-clause-after c =
    let guest = c.args.self.now in
    c.start.ensures.after
    ∙ ap₂ (λ (size : ℕ) (a : Attached). started descriptor_at next_write size buffer_at a) c.from-2.ensures
    (ap₂ attached c.put_number.ensures.device
    (c.put_number.ensures.memory
    ∙ ap₂ (λ (place offset : ℕ). with_bytes guest.memory.memory buffer_at (le_bytes c.args.size (place + offset))) c.place_of.ensures c.from.ensures))

pub returns-clause-touches : goal.returns-clause-touches
returns-clause-touches c =
    touches_on [] [] c.args.self.now c.put_number.new.self c.start.new.self c.put_number.ensures.touches c.start.ensures.touches
