use Rattle.std.proofs.Common.{refl, ap, ◌∙◌}
use Rattle.cfg_dma.specs.Reads.{started}
use Rattle.cfg_dma.specs.Transfers.{attached}
use Rattle.load_states.specs.Guarded.{descriptor_at}
use Rattle.firmware_load.proofs.Touching.{touches_placed}
use Rattle.firmware_load.proofs.guest.Guest.bring.Goals as goal

pub returns-clause-after : goal.returns-clause-after
returns-clause-after c =
    c.start.ensures.after
    ∙ ap (λ control. started descriptor_at control c.args.file.now.size c.args.at (attached c.args.self.now.device c.args.self.now.memory.memory))
    c.selected_read.ensures

pub returns-clause-touches : goal.returns-clause-touches
returns-clause-touches c =
    touches_placed c.args.self.now c.start.new.self _ (record { name = c.args.file.now.name; place = c.args.at; size = c.from.result })
    c.start.ensures.touches refl c.put.ensures.placed
