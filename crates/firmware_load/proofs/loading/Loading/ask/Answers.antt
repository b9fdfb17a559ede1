use Rattle.std.proofs.Common.{ap, sym, ◌∙◌}
use Rattle.cfg_dma.specs.Reads.{started}
use Rattle.cfg_dma.specs.Transfers.{attached}
use Rattle.load_states.specs.declared.stage.Stage.TheVariants.{Awaits}
use Rattle.load_states.specs.Guarded.{descriptor_at}
use Rattle.load_states.specs.Steps.{Asking}
use Rattle.firmware_load.specs.Inside.{load_of}
use Rattle.firmware_load.proofs.AtStages.{reading_starts}
use Rattle.firmware_load.proofs.LoadStates.{load_moved}
use Rattle.firmware_load.proofs.loading.Loading.ask.Goals as goal

pub start-requires-clause-room : goal.start-requires-clause-room
start-requires-clause-room c = reading_starts c.requires.inside.1.kept c.requires.stage

pub returns-clause-after : goal.returns-clause-after
returns-clause-after c =
    let l = c.args.self.now in
    load_moved l.guest c.start.new.self _ (Awaits c.args.reading) l.listed.items l.script.items
    (c.start.ensures.after
    ∙ ap (λ (what : Asking). started descriptor_at what.control what.size what.address (attached l.guest.device l.guest.memory.memory))
    (sym (c.asking_for-control.ensures (load_of l))))
    c.start.ensures.placements
