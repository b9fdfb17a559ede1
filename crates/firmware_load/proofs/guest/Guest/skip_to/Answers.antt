use Rattle.std.proofs.Common.{Option, sym, ap, ◌∙◌}
use Rattle.cfg_directory.specs.declared.listed.Listed.{Listed}
use Rattle.cfg_dma.specs.Reads.{started}
use Rattle.cfg_dma.specs.Transfers.{attached}
use Rattle.load_states.specs.declared.stage.Stage.TheVariants.{AtCommand, AwaitsSkip}
use Rattle.load_states.specs.Guarded.{descriptor_at}
use Rattle.load_states.specs.Steps.{skips}
use Rattle.firmware_load.specs.Inside.{load_at}
use Rattle.firmware_load.proofs.LoadStates.{load_moved}
use Rattle.firmware_load.proofs.guest.Guest.skip_to.Goals as goal

pub returns-clause-goes : goal.returns-clause-goes
returns-clause-goes c = λ script.
    let guest = c.args.self.now in
    load_moved guest c.start.new.self _ (AwaitsSkip c.args.index) c.args.listed.now script
    (c.start.ensures.after
    ∙ ap (λ control. started descriptor_at control c.args.offset 0 (attached guest.device guest.memory.memory)) c.selected_skip.ensures)
    c.start.ensures.placements
    ∙ sym (ap (λ (o : Option Listed). skips c.args.index c.args.offset o (load_at guest (AtCommand c.args.index) c.args.listed.now script))
    c.listed_of-file.ensures)
