use Rattle.std.proofs.Common.{inr, refl, ap}
use Rattle.cfg_directory.specs.Files.{files_of}
use Rattle.command_acts.proofs.OneCommand.{pointer_can}
use Rattle.firmware_load.proofs.CommandsDone.{pointer_done, pointer_refused}
use Rattle.vt_bytes.specs.Memory.{Memory}
use Rattle.command_acts.specs.FilesInMemory.{placed_ranges}
use Rattle.command_acts.specs.Touching.{IsInOne}
use Rattle.firmware_load.proofs.Touching.{own_touched}
use Rattle.firmware_load.proofs.guest.Guest.add_pointer.Goals as goal

pub add_pointer-requires-clause-lawful : goal.add_pointer-requires-clause-lawful
add_pointer-requires-clause-lawful c =
    (pointer_can c.args.self.now.memory.memory (files_of c.args.self.now.device.items) c.args.self.now.placements.placed.items _ _ _ _
    c.requires.loading c.requires.early)

pub returns-in-Ok-clause-goes : goal.returns-in-Ok-clause-goes
returns-in-Ok-clause-goes c = λ listed script.
    pointer_done c.args.self.now.device c.args.self.now.memory.memory c.add_pointer.new.memory.memory c.args.self.now.placements.placed.items listed script
    c.args.dest.now c.args.src.now c.args.offset c.args.size c.args.index c.requires.early (c.in-Ok.ensures.fits)
    (c.in-Ok.ensures.exact)

pub returns-in-Err-clause-goes : goal.returns-in-Err-clause-goes
returns-in-Err-clause-goes c = λ listed script.
    pointer_refused c.args.self.now.device c.args.self.now.memory.memory c.add_pointer.new.memory.memory c.args.self.now.placements.placed.items listed script
    c.args.dest.now c.args.src.now c.args.offset c.args.size c.args.index c.requires.early (c.in-Err.ensures.far)
    c.in-Err.ensures.same

pub returns-in-Ok-clause-touches : goal.returns-in-Ok-clause-touches
returns-in-Ok-clause-touches c =
    own_touched (IsInOne (placed_ranges c.args.self.now.placements.placed.items)) c.args.self.now _ refl c.in-Ok.ensures.stays.top
    (λ address file. inr file) (c.add_pointer.ensures.touches)

pub returns-in-Err-clause-touches : goal.returns-in-Err-clause-touches
returns-in-Err-clause-touches c =
    own_touched (IsInOne (placed_ranges c.args.self.now.placements.placed.items)) c.args.self.now _ refl
    (ap (λ (m : Memory). m.top) c.in-Err.ensures.same) (λ address file. inr file) (c.add_pointer.ensures.touches)
