use Rattle.std.proofs.Common.{inr, refl}
use Rattle.cfg_directory.specs.Files.{files_of}
use Rattle.command_acts.proofs.OneCommand.{sum_can}
use Rattle.firmware_load.proofs.CommandsDone.{sum_done}
use Rattle.command_acts.specs.FilesInMemory.{placed_ranges}
use Rattle.command_acts.specs.Touching.{IsInOne}
use Rattle.firmware_load.proofs.Touching.{own_touched}
use Rattle.firmware_load.proofs.guest.Guest.add_checksum.Goals as goal

pub add_checksum-requires-clause-lawful : goal.add_checksum-requires-clause-lawful
add_checksum-requires-clause-lawful c =
    (sum_can c.args.self.now.memory.memory (files_of c.args.self.now.device.items) c.args.self.now.placements.placed.items _ _ _ _
    c.requires.loading c.requires.early)

pub returns-clause-goes : goal.returns-clause-goes
returns-clause-goes c = λ listed script.
    sum_done c.args.self.now.device c.args.self.now.memory.memory c.add_checksum.new.memory.memory c.args.self.now.placements.placed.items listed script
    c.args.name.now c.args.offset c.args.start c.args.length c.args.index c.requires.early (c.add_checksum.ensures.exact)

pub returns-clause-touches : goal.returns-clause-touches
returns-clause-touches c =
    own_touched (IsInOne (placed_ranges c.args.self.now.placements.placed.items)) c.args.self.now _ refl c.add_checksum.ensures.stays.top
    (λ address file. inr file) (c.add_checksum.ensures.touches)
