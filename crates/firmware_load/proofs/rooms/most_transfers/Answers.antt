use Rattle.std.proofs.Common.{arith, length, ap}
use Rattle.load_states.specs.Moves.{pieces_of}
use Rattle.firmware_load.proofs.RoomOfLoads.{transfers_are}
use Rattle.firmware_load.proofs.rooms.most_transfers.Goals as goal

pub returns : goal.returns
returns c =
    omega (
      arith,
      transfers_are c.args.items.now,
      c.pieces_of.ensures.value,
      c.pieces_of-2.ensures.value,
      ap pieces_of c.script_size.ensures.size,
      c.most_commands-commands.ensures.value,
      ap length c.all.ensures.items,
    )
