use Rattle.firmware_load.proofs.RoomOfLoads.{script_room}
use Rattle.firmware_load.proofs.rooms.script_len.Goals as goal

pub returns : goal.returns
returns c = script_room c.args.items.now _ c.most_commands.ensures.value
