use Rattle.std.proofs.Common.{arith}
use Rattle.firmware_load.proofs.AtStages.{commands_fit, known_at}
use Rattle.firmware_load.proofs.loading.Loading.take_script.Goals as goal

pub take_commands-requires-clause-room : goal.take_commands-requires-clause-room
take_commands-requires-clause-room c =
    let script = c.args.self.now.script in
    let fits = commands_fit (known_at c.requires.inside.1.kept c.requires.stage) c.requires.inside.1.rooms.script in
    omega (arith, fits.fit, script.ok.0, c.buffered.ensures.len, c.asked-bytes.ensures)
