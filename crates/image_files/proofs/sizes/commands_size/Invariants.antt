use Rattle.std.proofs.Common.{◌≡◌, min, take}
use Rattle.image_files.specs.Items.{size_of_commands}
use Rattle.image_files.proofs.sizes.commands_size.Given as goal

abbrev pub invariant-loop-command : goal.invariant-loop-command
invariant-loop-command l = l.total ≡ min (size_of_commands (take l.command-index l.commands)) 0xFFFFFFFFFFFFFFFF
