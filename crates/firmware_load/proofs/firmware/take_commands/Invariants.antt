use Rattle.std.proofs.Common.{◌≡◌, ◌++◌, map, take, vec_capacity}
use Rattle.loader_script.specs.Spelling.{entry_of}
use Rattle.firmware_load.proofs.firmware.take_commands.Given as goal

abbrev pub invariant-loop-command : goal.invariant-loop-command
invariant-loop-command l = record {
  taken : l.script.items ≡ l.fn.script.items ++ map entry_of (take l.command-index l.commands);
  capacity : vec_capacity l.script ≡ vec_capacity l.fn.script;
}
