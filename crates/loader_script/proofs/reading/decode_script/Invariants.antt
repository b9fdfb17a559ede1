use Rattle.std.proofs.Common.{◌≡◌, map, take}
use Rattle.loader_script.specs.Spelling.{entry_of}
use Rattle.loader_script.proofs.reading.decode_script.Given as goal

abbrev pub invariant-loop-entry : goal.invariant-loop-entry
invariant-loop-entry l = l.script ≡ map entry_of (take l.entry-index l.entries)
