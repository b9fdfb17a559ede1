use Rattle.std.proofs.Common.{◌≡◌, take}
use Rattle.std.specs.List.{flat_map, AllByRecursion}
use Rattle.loader_script.specs.Spelling.{Fits, entry_bytes}
use Rattle.loader_script.proofs.writing.encode_script.Given as goal

abbrev pub invariant-loop-entry : goal.invariant-loop-entry
invariant-loop-entry l = record {
  spelled : l.bytes ≡ flat_map entry_bytes (take l.entry-index l.script);
  fits : AllByRecursion Fits (take l.entry-index l.script);
}
