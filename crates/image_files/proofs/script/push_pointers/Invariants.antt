use Rattle.std.proofs.Common.{◌≡◌, ◌++◌, take}
use Rattle.std.specs.List.{flat_map}
use Rattle.image_files.specs.Script.{add_pointers}
use Rattle.image_files.proofs.script.push_pointers.Given as goal

abbrev pub invariant-loop-file : goal.invariant-loop-file
invariant-loop-file l = l.script ≡ l.fn.script ++ flat_map add_pointers (take l.file-index l.files)
