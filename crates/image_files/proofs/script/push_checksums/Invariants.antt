use Rattle.std.proofs.Common.{◌≡◌, ◌++◌, take}
use Rattle.std.specs.List.{flat_map}
use Rattle.image_files.specs.Script.{add_checksums}
use Rattle.image_files.proofs.script.push_checksums.Given as goal

abbrev pub invariant-loop-file : goal.invariant-loop-file
invariant-loop-file l = l.script ≡ l.fn.script ++ flat_map add_checksums (take l.file-index l.files)
