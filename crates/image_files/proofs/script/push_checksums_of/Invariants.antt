use Rattle.std.proofs.Common.{◌≡◌, ◌++◌, map, take}
use Rattle.image_files.specs.Script.{add_checksum}
use Rattle.image_files.proofs.script.push_checksums_of.Given as goal

abbrev pub invariant-loop-hole : goal.invariant-loop-hole
invariant-loop-hole l = l.script ≡ l.fn.script ++ map (add_checksum l.file.name) (take l.hole-index l.hole-items)
