use Rattle.std.proofs.Common.{◌≡◌, ◌++◌, map, take}
use Rattle.image_files.specs.Script.{add_pointer}
use Rattle.image_files.proofs.script.push_pointers_of.Given as goal

abbrev pub invariant-loop-hole : goal.invariant-loop-hole
invariant-loop-hole l = l.script ≡ l.fn.script ++ map (add_pointer l.file.name) (take l.hole-index l.hole-items)
