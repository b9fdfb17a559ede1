use Rattle.std.proofs.Common.{◌≡◌, map, min, take}
use Rattle.image_files.specs.Script.{add_pointer}
use Rattle.image_files.specs.Items.{size_of_commands}
use Rattle.image_files.proofs.sizes.pointers_size.Given as goal

abbrev pub invariant-loop-hole : goal.invariant-loop-hole
invariant-loop-hole l = l.total ≡ min (size_of_commands (map (add_pointer l.file.name) (take l.hole-index l.hole-items))) 0xFFFFFFFFFFFFFFFF
