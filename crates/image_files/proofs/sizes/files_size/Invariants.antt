use Rattle.std.proofs.Common.{◌≡◌, min, sum_by, take}
use Rattle.image_files.specs.Items.{size_with_commands}
use Rattle.image_files.proofs.sizes.files_size.Given as goal

abbrev pub invariant-loop-file : goal.invariant-loop-file
invariant-loop-file l = l.total ≡ min (sum_by size_with_commands (take l.file-index l.files)) 0xFFFFFFFFFFFFFFFF
