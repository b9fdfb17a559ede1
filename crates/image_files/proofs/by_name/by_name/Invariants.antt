use Rattle.std.proofs.Common.{◌≡◌, length}
use Rattle.image_files.specs.Files.{by_name}
use Rattle.image_files.proofs.Sorted.{sorted_onto}
use Rattle.image_files.proofs.by_name.by_name.Given as goal

-- the files that are left, put among those that are sorted, are all of them sorted
abbrev pub invariant-loop-file : goal.invariant-loop-file
invariant-loop-file l = sorted_onto l.files.items l.sorted.items ≡ by_name l.fn.files.items

abbrev pub decreases-loop-file : goal.decreases-loop-file
decreases-loop-file l = length l.files.items
