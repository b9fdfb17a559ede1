use Rattle.std.proofs.Common.{◌≡◌, ◌++◌, length}
use Rattle.std.specs.Vec.Iter.{into_iter_items, into_iter_len}
use Rattle.image_files.specs.Items.{items_from}
use Rattle.image_files.proofs.items.items_of.Given as goal

abbrev pub invariant-loop-file : goal.invariant-loop-file
invariant-loop-file l = (l.yielded ++ into_iter_items l.file-iterator ≡ into_iter_items l.initial.file-iterator)
    × (l.items ≡ items_from 0x20 l.yielded) × (into_iter_len l.file-iterator ≡ length (into_iter_items l.file-iterator))
