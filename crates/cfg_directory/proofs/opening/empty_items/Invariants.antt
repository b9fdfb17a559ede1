use Rattle.std.proofs.Common.{◌≡◌, ◌++◌, [], map, drop}
use Rattle.cfg_directory.specs.Container.{items_so}
use Rattle.cfg_directory.specs.Parts.{is_set}
use Rattle.cfg_directory.proofs.opening.empty_items.Given as goal

abbrev pub invariant-loop-index : goal.invariant-loop-index
invariant-loop-index l =
    l.items ++ items_so (drop l.index l.listed) (drop l.index (map is_set l.flags)) [] ≡ items_so l.listed (map is_set l.flags) []
