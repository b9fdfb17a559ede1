use Rattle.test_files.specs.Filled.{HasFiles}
use Rattle.test_files.proofs.directory.items.add_pairs.Given as goal

abbrev pub invariant-loop-number : goal.invariant-loop-number
invariant-loop-number l = HasFiles l.items l.number 2
