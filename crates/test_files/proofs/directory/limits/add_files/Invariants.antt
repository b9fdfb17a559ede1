use Rattle.std.proofs.Common.{◌*◌}
use Rattle.test_files.specs.Filled.{HasFiles}
use Rattle.test_files.proofs.directory.limits.add_files.Given as goal

abbrev pub invariant-loop-number : goal.invariant-loop-number
invariant-loop-number l = HasFiles l.items l.number (l.chunks * 65536)
