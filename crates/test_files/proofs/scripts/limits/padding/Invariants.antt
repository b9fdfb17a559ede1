use Rattle.std.specs.List.{AllByRecursion}
use Rattle.loader_script.specs.Spelling.{CanBeWritten}
use Rattle.test_files.proofs.scripts.limits.padding.Given as goal

abbrev pub invariant-loop : goal.invariant-loop
invariant-loop l = AllByRecursion CanBeWritten l.script
