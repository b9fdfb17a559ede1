use Rattle.test_machines.specs.Unended.{AreUnended}
use Rattle.test_machines.proofs.tables.structures.many_and_end.Given as goal

abbrev pub invariant-loop : goal.invariant-loop
invariant-loop l = AreUnended l.structures
