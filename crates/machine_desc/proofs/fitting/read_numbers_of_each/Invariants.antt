use Rattle.std.proofs.Common.{drop}
use Rattle.std.specs.List.{AllByRecursion}
use Rattle.machine_desc.proofs.fitting.read_numbers_of_each.Given as goal

-- what is left decides
abbrev pub invariant-loop-part : goal.invariant-loop-part
invariant-loop-part g l = AllByRecursion g.P.Fitting.Fits (drop l.part-index l.parts) → AllByRecursion g.P.Fitting.Fits l.parts
