use Rattle.std.proofs.Common.{◌≡◌, drop}
use Rattle.machine_desc.specs.Rules.{first_broken}
use Rattle.machine_desc.proofs.rules.first_broken.Given as goal

abbrev pub invariant-loop-breach : goal.invariant-loop-breach
invariant-loop-breach l = first_broken (drop l.breach-index l.breaches) ≡ first_broken l.breaches
