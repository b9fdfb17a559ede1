use Rattle.std.proofs.Common.{◌≡◌, ◌++◌, take}
use Rattle.dsdt_terms.specs.Dsdt.{cpu_devices}
use Rattle.dsdt_terms.proofs.dsdt.push_cpus.Given as goal

abbrev pub invariant-loop-place : goal.invariant-loop-place
invariant-loop-place l = l.devices ≡ l.fn.devices ++ cpu_devices (take l.place l.cpus)
