use Rattle.std.proofs.Common.{◌≡◌, ◌++◌, take}
use Rattle.dsdt_terms.specs.Dsdt.{uart_devices}
use Rattle.dsdt_terms.proofs.dsdt.push_uarts.Given as goal

abbrev pub invariant-loop-place : goal.invariant-loop-place
invariant-loop-place l = l.devices ≡ l.fn.devices ++ uart_devices (take l.place l.uarts)
