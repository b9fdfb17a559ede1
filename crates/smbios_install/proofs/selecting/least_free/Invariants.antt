use Rattle.std.proofs.Common.{◌≡◌, ◌-◌, ◌≤◌, length}
use Rattle.smbios_install.specs.Selectors.{least_free}
use Rattle.smbios_install.proofs.selecting.least_free.Given as goal

abbrev pub invariant-loop-select : goal.invariant-loop-select
invariant-loop-select l = record {
  same : least_free l.items (length l.items) 0x20 ≡ least_free l.items (length l.items) l.select;
  few : l.select ≤ 0x4000;
}

abbrev pub decreases-loop-select : goal.decreases-loop-select
decreases-loop-select l = 0x4000 - l.select
