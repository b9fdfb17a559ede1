use Rattle.std.proofs.Common.{◌≡◌, ℕ, ◌+◌, ◌<◌, true, is_some}
use Rattle.acpi_decode.proofs.view.MemView.is_ram_range.Given as goal

abbrev pub invariant-loop-offset : goal.invariant-loop-offset
invariant-loop-offset g l = (i : ℕ) → i < l.offset → is_some (g.Self.MemView.seen l.self (l.address + i)) ≡ true
