use Rattle.std.proofs.Common.{◌≡◌, drop}
use Rattle.acpi_decode.specs.ShortFadts.{front_end}
use Rattle.acpi_decode.proofs.fadt.front_end.Given as goal

abbrev pub invariant-loop-index : goal.invariant-loop-index
invariant-loop-index l = front_end l.fn.ends l.fn.length 36 ≡ front_end (drop l.index l.fn.ends) l.fn.length l.end
