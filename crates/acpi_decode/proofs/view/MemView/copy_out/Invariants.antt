use Rattle.std.proofs.Common.{◌≡◌, length, take}
use Rattle.acpi_decode.specs.Seen.{bytes_from}
use Rattle.acpi_decode.proofs.view.MemView.copy_out.Given as goal

abbrev pub invariant-loop-offset : goal.invariant-loop-offset
invariant-loop-offset g l =
    take l.offset l.bytes ≡ take l.offset (bytes_from (g.Self.MemView.seen l.self) l.address (length l.initial.bytes))
