use Rattle.std.proofs.Common.{◌≡◌, take}
use Rattle.vt_bytes.specs.Numbers.{byte_sum}
use Rattle.acpi_decode.specs.Seen.{bytes_from}
use Rattle.acpi_decode.proofs.view.MemView.sum_range.Given as goal

abbrev pub invariant-loop-offset : goal.invariant-loop-offset
invariant-loop-offset g l = l.sum ≡ byte_sum (take l.offset (bytes_from (g.Self.MemView.seen l.self) l.address l.count))
