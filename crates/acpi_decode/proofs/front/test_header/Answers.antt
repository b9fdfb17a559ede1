use Rattle.std.proofs.Common.{arith, sym, ◌∙◌}
use Rattle.acpi_decode.proofs.InRam.{front_ram}
use Rattle.acpi_decode.proofs.front.test_header.Goals as goal

pub read_front-requires : goal.read_front-requires
read_front-requires g c =
    front_ram (g.V.MemView.seen c.args.view.now) c.args.address 36 8 (sym c.is_ram_range.ensures ∙ c.if-not-is_ram_range.false) (omega arith)
