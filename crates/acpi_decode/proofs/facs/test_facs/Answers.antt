use Rattle.std.proofs.Common.{arith, rules, sym, ◌∙◌}
use Rattle.acpi_decode.proofs.InRam.{front_ram}
use Rattle.acpi_decode.proofs.facs.test_facs.Goals as goal

pub read_front-front-requires : goal.read_front-front-requires
read_front-front-requires g c =
    front_ram (g.V.MemView.seen c.args.view.now) c.args.address 64 8 (sym c.is_ram_range.ensures ∙ search rules) (omega arith)
