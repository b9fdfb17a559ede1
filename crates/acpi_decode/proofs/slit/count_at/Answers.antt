use Rattle.std.proofs.Common.{arith, rules, sym, ◌∙◌}
use Rattle.acpi_decode.proofs.ReadBytes.{number_found}
use Rattle.acpi_decode.proofs.RamJoined.{number_outside}
use Rattle.acpi_decode.proofs.slit.count_at.Goals as goal

pub returns-then-not-is_ram_range : goal.returns-then-not-is_ram_range
returns-then-not-is_ram_range g c =
    sym (number_outside (g.V.MemView.seen c.args.view.now) c.args.address 36 8 c.requires (sym c.is_ram_range.ensures ∙ search rules))

pub returns : goal.returns
returns g c =
    number_found (g.V.MemView.seen c.args.view.now) c.args.address 44 c.copy_out.new.bytes 36 8 c.get_le.result c.copy_out.ensures
    (omega arith) c.get_le.ensures
