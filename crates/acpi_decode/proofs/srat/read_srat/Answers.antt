use Rattle.acpi_decode.proofs.InRam.{front_ram}
use Rattle.acpi_decode.proofs.srat.read_srat.Goals as goal

pub copy_out-requires : goal.copy_out-requires
copy_out-requires g c = front_ram (g.V.MemView.seen c.args.view.now) c.args.address c.args.total 48 c.requires.ram c.requires.enough
