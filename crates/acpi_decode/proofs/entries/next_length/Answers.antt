use Rattle.acpi_decode.proofs.InRam.{front_ram}
use Rattle.acpi_decode.proofs.entries.next_length.Goals as goal

pub read_entry_head-head-requires : goal.read_entry_head-head-requires
read_entry_head-head-requires g c =
    front_ram (g.V.MemView.seen c.args.view.now) c.args.at c.args.left 2 c.requires.ram c.if-left-lt2.false
