use Rattle.acpi_decode.proofs.ReadBytes.{padded_read}
use Rattle.acpi_decode.proofs.fadt.read_padded.Goals as goal

pub returns : goal.returns
returns g c =
    padded_read (g.V.MemView.seen c.args.view.now) c.args.address c.args.size 276 c.copy_out.new.bytes c.requires.few c.copy_out.ensures
