use Rattle.std.proofs.Common.{◌≡◌, ◌+◌, arith, ap, ◌∙◌}
use Rattle.vt_bytes.specs.View.{number_in}
use Rattle.acpi_decode.proofs.ReadBytes.{byte_read}
use Rattle.acpi_decode.proofs.entries.read_entry_head.Goals as goal

pub returns : goal.returns
returns g c =
    let seen = g.V.MemView.seen c.args.view.now in
    let at = c.args.at in
    let bytes = c.copy_out.new.bytes in
    let here : at ≡ at + 0 = omega arith in (
      ap (λ a. number_in seen a 1) here ∙ byte_read seen at 2 bytes 0 c.copy_out.ensures (omega arith),
      byte_read seen at 2 bytes 1 c.copy_out.ensures (omega arith),
    )
