use Rattle.std.proofs.Common.{◌≡◌, ◌+◌, subst}
use Rattle.acpi_model.specs.Form.{address_size}
use Rattle.acpi_decode.specs.Seen.{number_at}
use Rattle.acpi_decode.proofs.Roots.{root_read}
use Rattle.acpi_decode.proofs.root.read_root.Goals as goal

pub returns : goal.returns
returns g c =
    let seen = g.V.MemView.seen c.args.view.now in
    root_read c.args.form seen c.args.rsdp c.copy_out.new.bytes c.read_address-root.result c.requires c.copy_out.ensures
    (subst (λ n. c.read_address-root.result ≡ number_at seen (c.args.rsdp + n) (address_size c.args.form)) c.root_place.ensures.place
    c.read_address-root.ensures)
