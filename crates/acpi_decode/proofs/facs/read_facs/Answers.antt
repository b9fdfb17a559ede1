use Rattle.std.proofs.Common.{arith, ap, sym, subst, ◌∙◌}
use Rattle.acpi_records.specs.Facs.{IsFacs}
use Rattle.acpi_decode.specs.Read.{facs_in}
use Rattle.acpi_decode.proofs.Facses.{facs_stands}
use Rattle.acpi_decode.proofs.ReadBytes.{bytes_read}
use Rattle.acpi_decode.proofs.facs.read_facs.Goals as goal

pub returns-clause-read : goal.returns-clause-read
returns-clause-read g c =
    let seen = g.V.MemView.seen c.args.view.now in (
      λ zero. omega (arith, zero, c.if-address-eq0.false),
      subst (IsFacs seen c.args.address)
          (ap facs_in (sym (bytes_read seen c.args.address 64 c.copy_out.new.bytes c.copy_out.ensures)) ∙ sym c.in_ok-read_plain.ensures)
          (facs_stands seen c.args.address c.in_ok-test_facs.ensures.passes),
    )
