use Rattle.std.proofs.Common.{length, arith, ap, ◌∙◌}
use Rattle.vm_image.proofs.AcpiFiles.{length-places, xsdt_appended}
use Rattle.vm_image.proofs.acpi.append_tables.Goals as goal

pub put_xsdt-requires-clause-few : goal.put_xsdt-requires-clause-few
put_xsdt-requires-clause-few c =
    omega (arith, ap length (c.as_slice.ensures ∙ c.in_ok-places.ensures.places_are), length-places c.args.file.now c.args.tables.now, c.requires.few.number)

pub returns-clause-held : goal.returns-clause-held
returns-clause-held c =
    let xsdt = c.put_xsdt.ensures in
    xsdt_appended c.put_xsdt.result c.args.file.now c.args.tables.now c.in_ok-places.places c.as_slice.result.now c.append_each.new.file
    c.put_xsdt.new.blob c.args.head.now
    c.as_slice.ensures c.in_ok-places.ensures xsdt.size xsdt.put
