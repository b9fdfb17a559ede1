use Rattle.std.proofs.Common.{[], arith, subst, sym}
use Rattle.vt_bytes.proofs.Each.{each_at}
use Rattle.acpi_model.specs.Acpi.{IsWritable}
use Rattle.acpi_append.specs.Tables.{IsTablePut}
use Rattle.vm_image.specs.AcpiHeld.{AreAppended}
use Rattle.vm_image.proofs.AcpiFiles.{none_appended, next_appended, most_bytes-take}
use Rattle.vm_image.proofs.acpi.append_each.Goals as goal

pub loop-table-init : goal.loop-table-init
loop-table-init c =
    subst (λ places. AreAppended c.args.file.now [] places c.args.file.now) (sym c.new-places.ensures)
    (none_appended c.args.file.now c.requires.linkable)

pub put_table-requires-clause-short : goal.put_table-requires-clause-short
put_table-requires-clause-short c =
    omega (arith, c.loop-table.invariant.few, c.requires.few.bytes, most_bytes-take c.args.tables.now c.loop-table.table-index)

pub put_table-requires-clause-writable : goal.put_table-requires-clause-writable
put_table-requires-clause-writable c =
    each_at IsWritable c.args.tables.now c.loop-table.table-index c.table-item.result c.table-item.result c.loop-table-test.true c.table-item.is
    c.requires.writable

pub loop-table-preserved : goal.loop-table-preserved
loop-table-preserved c =
    let put = c.in_ok-put_table.ensures in
    next_appended c.args.file.now c.args.tables.now c.loop-table.table-index c.table-item.result c.loop-table.places c.push.new.self c.loop-table.file
    c.put_table.new.blob c.in_ok-put_table.field-0 c.loop-table-test.true c.loop-table.invariant c.in_ok-push.ensures.ok put.place
    (subst (IsTablePut c.loop-table.file c.put_table.new.blob) c.table-item.is put.put)
