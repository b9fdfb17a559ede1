use Rattle.std.proofs.Common.{subst, sym}
use Rattle.std.proofs.lemmas.Result.{on_ok_weaker}
use Rattle.acpi_model.specs.MachineMadt.{madt_of_machine}
use Rattle.acpi_model.specs.declared.acpi.Table.TheVariants.{Madt}
use Rattle.machine_desc.proofs.Accepted.{apic_needs_acpi}
use Rattle.acpi_model.proofs.AcceptedAcpi.{accepted_fits, not_none}
use Rattle.acpi_model.proofs.MachineMadts.{madt_written}
use Rattle.acpi_model.specs.Acpi.{IsWritable}
use Rattle.acpi_append.specs.Tables.{IsTablePut}
use Rattle.acpi_append.proofs.OfParts.{of_parts}
use Rattle.acpi_topo.proofs.madt.append_madt.Goals as goal
use Rattle.acpi_topo.proofs.madt.append_madt.Goals.{in_default-via-in-Some+in_default, in_default-via-in_default}

pub madt_of_machine-requires-clause-fits : goal.madt_of_machine-requires-clause-fits
madt_of_machine-requires-clause-fits c = accepted_fits c.args.machine.now c.in-Some-Some.acpi c.requires.accepted c.in-Some-Some.is-0

pub put_table-requires-clause-writable : goal.put_table-requires-clause-writable
put_table-requires-clause-writable c =
    subst (λ t. IsWritable (Madt t)) (sym c.in_ok-madt.ensures)
    (madt_written c.args.machine.now c.in-Some-Some.acpi c.in-Some-Some.apic c.requires.accepted)

pub returns-clause-put : goal.returns-clause-put
returns-clause-put c =
    let part = c.in-Some-Some in
    on_ok_weaker c.put_table.result (λ put.
    of_parts (λ acpi apic. IsTablePut c.args.blob.now c.put_table.new.blob (Madt (madt_of_machine c.args.machine.now acpi apic)))
    c.args.machine.now.acpi c.args.machine.now.apic part.acpi part.apic part.is-0 part.is-1
    (subst (λ t. IsTablePut c.args.blob.now c.put_table.new.blob (Madt t)) c.in_ok-madt.ensures put)) c.put_table.ensures.put

pub unreachable-requires : goal.unreachable-requires
unreachable-requires c =
    let machine = c.args.machine.now in
    elim c.in_default.branch [
      | in_default-via-in-Some+in_default w ↦ not_none machine.apic w.in_default.is-1 c.requires.wanted
      | in_default-via-in_default w ↦ not_none machine.acpi w.in_default.is-0 (apic_needs_acpi machine c.requires.accepted c.requires.wanted)
    ]
