use Rattle.std.proofs.Common.{IfSome, subst, sym}
use Rattle.std.proofs.lemmas.Result.{on_ok_weaker}
use Rattle.acpi_model.specs.MachineSlit.{slit_of_machine}
use Rattle.acpi_model.specs.declared.acpi.Table.TheVariants.{Slit}
use Rattle.machine_desc.proofs.Accepted.{numa_needs_acpi}
use Rattle.acpi_model.proofs.AcceptedAcpi.{accepted_fits, not_none}
use Rattle.acpi_model.proofs.AcceptedNodes.{accepted_numa}
use Rattle.acpi_model.proofs.MachineSlits.{IsSquare, slit_written}
use Rattle.acpi_model.specs.Acpi.{IsWritable}
use Rattle.acpi_append.specs.Tables.{IsTablePut}
use Rattle.acpi_append.proofs.OfParts.{of_parts}
use Rattle.acpi_topo.proofs.slit.append_slit.Goals as goal
use Rattle.acpi_topo.proofs.slit.append_slit.Goals.{in_default-via-in-Some+in_default, in_default-via-in_default}

pub slit_of_machine-requires : goal.slit_of_machine-requires
slit_of_machine-requires c = accepted_fits c.args.machine.now c.in-Some-Some.acpi c.requires.accepted c.in-Some-Some.is-0

pub put_table-requires-clause-writable : goal.put_table-requires-clause-writable
put_table-requires-clause-writable c =
    let square = subst (λ part. IfSome part IsSquare) c.in-Some-Some.is-1 (accepted_numa c.args.machine.now c.requires.accepted) in
    subst (λ t. IsWritable (Slit t)) (sym c.in_ok-slit.ensures) (slit_written c.in-Some-Some.acpi c.in-Some-Some.numa square)

pub returns-clause-put : goal.returns-clause-put
returns-clause-put c =
    let part = c.in-Some-Some in
    on_ok_weaker c.put_table.result (λ put.
    of_parts (λ acpi numa. IsTablePut c.args.blob.now c.put_table.new.blob (Slit (slit_of_machine acpi numa)))
    c.args.machine.now.acpi c.args.machine.now.numa part.acpi part.numa part.is-0 part.is-1
    (subst (λ t. IsTablePut c.args.blob.now c.put_table.new.blob (Slit t)) c.in_ok-slit.ensures put)) c.put_table.ensures.put

pub unreachable-requires : goal.unreachable-requires
unreachable-requires c =
    let machine = c.args.machine.now in
    elim c.in_default.branch [
      | in_default-via-in-Some+in_default w ↦ not_none machine.numa w.in_default.is-1 c.requires.wanted
      | in_default-via-in_default w ↦ not_none machine.acpi w.in_default.is-0 (numa_needs_acpi machine c.requires.accepted c.requires.wanted)
    ]
