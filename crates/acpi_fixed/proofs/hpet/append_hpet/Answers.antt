use Rattle.std.proofs.Common.{subst}
use Rattle.std.proofs.lemmas.Result.{on_ok_weaker}
use Rattle.acpi_records.specs.Hpet.{hpet_of}
use Rattle.acpi_model.specs.declared.acpi.Table.TheVariants.{Hpet}
use Rattle.machine_desc.proofs.Accepted.{hpet_needs_acpi}
use Rattle.acpi_model.proofs.AcceptedAcpi.{accepted_fits, not_none}
use Rattle.acpi_model.proofs.MachineTables.{hpet_writable}
use Rattle.acpi_append.specs.Tables.{IsTablePut}
use Rattle.acpi_append.proofs.OfParts.{of_parts}
use Rattle.acpi_fixed.proofs.hpet.append_hpet.Goals as goal
use Rattle.acpi_fixed.proofs.hpet.append_hpet.Goals.{in_default-via-in-Some+in_default, in_default-via-in_default}

pub hpet_of-requires : goal.hpet_of-requires
hpet_of-requires c = accepted_fits c.args.machine.now c.in-Some-Some.acpi c.requires.accepted c.in-Some-Some.is-0

pub put_table-requires-clause-writable : goal.put_table-requires-clause-writable
put_table-requires-clause-writable c = hpet_writable c.hpet_of.result

pub returns-clause-put : goal.returns-clause-put
returns-clause-put c =
    let part = c.in-Some-Some in
    on_ok_weaker c.put_table.result (λ put.
    of_parts (λ acpi hpet. IsTablePut c.args.blob.now c.put_table.new.blob (Hpet (hpet_of acpi hpet))) c.args.machine.now.acpi c.args.machine.now.hpet
    part.acpi part.hpet part.is-0 part.is-1
    (subst (λ t. IsTablePut c.args.blob.now c.put_table.new.blob (Hpet t)) c.hpet_of.ensures.table put)) c.put_table.ensures.put

pub unreachable-requires : goal.unreachable-requires
unreachable-requires c =
    let machine = c.args.machine.now in
    elim c.in_default.branch [
      | in_default-via-in-Some+in_default w ↦ not_none machine.hpet w.in_default.is-1 c.requires.wanted
      | in_default-via-in_default w ↦ not_none machine.acpi w.in_default.is-0 (hpet_needs_acpi machine c.requires.accepted c.requires.wanted)
    ]
