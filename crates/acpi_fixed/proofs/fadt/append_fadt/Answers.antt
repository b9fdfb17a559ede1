use Rattle.std.proofs.Common.{ℕ, ◌+◌, ◌^◌, ◌<◌, ◌≤◌, arith, rules, IfSome, subst, sym}
use Rattle.std.proofs.lemmas.Result.{on_ok_weaker}
use Rattle.acpi_records.specs.declared.fadt.Fadt.{Fadt as FadtTable}
use Rattle.acpi_model.specs.MachineFadt.{fadt_of, fadt_links}
use Rattle.acpi_model.specs.declared.acpi.Table.TheVariants.{Fadt}
use Rattle.acpi_model.specs.Acpi.{IsWritable}
use Rattle.machine_desc.proofs.Accepted.{power_needs_acpi}
use Rattle.acpi_model.proofs.AcceptedAcpi.{accepted_fits, accepted_events, not_none}
use Rattle.acpi_model.proofs.Fadts.{fadt_writable}
use Rattle.acpi_append.specs.Tables.{IsTablePut}
use Rattle.acpi_append.proofs.OfParts.{of_parts}
use Rattle.acpi_fixed.proofs.fadt.append_fadt.Goals as goal
use Rattle.acpi_fixed.proofs.fadt.append_fadt.Goals.{in_default-via-in-Some+in_default, in_default-via-in_default}

pub fadt_of-requires-clause-fits : goal.fadt_of-requires-clause-fits
fadt_of-requires-clause-fits c = accepted_fits c.args.machine.now c.in-Some-Some.acpi c.requires.accepted c.in-Some-Some.is-0

pub fadt_of-requires-clause-few : goal.fadt_of-requires-clause-few
fadt_of-requires-clause-few c =
    let few = subst (λ part. IfSome part (λ power. power.gpe_len ≤ 30)) c.in-Some-Some.is-1 (accepted_events c.args.machine.now c.requires.accepted) in
    omega (arith, few)

-- its pointers fit their rows wherever their file is placed, which is below 3 GiB
fadt_written : (t : FadtTable) (facs dsdt : ℕ) → facs < 2 ^ 32 → dsdt ≤ 2 ^ 30 → IsWritable (Fadt t (fadt_links facs dsdt))
fadt_written t facs dsdt below near =
    let narrow : dsdt + 0xC0000000 ≤ 256 ^ 4 = omega (arith, near) in
    let wide : facs + 0xC0000000 ≤ 256 ^ 8 = omega (arith, below) in
    let wider : dsdt + 0xC0000000 ≤ 256 ^ 8 = omega (arith, near) in
    fadt_writable t (fadt_links facs dsdt) (search (rules, narrow, wide, wider))

pub put_table-requires-clause-writable : goal.put_table-requires-clause-writable
put_table-requires-clause-writable c =
    subst (λ links. IsWritable (Fadt c.fadt_of.result links)) (sym c.fadt_links-links.ensures)
    (fadt_written c.fadt_of.result c.args.facs c.args.dsdt (omega (arith, c.ranges.facs.fits)) c.requires.near)

pub returns-clause-put : goal.returns-clause-put
returns-clause-put c =
    let part = c.in-Some-Some in
    on_ok_weaker c.put_table.result (λ put.
    of_parts (λ acpi power. IsTablePut c.args.blob.now c.put_table.new.blob (Fadt (fadt_of acpi power) (fadt_links c.args.facs c.args.dsdt)))
    c.args.machine.now.acpi
    c.args.machine.now.power part.acpi part.power part.is-0 part.is-1
    (subst (λ links. IsTablePut c.args.blob.now c.put_table.new.blob (Fadt (fadt_of part.acpi part.power) links)) c.fadt_links-links.ensures
    (subst (λ t. IsTablePut c.args.blob.now c.put_table.new.blob (Fadt t c.fadt_links-links.result)) c.fadt_of.ensures put))) c.put_table.ensures.put

pub unreachable-requires : goal.unreachable-requires
unreachable-requires c =
    let machine = c.args.machine.now in
    elim c.in_default.branch [
      | in_default-via-in-Some+in_default w ↦ not_none machine.power w.in_default.is-1 c.requires.wanted
      | in_default-via-in_default w ↦ not_none machine.acpi w.in_default.is-0 (power_needs_acpi machine c.requires.accepted c.requires.wanted)
    ]
