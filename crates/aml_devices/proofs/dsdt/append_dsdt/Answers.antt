use Rattle.std.proofs.Common.{subst, ◌∙◌}
use Rattle.std.proofs.lemmas.Result.{on_ok_weaker}
use Rattle.acpi_model.proofs.AcceptedAcpi.{accepted_fits, not_none}
use Rattle.machine_desc.proofs.Accepted.{power_needs_acpi}
use Rattle.dsdt_terms.specs.Dsdt.{dsdt_body}
use Rattle.acpi_append.specs.DsdtPut.{IsDsdtPut}
use Rattle.acpi_append.proofs.OfParts.{of_part}
use Rattle.aml_devices.specs.MachineDsdt.{IsMachineDsdtPut}
use Rattle.aml_devices.proofs.MachinePut.{machine_put}
use Rattle.aml_devices.proofs.dsdt.append_dsdt.Goals as goal

pub unreachable-requires : goal.unreachable-requires
unreachable-requires c =
    let machine = c.args.machine.now in
    not_none machine.acpi c.in_default.is (power_needs_acpi machine c.requires.accepted c.requires.wanted)

pub head_of-requires : goal.head_of-requires
head_of-requires c = accepted_fits c.args.machine.now c.in-Some.acpi c.requires.accepted c.in-Some.is

pub put_block-requires-clause-block : goal.put_block-requires-clause-block
put_block-requires-clause-block c = c.as_slice.ensures ∙ c.in_ok-block.ensures

pub returns-clause-put : goal.returns-clause-put
returns-clause-put c =
    let m = c.args.machine.now in
    let before = c.args.blob.now in
    let after = c.put_block.new.blob in
    on_ok_weaker c.put_block.result (λ put.
    of_part (λ acpi. IsMachineDsdtPut before after acpi m) m.acpi c.in-Some.acpi c.in-Some.is
    (machine_put before after c.in-Some.acpi m c.requires.accepted c.numbers_of_a_machine_fit.ensures
    (subst (λ head. IsDsdtPut before after head (dsdt_body m)) c.head_of.ensures put))) c.put_block.ensures.put
