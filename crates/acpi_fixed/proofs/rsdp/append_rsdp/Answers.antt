use Rattle.std.proofs.Common.{subst}
use Rattle.std.proofs.lemmas.Result.{on_ok_weaker}
use Rattle.acpi_model.specs.Header.{padded}
use Rattle.acpi_model.proofs.AcceptedAcpi.{accepted_fits}
use Rattle.acpi_append.specs.Tables.{IsRsdpPut}
use Rattle.acpi_append.proofs.OfParts.{of_part}
use Rattle.acpi_fixed.proofs.rsdp.append_rsdp.Goals as goal

pub head_of-requires : goal.head_of-requires
head_of-requires c = accepted_fits c.args.machine.now c.in-Some.acpi c.requires.accepted c.in-Some.is

pub returns : goal.returns
returns c =
    on_ok_weaker c.put_rsdp.result (λ put.
    of_part (λ acpi. IsRsdpPut c.args.blob.now c.put_rsdp.new.blob (padded 6 acpi.oem_id) c.args.xsdt) c.args.machine.now.acpi c.in-Some.acpi c.in-Some.is
    (subst (λ head. IsRsdpPut c.args.blob.now c.put_rsdp.new.blob head.oem_id c.args.xsdt) c.head_of.ensures put)) c.put_rsdp.ensures
