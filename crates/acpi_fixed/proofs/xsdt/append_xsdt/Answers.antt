use Rattle.std.proofs.Common.{subst}
use Rattle.std.proofs.lemmas.Result.{on_ok_weaker}
use Rattle.acpi_model.specs.Header.{head_of}
use Rattle.acpi_model.proofs.AcceptedAcpi.{accepted_fits}
use Rattle.acpi_append.specs.Tables.{IsXsdtPut}
use Rattle.acpi_append.proofs.OfParts.{of_part}
use Rattle.acpi_fixed.proofs.xsdt.append_xsdt.Goals as goal

pub head_of-requires : goal.head_of-requires
head_of-requires c = accepted_fits c.args.machine.now c.in-Some.acpi c.requires.accepted c.in-Some.is

pub returns-clause-put : goal.returns-clause-put
returns-clause-put c =
    on_ok_weaker c.put_xsdt.result (λ put.
    of_part (λ acpi. IsXsdtPut c.args.blob.now c.put_xsdt.new.blob (head_of acpi 1) c.args.tables.now) c.args.machine.now.acpi c.in-Some.acpi c.in-Some.is
    (subst (λ head. IsXsdtPut c.args.blob.now c.put_xsdt.new.blob head c.args.tables.now) c.head_of.ensures put)) c.put_xsdt.ensures.put
