use Rattle.std.proofs.Common.{◌≤◌, arith, IfSome, subst}
use Rattle.acpi_model.proofs.AcceptedAcpi.{accepted_events}
use Rattle.acpi_model.proofs.acpi.fadt_part.Goals as goal

pub fadt_of-requires-clause-few : goal.fadt_of-requires-clause-few
fadt_of-requires-clause-few c =
    let few = subst (λ part. IfSome part (λ power. power.gpe_len ≤ 30)) c.in-Some.is (accepted_events c.args.machine.now c.requires.accepted) in
    omega (arith, few)
