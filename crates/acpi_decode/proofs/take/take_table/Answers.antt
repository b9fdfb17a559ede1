use Rattle.std.proofs.Common.{◌≡◌, ◌⊎◌, IfErr, subst}
use Rattle.acpi_model.specs.declared.form.Form.{Form}
use Rattle.acpi_decode.specs.declared.fault.AcpiFault.TheVariants.{OutOfMemory}
use Rattle.acpi_decode.specs.Taken.{IsRefused}
use Rattle.acpi_decode.proofs.take.take_table.Goals as goal

pub returns-clause-fault : goal.returns-clause-fault
returns-clause-fault g c =
    let seen = g.V.MemView.seen c.args.view.now in
    subst (λ (form : Form). IfErr c.take_at.result (λ fault. (fault ≡ OutOfMemory) ⊎ IsRefused form seen c.args.at c.args.found.now fault)) c.of.ensures
    c.take_at.ensures.fault
