use Rattle.std.proofs.Common.{subst, OnOk}
use Rattle.acpi_append.specs.FacsPut.{IsFacsPut}
use Rattle.acpi_fixed.proofs.facs.append_facs.Goals as goal

pub returns-clause-put : goal.returns-clause-put
returns-clause-put c =
    subst (λ facs. OnOk c.put_facs.result (IsFacsPut c.args.blob.now c.put_facs.new.blob facs)) c.initial_facs.ensures.facs c.put_facs.ensures.put
