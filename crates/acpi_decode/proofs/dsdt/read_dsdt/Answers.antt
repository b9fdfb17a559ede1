use Rattle.std.proofs.Common.{inr, sym, subst}
use Rattle.std.proofs.lemmas.Bool.{ne_eqb}
use Rattle.std.proofs.lemmas.Result.{err_from_is_err_and}
use Rattle.acpi_decode.specs.Tests.{FirstFails, NoFault, Pass}
use Rattle.acpi_decode.specs.IdTests.{read_dsdt_tests}
use Rattle.acpi_decode.proofs.ReadDsdts.{both_pass, id_fails}
use Rattle.acpi_decode.proofs.LedTo.{tests_due}
use Rattle.acpi_decode.proofs.dsdt.read_dsdt.Goals as goal

pub returns-in_err-generation-clause-fault : goal.returns-in_err-generation-clause-fault
returns-in_err-generation-clause-fault g c =
    let seen = g.V.MemView.seen c.args.view.now in
    let fault = c.in_err-generation.field-0.0 in
    let p = err_from_is_err_and c.from_residual-in_err-generation.result c.from_residual-in_err-generation.ensures.1 in
    let due = tests_due (read_dsdt_tests seen) c.args.address (ne_eqb c.args.address 0 c.if-address-eq0.false) in
    rw (p.1, p.2) (inr (subst (λ tests. FirstFails tests NoFault fault) (sym due)
    (id_fails seen c.args.address c.in_ok-dsdt.dsdt fault c.in_ok-dsdt.ensures c.in_err-generation.ensures.fault)))

pub returns-clause-passes : goal.returns-clause-passes
returns-clause-passes g c =
    let seen = g.V.MemView.seen c.args.view.now in
    let due = tests_due (read_dsdt_tests seen) c.args.address (ne_eqb c.args.address 0 c.if-address-eq0.false) in
    subst Pass (sym due) (both_pass seen c.args.address c.in_ok-dsdt.dsdt c.in_ok-dsdt.ensures c.in_ok-generation.ensures.passes)
