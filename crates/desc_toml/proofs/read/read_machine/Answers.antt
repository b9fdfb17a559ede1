use Rattle.std.proofs.lemmas.Result.{err_from_is_err_and}
use Rattle.vt_outside.proofs.Readings.{fault_bound}
use Rattle.desc_toml.specs.Reading.{machine_in, accepted, reported}
use Rattle.desc_toml.proofs.Steps.{read_of_text, read_of_no_text}
use Rattle.desc_toml.proofs.read.read_machine.Goals as goal

pub returns-in_default-clause-read : goal.returns-in_default-clause-read
returns-in_default-clause-read c = read_of_no_text c.args.bytes.now c.in_default.ensures.cases.0

pub returns-in_err-machine-clause-read : goal.returns-in_err-machine-clause-read
returns-in_err-machine-clause-read c =
    let p = err_from_is_err_and c.from_residual.result c.from_residual.ensures.1 in
    rw (p.1, p.2, read_of_text c.args.bytes.now c.in-Ok.ensures.cases.1)
    (fault_bound (reported c.in_err-machine.field-0.0) (machine_in c.args.bytes.now) accepted (rw c.in-Ok.ensures.cases.0 at c.in_err-machine.ensures))

pub returns-in_err-machine-clause-no_text : goal.returns-in_err-machine-clause-no_text
returns-in_err-machine-clause-no_text c = λ no_text. absurd (no_text c.in-Ok.ensures.cases.1)

pub returns-clause-read : goal.returns-clause-read
returns-clause-read c =
    rw (read_of_text c.args.bytes.now c.in-Ok.ensures.cases.1, rw c.in-Ok.ensures.cases.0 at c.in_ok-machine.ensures) c.accepted.ensures

pub returns-clause-no_text : goal.returns-clause-no_text
returns-clause-no_text c = λ no_text. absurd (no_text c.in-Ok.ensures.cases.1)
