use Rattle.std.proofs.Common.{◌∙◌}
use Rattle.command_acts.specs.Allocators.{MayAnswer}
use Rattle.vmtables.specs.Generate.{GenMakes, not_counted}
use Rattle.vmtables.proofs.Counted.{counted_so}
use Rattle.vmtables.proofs.Endings.{plain_refused, plain_wrote}
use Rattle.vmtables.proofs.generate_command.generate.Goals as goal

pub returns-in_err-counts-clause-ran : goal.returns-in_err-counts-clause-ran
returns-in_err-counts-clause-ran g c = λ source.
    let failed = c.in_err-counts in
    plain_refused (GenMakes (MayAnswer g.A.ZoneAlloc.state g.A.ZoneAlloc.gives) c.args.processors) failed.field-0.0 c.from_residual.result _ _ source _
    (not_counted failed.ensures.err) c.from_residual.ensures.1

pub returns-clause-ran : goal.returns-clause-ran
returns-clause-ran g c = λ source.
    let booted = c.in_ok-counts in
    let written = c.write_text.ensures in
    plain_wrote (GenMakes (MayAnswer g.A.ZoneAlloc.state g.A.ZoneAlloc.gives) c.args.processors) c.write_text.result c.as_bytes.result.now _ _ source _ _
    (counted_so (MayAnswer g.A.ZoneAlloc.state g.A.ZoneAlloc.gives) c.args.processors booted.counts.files booted.counts.bytes booted.counts.commands
    c.row_count-rows.result c.as_bytes.result.now c.memory.result.now.memory _ _ booted.ensures.ok booted.ensures.counts c.row_count-rows.ensures
    c.memory.ensures.memory (c.as_bytes.ensures.value ∙ c.deref.ensures.0 ∙ c.summary.ensures))
    written.ok written.fault written.front
