use Rattle.std.proofs.Common.{ap}
use Rattle.desc_toml.specs.Reading.{values_found, values_in}
use Rattle.desc_toml.proofs.Steps.{walk_fails}
use Rattle.desc_toml.proofs.read.values_in.Goals as goal

pub returns-in-Ok : goal.returns-in-Ok
unfolding values_in
returns-in-Ok c = ap values_found c.in-Ok.ensures

pub returns-in-Err-Fault : goal.returns-in-Err-Fault
unfolding values_in
returns-in-Err-Fault c = rw c.told.ensures (walk_fails _ c.in-Err-Fault.fault _ c.in-Err-Fault.field-0-is c.in-Err-Fault.ensures)
