use Rattle.std.proofs.Common.{◌≤◌, length, arith, ap}
use Rattle.aml_generation.specs.Generation.{taken_of_device}
use Rattle.aml_generation.proofs.Kept.{keeps_device}
use Rattle.aml_generation.proofs.Walks.{on, over, over_devices, stop_some}
use Rattle.aml_generation.proofs.generation.take_of_devices.Goals as goal

pub returns-in-Some : goal.returns-in-Some
returns-in-Some c =
    stop_some over_devices c.args.terms.now c.terms.terms c.terms.place c.get_mut.result.now c.take_of_device.new.term c.take_of_device.result
    c.in-Some.address c.terms.invariant c.get_mut.ensures.item c.take_of_device.ensures c.in-Some.is

pub terms-preserved : goal.terms-preserved
terms-preserved c =
    on taken_of_device keeps_device c.args.terms.now c.terms.terms c.terms.place c.get_mut.result.now c.take_of_device.new.term c.take_of_device.result
    c.terms.invariant c.get_mut.ensures.item c.take_of_device.ensures c.in_default.is

pub returns : goal.returns
returns c =
    let beyond : length c.terms.terms ≤ c.terms.place = omega (arith, ap length c.terms.invariant.same) in
    over over_devices c.args.terms.now c.terms.terms c.terms.place c.terms.invariant beyond
