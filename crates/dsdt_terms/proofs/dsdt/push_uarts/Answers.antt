use Rattle.dsdt_terms.specs.Devices.{uart_device}
use Rattle.dsdt_terms.proofs.Enumerated.{one_pushed}
use Rattle.dsdt_terms.proofs.dsdt.push_uarts.Goals as goal

pub loop-place-preserved : goal.loop-place-preserved
loop-place-preserved c =
    one_pushed uart_device c.args.devices.now c.loop-place.devices c.push.new.self c.args.uarts.now c.loop-place.place
    (record { port = 0; irq = 0 }) c.in_ok-device.device c.loop-place-test.true c.loop-place.invariant c.in_ok-device.ensures
    c.in_ok-push.ensures.ok
