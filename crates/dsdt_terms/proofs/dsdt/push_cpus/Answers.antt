use Rattle.std.proofs.Common.{ℕ, false}
use Rattle.machine_desc.specs.declared.acpi_parts.Cpu.{Cpu}
use Rattle.dsdt_terms.specs.Devices.{cpu_device}
use Rattle.dsdt_terms.proofs.Enumerated.{one_pushed}
use Rattle.dsdt_terms.proofs.dsdt.push_cpus.Goals as goal

pub loop-place-preserved : goal.loop-place-preserved
loop-place-preserved c =
    one_pushed (λ (cpu : ℕ × Cpu). cpu_device cpu.0) c.args.devices.now c.loop-place.devices c.push.new.self c.args.cpus.now c.loop-place.place
    (record { apic = 0; node = 0; enabled = false }) c.in_ok-device.device c.loop-place-test.true c.loop-place.invariant c.in_ok-device.ensures
    c.in_ok-push.ensures.ok
