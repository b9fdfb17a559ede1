use Rattle.std.proofs.Common.{false}
use Rattle.acpi_model.proofs.CpuEntries.{cpus_pushed}
use Rattle.acpi_model.proofs.machine_madt.push_cpus.Goals as goal

pub loop-position-preserved : goal.loop-position-preserved
loop-position-preserved c =
    cpus_pushed c.args.entries.now c.loop-position.entries c.push.new.self c.args.cpus.now c.loop-position.position
    (record { apic = 0; node = 0; enabled = false }) c.cpu_entry.result c.loop-position-test.true c.loop-position.invariant c.cpu_entry.ensures
    c.in_ok-push.ensures.ok
