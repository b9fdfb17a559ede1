use Rattle.std.proofs.Common.{◌≤◌, length, subst, sym}
use Rattle.machine_desc.proofs.Accepted.{few_at}
use Rattle.acpi_model.proofs.machine_madt.entries_of.Goals as goal

pub push_cpus-requires : goal.push_cpus-requires
push_cpus-requires c = subst (λ cpus. length cpus ≤ 4096) (sym c.as_slice.ensures) (few_at c.args.machine.now c.requires 5)
