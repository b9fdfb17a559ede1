use Rattle.std.proofs.Common.{refl}
use Rattle.machine_desc.proofs.machine.Machine.breaches_of_acpi_parts.Goals as goal

pub returns : goal.returns
returns c =
    rw (
      c.part_without_acpi.ensures,
      c.part_without_power.ensures,
      c.list_without_apic.ensures,
      c.breach_of_acpi.ensures,
      c.only_at.ensures,
      c.has_lawful_power.ensures,
    )
    (rw (c.only_at-2.ensures, c.has_hpet_address.ensures, c.first_refused.ensures, c.first_refused-2.ensures, c.first_refused-3.ensures)
    (rw (c.unlawful_nmi.ensures, c.only_at-3.ensures, c.has_lawful_numa.ensures, c.missing_node.ensures)
    (rw (c.as_slice.ensures, c.as_slice-2.ensures, c.as_slice-3.ensures) refl)))
