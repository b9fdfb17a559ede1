use Rattle.machine_desc.specs.Rules.{is_lawful_cpu, apic_id, is_lawful_io_apic, io_apic_id, is_lawful_override, irq_of}
use Rattle.machine_desc.proofs.Accepted.{kept}
use Rattle.machine_desc.proofs.Distinct.{all_distinct}
use Rattle.machine_desc.proofs.laws.numbers_in_an_accepted_machine_differ.Goals as goal

pub returns : goal.returns
returns c = record {
  cpus = λ machine accepted. all_distinct is_lawful_cpu apic_id machine.cpus (kept machine accepted 19);
  io_apics = λ machine accepted. all_distinct is_lawful_io_apic io_apic_id machine.io_apics (kept machine accepted 20);
  overrides = λ machine accepted. all_distinct is_lawful_override irq_of machine.overrides (kept machine accepted 21);
}
