use Rattle.std.proofs.Common.{arith, ap, sym, ◌∙◌, ◌++◌}
use Rattle.machine_desc.specs.Rules.{first_broken, breaches_of_parts, breaches_of_acpi_parts, breaches_of_devices}
use Rattle.machine_desc.proofs.Indices.{index_of_part}
use Rattle.machine_desc.proofs.Kept.{later_broken, earlier_broken}
use Rattle.machine_desc.proofs.machine.Machine.broken_within_sizes.Goals as goal

pub first_broken-requires : goal.first_broken-requires
first_broken-requires c = λ broken is. omega (arith, index_of_part c.args.self.now broken c.requires (rw c.breaches_of_parts.ensures at is))

pub returns-in-None : goal.returns-in-None
returns-in-None c =
    let m = c.args.self.now in
    let none = sym (c.in-None.ensures ∙ ap first_broken c.breaches_of_parts.ensures) in
    c.broken_behind_parts.ensures ∙ sym (later_broken (breaches_of_parts m) (breaches_of_acpi_parts m ++ breaches_of_devices m) none)

pub returns-in-Some : goal.returns-in-Some
returns-in-Some c =
    let m = c.args.self.now in
    let found = sym (c.in-Some.ensures ∙ ap first_broken c.breaches_of_parts.ensures) in
    sym (earlier_broken (breaches_of_parts m) (breaches_of_acpi_parts m ++ breaches_of_devices m) c.in-Some.broken found)
