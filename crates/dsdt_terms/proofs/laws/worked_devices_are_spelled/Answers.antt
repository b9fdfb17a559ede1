use Rattle.std.proofs.Common.{◌≡◌, ℕ, [], ◌∷◌, codes, refl, ap, ◌∙◌}
use Rattle.aml_terms.specs.declared.term.Term.TheVariants.{Int, Fixed, Chars}
use Rattle.aml_terms.specs.Trees.{view, no_trees, tree, int, chars, named, device}
use Rattle.aml_terms.specs.Written.{spelled, written, integer, package_length, more_for}
use Rattle.dsdt_terms.specs.Names.{path_to, name, unique_id}
use Rattle.dsdt_terms.specs.Devices.{cpu_device, cpu_name}
use Rattle.dsdt_terms.specs.Dsdt.{system_bus}
use Rattle.dsdt_terms.specs.WorkedDevices.{route_of_device_1, route_of_device_0}
use Rattle.dsdt_terms.proofs.Views.{view-int, view-fixed, view-chars, view-named, view-scope, view-device, view-route, seen}
use Rattle.dsdt_terms.proofs.LowHalf.{generation_tree, view-generation}
use Rattle.dsdt_terms.proofs.laws.worked_devices_are_spelled.Goals as goal

view-cpu : (number : ℕ)
    → view (cpu_device number)
    ≡ device (path_to (cpu_name number)) (tree (named (path_to (codes "_HID")) (chars (codes "ACPI0007")))
    (tree (named (path_to (codes "_UID")) (int number)) no_trees))
view-cpu number =
    view-device (path_to (cpu_name number)) (name (codes "_HID") (Chars (codes "ACPI0007")) ∷ unique_id number ∷ [])
    ∙ ap (device (path_to (cpu_name number)))
    (seen (view-named (path_to (codes "_HID")) (Chars (codes "ACPI0007")) ∙ ap (named (path_to (codes "_HID"))) (view-chars (codes "ACPI0007")))
    (seen (view-named (path_to (codes "_UID")) (Int number) ∙ ap (named (path_to (codes "_UID"))) (view-int number)) refl))

pub returns-clause-first_route : goal.returns-clause-first_route
unfolding written integer package_length more_for
returns-clause-first_route c = ap spelled (view-route route_of_device_1)

pub returns-clause-second_route : goal.returns-clause-second_route
unfolding written integer package_length more_for
returns-clause-second_route c = ap spelled (view-route route_of_device_0)

pub returns-clause-processor : goal.returns-clause-processor
unfolding written integer package_length more_for
returns-clause-processor c = ap spelled (view-cpu 2)

pub returns-clause-generation : goal.returns-clause-generation
unfolding written integer package_length more_for
returns-clause-generation c = ap spelled (view-generation (Fixed 40) ∙ ap generation_tree (view-fixed 40))

pub returns-clause-none : goal.returns-clause-none
unfolding written package_length more_for
returns-clause-none c = ap spelled (view-scope system_bus [])
