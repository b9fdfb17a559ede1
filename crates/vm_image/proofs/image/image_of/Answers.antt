use Rattle.vm_image.proofs.Built.{image_built, files_pushed}
use Rattle.vm_image.proofs.image.image_of.Goals as goal

pub returns-clause-built : goal.returns-clause-built
returns-clause-built c =
    let m = c.args.machine.now in
    let link = c.link_telling.ensures in
    image_built m c.push_generation.new.files.items c.link_telling.result c.requires.accepted c.numbers_of_a_machine_fit.ensures
    c.in_ok-push_smbios.ensures.read c.in_ok-push_acpi.ensures.known
    (files_pushed m c.new-files.result.items c.push_acpi.new.files.items c.push_smbios.new.files.items c.push_generation.new.files.items
    c.new-files.ensures.items c.in_ok-push_acpi.ensures.files c.in_ok-push_smbios.ensures.files c.in_ok-push_generation.ensures)
    link.items link.script
