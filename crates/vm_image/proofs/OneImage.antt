-- An accepted machine whose numbers fit their fields has one image.
use Rattle.std.proofs.Common.{◌≡◌, List, refl}
use Rattle.loader_script.specs.declared.entry.Entry.{Entry}
use Rattle.cfg_directory.specs.declared.item.Item.{Item}
use Rattle.machine_desc.specs.declared.machine.Machine.{Machine}
use Rattle.machine_desc.specs.Rules.{IsAccepted}
use Rattle.machine_desc.specs.Fields.{HasFittingFields}
use Rattle.smbios_build.proofs.AcceptedNumbers.{accepted_read}
use Rattle.vm_image.specs.Image.{image_items, image_script}
use Rattle.vm_image.specs.Built.{IsBuilt}
use Rattle.vm_image.proofs.AcpiKnown.{acpi_known}
use Rattle.vm_image.proofs.Built.{built}

-- its items and its script are one
pub has_image : (m : Machine) → IsAccepted m → HasFittingFields m → IsBuilt m (image_items m) (image_script m)
has_image m accepted fit =
    built m (image_items m) (image_script m) accepted fit (accepted_read m accepted fit) (acpi_known m m.acpi accepted fit refl) refl refl

-- and any is this one
pub only_image : (m : Machine) (items : List Item) (script : List Entry) → IsBuilt m items script → (items ≡ image_items m) × (script ≡ image_script m)
only_image m items script is = (is.items_are, is.script_is)
