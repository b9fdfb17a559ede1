-- Descriptions that describe no machine, and machines that have no image.
use Rattle.std.specs.Prelude.{◌≡◌, ℕ, ◌<◌, List, Err}
use Rattle.machine_desc.specs.declared.machine.Machine.{Machine}
use Rattle.cfg_directory.specs.Items.{total_size}
use Rattle.desc_toml.specs.Reading.{Reads, read_of}
use Rattle.image_files.specs.Items.{image_limit}
use Rattle.vm_image.specs.Image.{image_items}
use Rattle.vmtables.specs.declared.fault.Fault.{Fault}
use Rattle.vmtables.specs.declared.fault.Fault.TheVariants as fault

-- a machine is read from the bytes whose files have more bytes than an image may have
abbrev pub IsTooLarge : List ℕ → Type 0
IsTooLarge bytes = (machine : Machine) × Reads bytes machine × (image_limit < total_size (image_items machine))

-- why no machine is read of the bytes: they describe none, and this is their first fault; or memory ran out
abbrev pub CannotBeDescribed : List ℕ → Fault → Type 0
CannotBeDescribed bytes (fault.Description refused) = read_of bytes ≡ Err refused
CannotBeDescribed bytes fault.OutOfMemory = Unit {0}
CannotBeDescribed bytes _ = ⊥

-- why a machine has no image: its files have more bytes than an image may have, or memory ran out
abbrev pub HasNoImage : Machine → Fault → Type 0
HasNoImage machine fault.ImageTooLarge = image_limit < total_size (image_items machine)
HasNoImage machine fault.OutOfMemory = Unit {0}
HasNoImage machine _ = ⊥
