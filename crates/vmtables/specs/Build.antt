-- What `build` does.
use Rattle.std.specs.Prelude.{◌≡◌, ℕ, ◌≤◌, List, Ok, Err}
use Rattle.cfg_directory.specs.Items.{total_size}
use Rattle.cfg_directory.specs.Container.{IsContainer, container_of}
use Rattle.machine_desc.specs.declared.machine.Machine.{Machine}
use Rattle.desc_toml.specs.Reading.{Reads, read_of}
use Rattle.image_files.specs.Items.{image_limit}
use Rattle.vm_image.specs.Image.{image_items}
use Rattle.vmtables.specs.Calls.{Made, Seen}
use Rattle.vmtables.specs.Described.{IsTooLarge}
use Rattle.vmtables.specs.declared.fault.Fault.{Fault}
use Rattle.vmtables.specs.declared.fault.Fault.TheVariants as fault

-- The text is the container, with zeros in its reserved fields, of the image of the machine that is read from the bytes.
pub record IsImage (bytes text : List ℕ) : Type 0 where
  pub machine : Machine
  pub read : Reads bytes machine
  pub small : total_size (image_items machine) ≤ image_limit
  pub text_is : text ≡ container_of (image_items machine)
  pub contained : IsContainer text (image_items machine)

-- why no image is made of the bytes: they describe no machine, or one whose files have too many bytes, or memory ran out
abbrev pub CannotBeBuilt : List ℕ → Fault → Type 0
CannotBeBuilt bytes (fault.Description refused) = read_of bytes ≡ Err refused
CannotBeBuilt bytes fault.ImageTooLarge = IsTooLarge bytes
CannotBeBuilt bytes fault.OutOfMemory = Unit {0}
CannotBeBuilt bytes _ = ⊥

-- What `build` makes of the bytes of its input. The world, the allocator and the plan stay as they were.
pub data BuildMakes (bytes : List ℕ) (before after : Seen) : Made → Type 0 where
  built : {text : List ℕ} → IsImage bytes text → after ≡ before → BuildMakes bytes before after (Ok text)
  not_built : {why : Fault} → CannotBeBuilt bytes why → after ≡ before → BuildMakes bytes before after (Err why)
