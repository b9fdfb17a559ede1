-- What is promised of the image of a machine.
use Rattle.std.specs.Prelude.{◌≡◌, false, List, Some}
use Rattle.std.specs.List.{flat_map, AllByRecursion}
use Rattle.loader_script.specs.declared.entry.Entry.{Entry}
use Rattle.loader_script.specs.Spelling.{Fits, entry_bytes}
use Rattle.loader_script.specs.Run.{file_of}
use Rattle.cfg_directory.specs.declared.item.Item.{Item}
use Rattle.machine_desc.specs.declared.machine.Machine.{Machine}
use Rattle.cfg_directory.specs.Files.{files_of}
use Rattle.loader_script.specs.LoaderName.{loader_name}
use Rattle.image_files.specs.Linkable.{AreLinkable}
use Rattle.image_files.specs.Linked.{BeginsWith}
use Rattle.image_files.specs.Room.{HaveRoom}
use Rattle.vm_image.specs.Image.{image_files, image_script, image_items}
use Rattle.vm_image.specs.Promised.{top_of, IsLoadedAnywhere, IsShownAnywhere}

-- The items are those of the machine's files, each as it is, and of its script's, which spells the script, whose commands fit their
-- entries. The files can be placed and linked, and there is room for them, whatever lawful places those before were given. Wherever they
-- come to stand, no command is refused, and a memory that holds them shows exactly the machine's inventory, whatever its fill byte is.
pub record IsBuilt (m : Machine) (items : List Item) (script : List Entry) : Type 0 where
  pub items_are : items ≡ image_items m
  pub script_is : script ≡ image_script m
  pub fits : AllByRecursion Fits script
  pub spelled : file_of (files_of items) loader_name ≡ Some (record { name = loader_name; bytes = flat_map entry_bytes script; writable = false })
  pub there : BeginsWith (files_of items) (image_files m)
  pub linkable : AreLinkable (image_files m)
  pub room : HaveRoom (top_of m) (image_files m)
  pub loaded : IsLoadedAnywhere m
  pub shown : IsShownAnywhere m
