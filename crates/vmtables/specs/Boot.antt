-- What `boot` does.
use Rattle.std.specs.Prelude.{◌≡◌, ℕ, ◌<◌, ◌≤◌, false, List, [], Ok, Err, map}
use Rattle.std.specs.List.{AllByRecursion}
use Rattle.vt_outside.specs.Placement.{Range}
use Rattle.machine_desc.specs.declared.machine.Machine.{Machine}
use Rattle.desc_toml.specs.Reading.{Reads}
use Rattle.loader_script.specs.Run.{Done}
use Rattle.loader_script.specs.Left.{IsOutside}
use Rattle.cfg_directory.specs.Items.{total_size}
use Rattle.cfg_directory.specs.Files.{files_of}
use Rattle.image_files.specs.Items.{image_limit}
use Rattle.image_files.specs.Places.{ArePlaces}
use Rattle.vm_image.specs.Image.{image_files, image_items, image_script}
use Rattle.vm_image.specs.Promised.{top_of, told_files, HoldsFiles}
use Rattle.vt_bytes.specs.Memory.{IsRam, at, seen}
use Rattle.table_model.specs.Inventory.{Shows, inventory_of}
use Rattle.command_acts.specs.Runs.{IsRun}
use Rattle.command_acts.specs.Script.{script_in}
use Rattle.command_acts.specs.declared.fault.LoadFault.TheVariants.{NoRoom}
use Rattle.vt_words.specs.declared.setting.Setting.{Setting}
use Rattle.load_states.specs.Guarded.{is_work}
use Rattle.load_states.specs.Kept.{IsCleared, IsTold}
use Rattle.load_states.specs.LoadState.{memory_of, items_now, files_now, progress_of}
use Rattle.load_states.specs.Runs.{GivesLawful, NeverEnds, left_by_others}
use Rattle.vmtables.specs.Calls.{Answering, Made, Seen}
use Rattle.vmtables.specs.Described.{CannotBeDescribed}
use Rattle.vmtables.specs.Dumped.{IsDumpOf}
use Rattle.vmtables.specs.Loading.{IsImageLoaded, IsRefusedFree, IsUnloaded}
use Rattle.vmtables.specs.declared.fault.Fault.{Fault}
use Rattle.vmtables.specs.declared.fault.Fault.TheVariants as fault

-- A machine is booted, with this setting: the items of its image, which have few bytes, are loaded over the plan's events of its seed, their
-- script is its script, which is carried out whole with the files at lawful places, and memory holds them. Of the files of fw_cfg it writes
-- only the one that tells the host where the id of the generation is, where there is an id. The rest is as the other processors left it over the
-- events that were taken, but for the firmware's work range, which holds the fill byte; of high memory that is said where no reset is among them.
-- Whatever lawful places its files had been given before a reset, the load hadn't ended there. Memory shows, from its RSDP and its anchor, exactly
-- the machine's inventory.
pub record IsMachineBooted (Gives : Answering) (setting : Setting) (machine : Machine) (before after : Seen) : Type 0 where
  pub small : total_size (image_items machine) ≤ image_limit
  pub loaded : IsImageLoaded Gives (image_items machine) (top_of machine) setting (Ok tt) before after
  pub unended : AllByRecursion (λ piece. NeverEnds (GivesLawful (top_of machine)) piece loaded.begun) loaded.load.since.pieces
  pub script : script_in (image_items machine) ≡ Ok (image_script machine)
  pub ran : IsRun (Gives after.place.begun) (files_of (image_items machine)) (image_script machine) after.place.handed Done (progress_of loaded.world)
  pub files : files_of (items_now loaded.world) ≡ told_files machine (files_now loaded.world)
  pub lawful : ArePlaces (top_of machine) [] (image_files machine) (map (λ (r : Range). r.start) after.place.handed)
  pub holds : HoldsFiles (memory_of loaded.world) (files_now loaded.world)
  pub others : (address : ℕ) → IsRam (top_of machine) address → is_work address ≡ false
      → IsOutside (files_now loaded.world) address → IsTold (top_of machine) loaded.load.taken address
      → at (memory_of loaded.world) address ≡ left_by_others (top_of machine) setting.fill loaded.load.taken address
  pub cleared : IsCleared (memory_of loaded.world)
  pub shown : Shows (memory_of loaded.world).top (seen (memory_of loaded.world)) (inventory_of machine)

-- How the boot of a machine fails. Where its files are too many, or memory runs out before a world is begun, the world, the allocator and the
-- plan stay as they were. No command of an image's script is refused; an allocator may give no place for a file, and then the last request that
-- it refused is one for which a place is free. Where memory runs out before the load the machine isn't loaded.
pub data FailsToBoot (Gives : Answering) (setting : Setting) (machine : Machine) (before after : Seen) : Fault → Type 0 where
  too_large : image_limit < total_size (image_items machine) → after ≡ before → FailsToBoot Gives setting machine before after fault.ImageTooLarge
  not_built : after ≡ before → FailsToBoot Gives setting machine before after fault.OutOfMemory
  without_room : {index : ℕ} → total_size (image_items machine) ≤ image_limit
      → IsImageLoaded Gives (image_items machine) (top_of machine) setting (Err (NoRoom index)) before after
      → IsRefusedFree (Gives after.place.begun) (top_of machine) after.place.handed after.place.refused
      → FailsToBoot Gives setting machine before after (fault.Load (NoRoom index))
  without_memory : IsUnloaded (image_items machine) (top_of machine) setting.fill before after
      → FailsToBoot Gives setting machine before after fault.OutOfMemory

-- The machine of a description is booted, with this setting: it is read from the bytes.
pub record IsBooted (Gives : Answering) (setting : Setting) (bytes : List ℕ) (before after : Seen) : Type 0 where
  pub machine : Machine
  pub read : Reads bytes machine
  pub booted : IsMachineBooted Gives setting machine before after

-- What `boot` makes, with this setting, of the bytes of its input: it boots the machine that they describe, and makes the dump of the world's
-- memory. Where they describe none, or memory runs out, the world, the allocator and the plan stay as they were.
pub data BootMakes (Gives : Answering) (setting : Setting) (bytes : List ℕ) (before after : Seen) : Made → Type 0 where
  booted : (is : IsBooted Gives setting bytes before after) {text : List ℕ} → IsDumpOf (memory_of is.booted.loaded.world) text
      → BootMakes Gives setting bytes before after (Ok text)
  not_read : {why : Fault} → CannotBeDescribed bytes why → after ≡ before → BootMakes Gives setting bytes before after (Err why)
  not_booted : {why : Fault} (machine : Machine) → Reads bytes machine → FailsToBoot Gives setting machine before after why
      → BootMakes Gives setting bytes before after (Err why)
