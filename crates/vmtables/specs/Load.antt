-- What `load` does.
use Rattle.std.specs.Prelude.{◌≡◌, ℕ, ◌*◌, Bool, true, false, List, Result, Ok, Err}
use Rattle.vt_bytes.specs.Memory.{seen}
use Rattle.cfg_directory.specs.declared.item.Item.{Item}
use Rattle.cfg_directory.specs.Container.{IsContainer, read_so}
use Rattle.load_states.specs.LoadState.{LoadState, files_now, memory_of}
use Rattle.smbios_install.specs.declared.fault.InstallFault.{InstallFault}
use Rattle.smbios_install.specs.Commands.{commands_in, LeaveBoth}
use Rattle.smbios_install.specs.Installed.{install_so}
use Rattle.smbios_install.specs.Standing.{HasInstalled}
use Rattle.vt_words.specs.declared.command.LoadOptions.{LoadOptions}
use Rattle.vmtables.specs.Calls.{Answering, Made, Seen}
use Rattle.vmtables.specs.Dumped.{IsDumpOf}
use Rattle.vmtables.specs.Loading.{IsImageLoaded, FailsToLoad}
use Rattle.vmtables.specs.declared.fault.Fault.{Fault}
use Rattle.vmtables.specs.declared.fault.Fault.TheVariants as fault

-- the address of a number of MiB
abbrev pub mib : ℕ → ℕ
mib count = count * 0x100000

-- What is loaded of the items of a container: these, or where that is asked for the items with which their SMBIOS files are installed, unless
-- there is a reason against it.
abbrev pub to_load : Bool → List Item → Result (List Item) InstallFault
to_load false items = Ok items
to_load true items = install_so items

-- the bytes are a container, and of its items these are loaded
pub record IsToLoad (install : Bool) (bytes : List ℕ) (items : List Item) : Type 0 where
  pub contained : List Item
  pub container : IsContainer bytes contained
  pub loaded : to_load install contained ≡ Ok items

-- the bytes are a container whose SMBIOS files aren't installed, though that is asked for, and this is the first reason
pub record IsNotInstalled (install : Bool) (bytes : List ℕ) (why : InstallFault) : Type 0 where
  pub contained : List Item
  pub container : IsContainer bytes contained
  pub refused : to_load install contained ≡ Err why

-- why nothing is loaded of the bytes: they are no container, and this is their first fault; or its SMBIOS files aren't installed; or memory
-- ran out
abbrev pub CannotBeRead : Bool → List ℕ → Fault → Type 0
CannotBeRead install bytes (fault.Container refused) = read_so bytes ≡ Err refused
CannotBeRead install bytes (fault.Install why) = IsNotInstalled install bytes why
CannotBeRead install bytes fault.OutOfMemory = Unit {0}
CannotBeRead install bytes _ = ⊥

-- Where SMBIOS files are installed, and no command in front of the added ones writes one of them in fw_cfg, a world's memory has them installed.
abbrev pub ShowsInstalled : Bool → List ℕ → LoadState → Type 0
ShowsInstalled false bytes world = Unit {0}
ShowsInstalled true bytes world =
    (contained : List Item) → IsContainer bytes contained → LeaveBoth (commands_in contained)
    → HasInstalled (seen (memory_of world)) (files_now world) contained

-- What `load` makes, with these options, of the bytes of its input: it loads the items that are to be loaded of those of which they are a
-- container, over the plan's events of its seed, and makes the dump of the world's memory, where their whole script is carried out. Where
-- nothing is loaded of the bytes, and where memory runs out before, the world, the allocator and the plan stay as they were. A load that ends
-- before its script leaves what the commands before left.
pub data LoadMakes (Gives : Answering) (options : LoadOptions) (bytes : List ℕ) (before after : Seen) : Made → Type 0 where
  loaded : (items : List Item) → IsToLoad options.install bytes items
      → (is : IsImageLoaded Gives items (mib options.top_mib) options.setting (Ok tt) before after)
      → ShowsInstalled options.install bytes is.world
      → {text : List ℕ} → IsDumpOf (memory_of is.world) text → LoadMakes Gives options bytes before after (Ok text)
  not_read : {why : Fault} → CannotBeRead options.install bytes why → after ≡ before → LoadMakes Gives options bytes before after (Err why)
  not_loaded : {why : Fault} (items : List Item) → IsToLoad options.install bytes items
      → FailsToLoad Gives items (mib options.top_mib) options.setting before after why → LoadMakes Gives options bytes before after (Err why)
