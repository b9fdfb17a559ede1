-- Why no machine is read of bytes or booted, why no image is made of them, why they aren't read as a container, and why nothing is listed or told of
-- them: the faults that these may be.
use Rattle.std.proofs.Common.{◌≡◌, ◌<◌, ◌⊎◌, inl, inr, Bool, List, ℕ, Result, Ok, Err, IfErr, refl, subst}
use Rattle.std.specs.Result.{IsErrAnd}
use Rattle.desc_toml.specs.declared.fault.DescFault.{DescFault}
use Rattle.machine_desc.specs.declared.machine.Machine.{Machine}
use Rattle.desc_toml.specs.Reading.{Reads, read_of}
use Rattle.cfg_directory.specs.declared.container.ImageFault.{ImageFault}
use Rattle.cfg_directory.specs.Container.{read_so}
use Rattle.memory_dump.specs.declared.fault.DumpFault.{DumpFault}
use Rattle.memory_dump.specs.Reading.{read_so as read_dump_so}
use Rattle.anchor_scan.specs.declared.fault.ScanFault.{ScanFault}
use Rattle.table_describe.specs.declared.description.DescribeFault.{DescribeFault}
use Rattle.table_describe.specs.declared.description.DescribeFault.TheVariants as describing
use Rattle.table_describe.specs.Failing.{IsFirstFailing}
use Rattle.table_model.specs.declared.inventory.Inventory.{Inventory}
use Rattle.smbios_install.specs.declared.fault.InstallFault.{InstallFault}
use Rattle.vt_words.specs.declared.command.LoadOptions.{LoadOptions}
use Rattle.vt_words.specs.declared.setting.Setting.{Setting}
use Rattle.cfg_directory.specs.Items.{total_size}
use Rattle.image_files.specs.Items.{image_limit}
use Rattle.vm_image.specs.Image.{image_items}
use Rattle.table_model.specs.declared.search.Search.{Search}
use Rattle.vmtables.specs.Boot.{BootMakes, FailsToBoot, too_large, not_built, not_read}
use Rattle.vmtables.specs.Build.{CannotBeBuilt}
use Rattle.vmtables.specs.Calls.{Answering, Seen}
use Rattle.vmtables.specs.Causes.{IsOfDescribing}
use Rattle.vmtables.specs.Decode.{CannotBeListed, CannotBeTold, DumpFails, DumpRefuses, DumpShows}
use Rattle.vmtables.specs.Described.{CannotBeDescribed, HasNoImage, IsTooLarge}
use Rattle.vmtables.specs.Load.{CannotBeRead, IsNotInstalled, LoadMakes}
use Rattle.vmtables.specs.Load as load_made
use Rattle.vmtables.specs.Outcome.{faulty_line}
use Rattle.vmtables.specs.declared.fault.Fault.{Fault}
use Rattle.vmtables.specs.declared.fault.Fault.TheVariants as fault

-- a fault for which no image is made
pub data IsUnbuilt (bytes : List ℕ) : Fault → Type 0 where
  undescribed : {why : DescFault} → read_of bytes ≡ Err why → IsUnbuilt bytes (fault.Description why)
  of_large : IsTooLarge bytes → IsUnbuilt bytes fault.ImageTooLarge
  no_memory : IsUnbuilt bytes fault.OutOfMemory

pub why_unbuilt : (bytes : List ℕ) (f : Fault) → CannotBeBuilt bytes f → IsUnbuilt bytes f
why_unbuilt bytes (fault.Description why) is = undescribed is
why_unbuilt bytes fault.ImageTooLarge is = of_large is
why_unbuilt bytes fault.OutOfMemory is = no_memory
why_unbuilt bytes fault.ReadFault is = absurd is
why_unbuilt bytes fault.Usage is = absurd is
why_unbuilt bytes (fault.Container why) is = absurd is
why_unbuilt bytes (fault.Install why) is = absurd is
why_unbuilt bytes (fault.Load why) is = absurd is
why_unbuilt bytes (fault.Dump why line) is = absurd is
why_unbuilt bytes (fault.Tables why) is = absurd is
why_unbuilt bytes (fault.NotProfile item) is = absurd is
why_unbuilt bytes fault.WriteFault is = absurd is
why_unbuilt bytes fault.InputTooLong is = absurd is

-- a fault for which nothing is loaded of a container
pub data IsUnread (install : Bool) (bytes : List ℕ) : Fault → Type 0 where
  not_container : {why : ImageFault} → read_so bytes ≡ Err why → IsUnread install bytes (fault.Container why)
  not_installed : {why : InstallFault} → IsNotInstalled install bytes why → IsUnread install bytes (fault.Install why)
  no_room : IsUnread install bytes fault.OutOfMemory

pub why_unread : (install : Bool) (bytes : List ℕ) (f : Fault) → CannotBeRead install bytes f → IsUnread install bytes f
why_unread install bytes (fault.Container why) is = not_container is
why_unread install bytes (fault.Install why) is = not_installed is
why_unread install bytes fault.OutOfMemory is = no_room
why_unread install bytes (fault.Description why) is = absurd is
why_unread install bytes fault.ImageTooLarge is = absurd is
why_unread install bytes fault.ReadFault is = absurd is
why_unread install bytes fault.Usage is = absurd is
why_unread install bytes (fault.Load why) is = absurd is
why_unread install bytes (fault.Dump why line) is = absurd is
why_unread install bytes (fault.Tables why) is = absurd is
why_unread install bytes (fault.NotProfile item) is = absurd is
why_unread install bytes fault.WriteFault is = absurd is
why_unread install bytes fault.InputTooLong is = absurd is

-- a fault for which nothing is listed
pub data IsUnlisted (search : Search) (bytes : List ℕ) : Fault → Type 0 where
  no_dump : {why : DumpFault} {line : ℕ} → read_dump_so bytes ≡ Err why → line ≡ faulty_line bytes why → IsUnlisted search bytes (fault.Dump why line)
  tables : {why : ScanFault} → DumpRefuses search bytes why → IsUnlisted search bytes (fault.Tables why)
  memory : IsUnlisted search bytes fault.OutOfMemory

pub why_unlisted : (search : Search) (bytes : List ℕ) (f : Fault) → CannotBeListed search bytes f → IsUnlisted search bytes f
why_unlisted search bytes (fault.Dump why line) is = no_dump is.0 is.1
why_unlisted search bytes (fault.Tables why) is = tables is
why_unlisted search bytes fault.OutOfMemory is = memory
why_unlisted search bytes (fault.Container why) is = absurd is
why_unlisted search bytes (fault.Install why) is = absurd is
why_unlisted search bytes (fault.Description why) is = absurd is
why_unlisted search bytes fault.ImageTooLarge is = absurd is
why_unlisted search bytes (fault.NotProfile item) is = absurd is
why_unlisted search bytes fault.ReadFault is = absurd is
why_unlisted search bytes fault.Usage is = absurd is
why_unlisted search bytes (fault.Load why) is = absurd is
why_unlisted search bytes fault.WriteFault is = absurd is
why_unlisted search bytes fault.InputTooLong is = absurd is

-- a fault for which no machine is read
pub data IsUndescribed (bytes : List ℕ) : Fault → Type 0 where
  none_read : {why : DescFault} → read_of bytes ≡ Err why → IsUndescribed bytes (fault.Description why)
  unread : IsUndescribed bytes fault.OutOfMemory

pub why_undescribed : (bytes : List ℕ) (f : Fault) → CannotBeDescribed bytes f → IsUndescribed bytes f
why_undescribed bytes (fault.Description why) is = none_read is
why_undescribed bytes fault.OutOfMemory is = unread
why_undescribed bytes fault.ImageTooLarge is = absurd is
why_undescribed bytes fault.ReadFault is = absurd is
why_undescribed bytes fault.Usage is = absurd is
why_undescribed bytes (fault.Container why) is = absurd is
why_undescribed bytes (fault.Install why) is = absurd is
why_undescribed bytes (fault.Load why) is = absurd is
why_undescribed bytes (fault.Dump why line) is = absurd is
why_undescribed bytes (fault.Tables why) is = absurd is
why_undescribed bytes (fault.NotProfile item) is = absurd is
why_undescribed bytes fault.WriteFault is = absurd is
why_undescribed bytes fault.InputTooLong is = absurd is

-- a fault for which a machine has no image
pub data IsImageless (m : Machine) : Fault → Type 0 where
  large : image_limit < total_size (image_items m) → IsImageless m fault.ImageTooLarge
  unmade : IsImageless m fault.OutOfMemory

pub why_imageless : (m : Machine) (f : Fault) → HasNoImage m f → IsImageless m f
why_imageless m fault.ImageTooLarge is = large is
why_imageless m fault.OutOfMemory is = unmade
why_imageless m (fault.Description why) is = absurd is
why_imageless m fault.ReadFault is = absurd is
why_imageless m fault.Usage is = absurd is
why_imageless m (fault.Container why) is = absurd is
why_imageless m (fault.Install why) is = absurd is
why_imageless m (fault.Load why) is = absurd is
why_imageless m (fault.Dump why line) is = absurd is
why_imageless m (fault.Tables why) is = absurd is
why_imageless m (fault.NotProfile item) is = absurd is
why_imageless m fault.WriteFault is = absurd is
why_imageless m fault.InputTooLong is = absurd is

-- no image is made of bytes of which no machine is read, nor of those whose machine has none

undescribed_unbuilt : (bytes : List ℕ) (f : Fault) → IsUndescribed bytes f → CannotBeBuilt bytes f
undescribed_unbuilt bytes f (none_read read) = read
undescribed_unbuilt bytes f unread = tt

unbuilt_described : (bytes : List ℕ) (f : Fault) → CannotBeDescribed bytes f → CannotBeBuilt bytes f
unbuilt_described bytes f cannot = undescribed_unbuilt bytes f (why_undescribed bytes f cannot)

imageless_unbuilt : (bytes : List ℕ) (m : Machine) (f : Fault) → Reads bytes m → IsImageless m f → CannotBeBuilt bytes f
imageless_unbuilt bytes m f read (large more) = (m, read, more)
imageless_unbuilt bytes m f read unmade = tt

unbuilt_machine : (bytes : List ℕ) (m : Machine) (f : Fault) → Reads bytes m → HasNoImage m f → CannotBeBuilt bytes f
unbuilt_machine bytes m f read none = imageless_unbuilt bytes m f read (why_imageless m f none)

pub undescribed_container : {A : Type 0} (bytes : List ℕ) (f : Fault) (r : Result A Fault) → CannotBeDescribed bytes f → IsErrAnd r (λ ended. ended ≡ f)
    → IfErr r (CannotBeBuilt bytes)
undescribed_container bytes f (Ok made) cannot is = absurd is
undescribed_container bytes f (Err ended) cannot is = rw is (unbuilt_described bytes f cannot)

pub imageless_container : {A : Type 0} (m : Machine) (f : Fault) (r : Result A Fault) → HasNoImage m f → IsErrAnd r (λ ended. ended ≡ f)
    → IfErr r (λ ended. (bytes : List ℕ) → Reads bytes m → CannotBeBuilt bytes ended)
imageless_container m f (Ok made) none is = absurd is
imageless_container m f (Err ended) none is = λ bytes read. rw is (unbuilt_machine bytes m f read none)

-- a fault for which no machine is told of a dump: one for which nothing is listed, or that of an inventory which is no machine's
pub data IsUntold (search : Search) (bytes : List ℕ) : Fault → Type 0 where
  unlisted : {f : Fault} → CannotBeListed search bytes f → IsUntold search bytes f
  no_machine : {item : ℕ} → DumpFails search bytes item → IsUntold search bytes (fault.NotProfile item)

pub why_untold : (search : Search) (bytes : List ℕ) (f : Fault) → CannotBeTold search bytes f → IsUntold search bytes f
why_untold search bytes (fault.NotProfile item) is = no_machine is
why_untold search bytes (fault.Dump why line) is = unlisted is
why_untold search bytes (fault.Tables why) is = unlisted is
why_untold search bytes fault.OutOfMemory is = unlisted is
why_untold search bytes (fault.Container why) is = absurd is
why_untold search bytes (fault.Install why) is = absurd is
why_untold search bytes (fault.Description why) is = absurd is
why_untold search bytes fault.ImageTooLarge is = absurd is
why_untold search bytes fault.ReadFault is = absurd is
why_untold search bytes fault.Usage is = absurd is
why_untold search bytes (fault.Load why) is = absurd is
why_untold search bytes fault.WriteFault is = absurd is
why_untold search bytes fault.InputTooLong is = absurd is

-- and so is nothing of a dump whose memory shows no machine's inventory
untold_fault : (search : Search) (bytes : List ℕ) (inventory : Inventory) (cause : DescribeFault) (f : Fault) → DumpShows search bytes inventory
    → (cause ≡ describing.OutOfMemory) ⊎ ((item : ℕ) × (cause ≡ describing.NotProfile item) × IsFirstFailing inventory item)
    → IsOfDescribing cause f → CannotBeTold search bytes f
untold_fault search bytes inventory describing.OutOfMemory f shows why is = rw is tt
untold_fault search bytes inventory (describing.NotProfile item) f shows (inl same) is = absurd (cc)
untold_fault search bytes inventory (describing.NotProfile item) f shows (inr (first, same, fails)) is =
    rw is (record { inventory = inventory; shows = shows; fails = subst (IsFirstFailing inventory) (cc) fails })

pub undescribed_so : (search : Search) {A : Type 0} (bytes : List ℕ) (inventory : Inventory) (cause : DescribeFault) (r : Result A Fault)
    → DumpShows search bytes inventory
    → (cause ≡ describing.OutOfMemory) ⊎ ((item : ℕ) × (cause ≡ describing.NotProfile item) × IsFirstFailing inventory item)
    → IsErrAnd r (IsOfDescribing cause) → IfErr r (CannotBeTold search bytes)
undescribed_so search bytes inventory cause (Ok done) shows why is = absurd is
undescribed_so search bytes inventory cause (Err f) shows why is = untold_fault search bytes inventory cause f shows why is

-- a boot of which no machine was read leaves all as it was
pub unread_boot : (Gives : Answering) (setting : Setting) (bytes : List ℕ) (seen : Seen) (f : Fault) (r : Result (Unit {0}) Fault)
    → CannotBeDescribed bytes f → IsErrAnd r (λ ended. ended ≡ f) → IfErr r (λ ended. BootMakes Gives setting bytes seen seen (Err ended))
unread_boot Gives setting bytes seen f (Ok done) cannot is = absurd is
unread_boot Gives setting bytes seen f (Err ended) cannot is = rw is (not_read cannot refl)

imageless_fails : (Gives : Answering) (setting : Setting) (m : Machine) (seen : Seen) (f : Fault) → IsImageless m f
    → FailsToBoot Gives setting m seen seen f
imageless_fails Gives setting m seen f (large more) = too_large more refl
imageless_fails Gives setting m seen f unmade = not_built refl

-- and so does one of a machine that has no image
pub without_image : (Gives : Answering) (setting : Setting) (m : Machine) (seen : Seen) (f : Fault) → HasNoImage m f
    → FailsToBoot Gives setting m seen seen f
without_image Gives setting m seen f none = imageless_fails Gives setting m seen f (why_imageless m f none)

pub unmade_boot : {A : Type 0} (Gives : Answering) (setting : Setting) (m : Machine) (seen : Seen) (f : Fault) (r : Result A Fault) → HasNoImage m f
    → IsErrAnd r (λ ended. ended ≡ f) → IfErr r (FailsToBoot Gives setting m seen seen)
unmade_boot Gives setting m seen f (Ok done) none is = absurd is
unmade_boot Gives setting m seen f (Err ended) none is = rw is (without_image Gives setting m seen f none)

-- and a load of a container of which nothing is loaded
pub unread_when : (Is : List ℕ → Type 0) (Gives : Answering) (options : LoadOptions) (seen : Seen) (f : Fault) (r : Result (Unit {0}) Fault)
    → ((bytes : List ℕ) → Is bytes → CannotBeRead options.install bytes f) → IsErrAnd r (λ ended. ended ≡ f)
    → IfErr r (λ ended. (bytes : List ℕ) → Is bytes → LoadMakes Gives options bytes seen seen (Err ended))
unread_when Is Gives options seen f (Ok done) cannot is = absurd is
unread_when Is Gives options seen f (Err ended) cannot is = rw is (λ bytes given. load_made.not_read (cannot bytes given) refl)
