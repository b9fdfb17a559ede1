-- Faults of a command's own say nothing of its streams, and none of a boot is that of words which are no command.
use Rattle.std.proofs.Common.{◌≡◌, ◌≢◌, ℕ, Bool, List, Result, Ok, Err, sym, ◌∙◌}
use Rattle.std.specs.Result.{IsErrAnd}
use Rattle.cfg_directory.specs.declared.item.Item.{Item}
use Rattle.command_acts.specs.declared.fault.LoadFault.{LoadFault}
use Rattle.command_acts.specs.declared.fault.LoadFault.TheVariants as load
use Rattle.vt_words.specs.declared.command.LoadOptions.{LoadOptions}
use Rattle.vt_words.specs.declared.setting.Setting.{Setting}
use Rattle.machine_desc.specs.declared.machine.Machine.{Machine}
use Rattle.table_model.specs.declared.search.Search.{Search}
use Rattle.vmtables.specs.Boot.{BootMakes, FailsToBoot, too_large, not_built, without_room, without_memory}
use Rattle.vmtables.specs.Boot as boot_made
use Rattle.vmtables.specs.Build.{CannotBeBuilt}
use Rattle.vmtables.specs.Calls.{Answering, Seen}
use Rattle.vmtables.specs.Decode.{CannotBeListed, CannotBeTold}
use Rattle.vmtables.specs.Load.{LoadMakes, not_read, not_loaded}
use Rattle.vmtables.specs.Loading.{FailsToLoad, ended_early, not_begun}
use Rattle.vmtables.specs.Outcome.{status_of_fault, status_of_load}
use Rattle.vmtables.specs.declared.fault.Fault.{Fault}
use Rattle.vmtables.specs.declared.fault.Fault.TheVariants as fault
use Rattle.vmtables.specs.declared.status.Status.TheVariants as status
use Rattle.vmtables.proofs.Endings.{IsQuiet}
use Rattle.vmtables.proofs.Refused.{IsUnbuilt, undescribed, of_large, no_memory, why_unbuilt, IsUnread, not_container, not_installed, no_room}
use Rattle.vmtables.proofs.Refused.{why_unread}
use Rattle.vmtables.proofs.Refused.{IsUnlisted, no_dump, tables, memory, why_unlisted, IsUndescribed, none_read, unread, why_undescribed}
use Rattle.vmtables.proofs.Refused.{IsUntold, unlisted, no_machine, why_untold}

quiet_description : IsQuiet status.DescriptionRefused
quiet_description = record { done = λ is. cc; read = λ is. cc; long = λ is. cc; written = λ is. cc }

quiet_image : IsQuiet status.ImageRefused
quiet_image = record { done = λ is. cc; read = λ is. cc; long = λ is. cc; written = λ is. cc }

quiet_large : IsQuiet status.ImageTooLarge
quiet_large = record { done = λ is. cc; read = λ is. cc; long = λ is. cc; written = λ is. cc }

quiet_room : IsQuiet status.NoRoom
quiet_room = record { done = λ is. cc; read = λ is. cc; long = λ is. cc; written = λ is. cc }

quiet_memory : IsQuiet status.OutOfMemory
quiet_memory = record { done = λ is. cc; read = λ is. cc; long = λ is. cc; written = λ is. cc }

quiet_dump : IsQuiet status.DumpRefused
quiet_dump = record { done = λ is. cc; read = λ is. cc; long = λ is. cc; written = λ is. cc }

quiet_tables : IsQuiet status.TablesRefused
quiet_tables = record { done = λ is. cc; read = λ is. cc; long = λ is. cc; written = λ is. cc }

unbuilt_quiet : (bytes : List ℕ) (f : Fault) → IsUnbuilt bytes f → IsQuiet (status_of_fault f)
unbuilt_quiet bytes f (undescribed read) = quiet_description
unbuilt_quiet bytes f (of_large large) = quiet_large
unbuilt_quiet bytes f no_memory = quiet_memory

pub build_quiet : (bytes : List ℕ) (f : Fault) → CannotBeBuilt bytes f → IsQuiet (status_of_fault f)
build_quiet bytes f cannot = unbuilt_quiet bytes f (why_unbuilt bytes f cannot)

unread_quiet : (install : Bool) (bytes : List ℕ) (f : Fault) → IsUnread install bytes f → IsQuiet (status_of_fault f)
unread_quiet install bytes f (not_container read) = quiet_image
unread_quiet install bytes f (not_installed refused) = quiet_image
unread_quiet install bytes f no_room = quiet_memory

unlisted_quiet : (search : Search) (bytes : List ℕ) (f : Fault) → IsUnlisted search bytes f → IsQuiet (status_of_fault f)
unlisted_quiet search bytes f (no_dump read line) = quiet_dump
unlisted_quiet search bytes f (tables refuses) = quiet_tables
unlisted_quiet search bytes f memory = quiet_memory

pub list_quiet : (search : Search) (bytes : List ℕ) (f : Fault) → CannotBeListed search bytes f → IsQuiet (status_of_fault f)
list_quiet search bytes f cannot = unlisted_quiet search bytes f (why_unlisted search bytes f cannot)

load_quiet : (why : LoadFault) → IsQuiet (status_of_load why)
load_quiet load.NoScript = quiet_image
load_quiet load.ScriptLength = quiet_image
load_quiet (load.Command index cause) = quiet_image
load_quiet (load.NoRoom index) = quiet_room

untold_quiet : (search : Search) (bytes : List ℕ) (f : Fault) → IsUntold search bytes f → IsQuiet (status_of_fault f)
untold_quiet search bytes f (unlisted cannot) = list_quiet search bytes f cannot
untold_quiet search bytes f (no_machine fails) = quiet_tables

pub tell_quiet : (search : Search) (bytes : List ℕ) (f : Fault) → CannotBeTold search bytes f → IsQuiet (status_of_fault f)
tell_quiet search bytes f cannot = untold_quiet search bytes f (why_untold search bytes f cannot)

undescribed_quiet : (bytes : List ℕ) (f : Fault) → IsUndescribed bytes f → IsQuiet (status_of_fault f)
undescribed_quiet bytes f (none_read read) = quiet_description
undescribed_quiet bytes f unread = quiet_memory

machine_quiet : (Gives : Answering) (setting : Setting) (m : Machine) (before after : Seen) (f : Fault)
    → FailsToBoot Gives setting m before after f → IsQuiet (status_of_fault f)
machine_quiet Gives setting m before after f (too_large large same) = quiet_large
machine_quiet Gives setting m before after f (not_built same) = quiet_memory
machine_quiet Gives setting m before after f (without_room small loaded refusal) = quiet_room
machine_quiet Gives setting m before after f (without_memory unloaded) = quiet_memory

pub boot_quiet : (Gives : Answering) (setting : Setting) (bytes : List ℕ) (before after : Seen) (f : Fault)
    → BootMakes Gives setting bytes before after (Err f) → IsQuiet (status_of_fault f)
boot_quiet Gives setting bytes before after f (boot_made.not_read cannot same) = undescribed_quiet bytes f (why_undescribed bytes f cannot)
boot_quiet Gives setting bytes before after f (boot_made.not_booted m read fails) = machine_quiet Gives setting m before after f fails

failed_quiet : (Gives : Answering) (items : List Item) (top : ℕ) (setting : Setting) (before after : Seen) (f : Fault)
    → FailsToLoad Gives items top setting before after f → IsQuiet (status_of_fault f)
failed_quiet Gives items top setting before after f (ended_early {why = why} loaded) = load_quiet why
failed_quiet Gives items top setting before after f (not_begun unloaded) = quiet_memory

pub container_quiet : (Gives : Answering) (options : LoadOptions) (bytes : List ℕ) (before after : Seen) (f : Fault)
    → LoadMakes Gives options bytes before after (Err f) → IsQuiet (status_of_fault f)
container_quiet Gives options bytes before after f (not_read cannot same) = unread_quiet options.install bytes f (why_unread options.install bytes f cannot)
container_quiet Gives options bytes before after f (not_loaded items contained failed) = failed_quiet Gives items _ options.setting before after f failed

-- Nor is one of a load or a boot that of words which are no command.

abbrev failed_for : Fault → Result (Unit {0}) Fault
failed_for f = Err f

same_failure : (a b : Fault) → failed_for a ≡ failed_for b → a ≡ b
same_failure a b is = cc

unread_known : (install : Bool) (bytes : List ℕ) (f : Fault) → IsUnread install bytes f → f ≢ fault.Usage
unread_known install bytes f (not_container read) = λ is. cc
unread_known install bytes f (not_installed refused) = λ is. cc
unread_known install bytes f no_room = λ is. cc

unloaded_known : (Gives : Answering) (items : List Item) (top : ℕ) (setting : Setting) (before after : Seen) (f : Fault)
    → FailsToLoad Gives items top setting before after f → f ≢ fault.Usage
unloaded_known Gives items top setting before after f (ended_early loaded) = λ is. cc
unloaded_known Gives items top setting before after f (not_begun unloaded) = λ is. cc

load_fault_known : (Gives : Answering) (options : LoadOptions) (bytes : List ℕ) (before after : Seen) (f : Fault)
    → LoadMakes Gives options bytes before after (Err f) → f ≢ fault.Usage
load_fault_known Gives options bytes before after f (not_read cannot same) = unread_known options.install bytes f (why_unread options.install bytes f cannot)
load_fault_known Gives options bytes before after f (not_loaded items contained failed) =
    unloaded_known Gives items _ options.setting before after f failed

pub load_known : (Gives : Answering) (options : LoadOptions) (bytes : List ℕ) (before after : Seen) (f : Fault) (r : Result (Unit {0}) Fault)
    → LoadMakes Gives options bytes before after (Err f) → IsErrAnd r (λ ended. ended ≡ f) → r ≢ Err fault.Usage
load_known Gives options bytes before after f (Ok done) makes is = absurd is
load_known Gives options bytes before after f (Err ended) makes is =
    λ usage. load_fault_known Gives options bytes before after f makes (sym is ∙ same_failure ended fault.Usage usage)

machine_known : (Gives : Answering) (setting : Setting) (m : Machine) (before after : Seen) (f : Fault)
    → FailsToBoot Gives setting m before after f → f ≢ fault.Usage
machine_known Gives setting m before after f (too_large large same) = λ is. cc
machine_known Gives setting m before after f (not_built same) = λ is. cc
machine_known Gives setting m before after f (without_room small loaded refusal) = λ is. cc
machine_known Gives setting m before after f (without_memory unloaded) = λ is. cc

undescribed_known : (bytes : List ℕ) (f : Fault) → IsUndescribed bytes f → f ≢ fault.Usage
undescribed_known bytes f (none_read read) = λ is. cc
undescribed_known bytes f unread = λ is. cc

boot_fault_known : (Gives : Answering) (setting : Setting) (bytes : List ℕ) (before after : Seen) (f : Fault)
    → BootMakes Gives setting bytes before after (Err f) → f ≢ fault.Usage
boot_fault_known Gives setting bytes before after f (boot_made.not_read cannot same) = undescribed_known bytes f (why_undescribed bytes f cannot)
boot_fault_known Gives setting bytes before after f (boot_made.not_booted m read fails) = machine_known Gives setting m before after f fails

pub boot_known : (Gives : Answering) (setting : Setting) (bytes : List ℕ) (before after : Seen) (f : Fault) (r : Result (Unit {0}) Fault)
    → BootMakes Gives setting bytes before after (Err f) → IsErrAnd r (λ ended. ended ≡ f) → r ≢ Err fault.Usage
boot_known Gives setting bytes before after f (Ok done) makes is = absurd is
boot_known Gives setting bytes before after f (Err ended) makes is =
    λ usage. boot_fault_known Gives setting bytes before after f makes (sym is ∙ same_failure ended fault.Usage usage)
