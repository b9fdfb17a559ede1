-- Calls with a lawful input of which nothing outside failed: they are done, or memory ran out.
use Rattle.std.proofs.Common.{◌≡◌, ◌⊎◌, inl, inr, ℕ, Bool, ◌<◌, ◌≤◌, List, length, map, Some, IfErr, IfOk, Result, Ok, Err, arith, refl, ap, sym, subst, ◌∙◌}
use Rattle.vt_outside.specs.Placement.{Range}
use Rattle.vt_outside.specs.Stream.{SourceSeen, SinkSeen, Rose}
use Rattle.cfg_directory.specs.declared.item.Item.{Item}
use Rattle.cfg_directory.specs.Items.{total_size}
use Rattle.cfg_directory.proofs.Containers.{contained_is_read}
use Rattle.desc_toml.specs.declared.fault.DescFault.{DescFault}
use Rattle.cfg_directory.specs.declared.container.ImageFault.{ImageFault}
use Rattle.cfg_directory.specs.Files.{files_of}
use Rattle.image_files.specs.Items.{image_limit}
use Rattle.loader_script.specs.Run.{End, Done, Command, NoRoom, Progress, run}
use Rattle.machine_desc.specs.declared.machine.Machine.{Machine}
use Rattle.cfg_dma.specs.Device.{DeviceState}
use Rattle.load_states.specs.Loads.{HasRun}
use Rattle.command_acts.specs.declared.fault.LoadFault.{LoadFault}
use Rattle.command_acts.specs.Runs.{result_of}
use Rattle.command_acts.specs.Script.{script_in}
use Rattle.vm_image.specs.Image.{image_items}
use Rattle.smbios_install.specs.declared.fault.InstallFault.{InstallFault}
use Rattle.vt_words.specs.declared.command.Command.{Command as CommandOf}
use Rattle.vt_words.specs.declared.command.Command.TheVariants.{Boot, Build, Gen, Load}
use Rattle.vt_words.specs.declared.command.LoadOptions.{LoadOptions}
use Rattle.vt_words.specs.declared.setting.Setting.{Setting}
use Rattle.vmtables.specs.Boot.{BootMakes, FailsToBoot, too_large, not_built, without_room, without_memory}
use Rattle.vmtables.specs.Boot as boot_made
use Rattle.vmtables.specs.Build.{BuildMakes}
use Rattle.vmtables.specs.Build as build_made
use Rattle.vmtables.specs.Load.{IsToLoad, LoadMakes, mib, not_read, not_loaded, to_load}
use Rattle.vmtables.specs.Calls.{Answering, Input, Unread, Cut, Whole, Made, ReadsAll, ReadsNone, Said, Wrote, WasRead, Seen}
use Rattle.vmtables.specs.Complete.{Call, IsFed, HasRoom, IsDone, IsRefused, DescribesFew, RunsWhole}
use Rattle.vmtables.specs.Described.{IsTooLarge}
use Rattle.generated_machine.specs.Generated.{generated}
use Rattle.vmtables.specs.Generate.{GenMakes, not_counted, plain}
use Rattle.vmtables.specs.Loading.{IsImageLoaded, FailsToLoad, ended_early, not_begun}
use Rattle.vmtables.specs.Outcome.{input_limit, line_of, status_of, status_of_fault}
use Rattle.vmtables.proofs.Ends.{ends_as, for_want, with_text, with_fault}
use Rattle.vmtables.proofs.Refused.{IsUnbuilt, undescribed, of_large, no_memory, why_unbuilt, IsUnread, not_container, not_installed, no_room}
use Rattle.vmtables.proofs.Refused.{why_unread}
use Rattle.vmtables.proofs.Refused.{IsUndescribed, none_read, unread, why_undescribed}
use Rattle.vmtables.specs.declared.fault.Fault.{Fault}
use Rattle.vmtables.specs.declared.fault.Fault.TheVariants as fault
use Rattle.vmtables.specs.declared.status.Status.TheVariants as status

-- the call ended done, or for want of memory
abbrev Completed : Result (Unit {0}) Fault → Type 0
Completed ended = (status_of ended ≡ status.Ok) ⊎ (status_of ended ≡ status.OutOfMemory)

-- How a call ends that is done, runs out of memory, or makes a fault of the bytes that the source had.
pub whole_call : (Makes : List ℕ → Seen → Seen → Made → Type 0) (before after : Seen) (bytes : List ℕ) (in_all : Input) (made : Made)
    (ended : Result (Unit {0}) Fault) (source source_after : SourceSeen) (out out_after : SinkSeen)
    → source.left ≡ Some bytes → length bytes ≤ input_limit → (Rose source.faults source_after.faults → ⊥) → (Rose out.faults out_after.faults → ⊥)
    → ReadsAll Makes before after in_all made → WasRead in_all source source_after → Wrote made ended out out_after
    → ((f : Fault) → Makes bytes before after (Err f) → Completed (Err f)) → Completed ended
whole_call Makes before after bytes in_all made ended source source_after out out_after had within read written did was wrote own =
    elim (ends_as Makes before after bytes in_all made ended source source_after out out_after had within read written did was wrote) [
      | for_want is ↦ inr (ap status_of is)
      | with_text makes is took ↦ inl (ap status_of is)
      | with_fault {why = why} makes is ↦ subst Completed (sym is) (own why makes)
    ]

-- the same of a call as the contract of the top call says it
call_done : (Gives : Answering) (command : CommandOf) (call : Call Gives command) → Completed call.answered.ended → IsDone call
call_done Gives command call (inl done) = inl (call.answered.status ∙ done)
call_done Gives command call (inr memory) = inr (call.answered.status ∙ memory)

abbrev machine_read : Machine → Result Machine DescFault
machine_read m = Ok m

abbrev items_read : List Item → Result (List Item) ImageFault
items_read items = Ok items

-- two machines, and two lists of items, that were read of the same bytes
same_machine : (a b : Machine) → machine_read a ≡ Ok b → a ≡ b
same_machine a b is = cc

pub same_items : (a b : List Item) → items_read a ≡ Ok b → a ≡ b
same_items a b is = cc

-- a description of a machine whose files are few isn't one of a machine whose files are too many
pub not_too_large : (bytes : List ℕ) → DescribesFew bytes → IsTooLarge bytes → ⊥
not_too_large bytes few large =
    let same : few.0 ≡ large.0 = same_machine few.0 large.0 (sym few.1 ∙ large.1) in
    let size : total_size (image_items few.0) ≡ total_size (image_items large.0) = ap (λ (m : Machine). total_size (image_items m)) same in
    let less : image_limit < total_size (image_items few.0) = subst (λ n. image_limit < n) (sym size) large.2 in
    let more : total_size (image_items few.0) ≤ image_limit = few.2 in
    absurd (omega arith)

-- bytes of which an image can be made fail for want of memory alone
unbuilt_fault : (bytes : List ℕ) → DescribesFew bytes → (f : Fault) → IsUnbuilt bytes f → Completed (Err f)
unbuilt_fault bytes few f (undescribed read) = absurd (cc)
unbuilt_fault bytes few f (of_large large) = absurd (not_too_large bytes few large)
unbuilt_fault bytes few f no_memory = inr refl

-- bytes of which a machine is read fail for want of memory alone
undescribed_fault : (bytes : List ℕ) → DescribesFew bytes → (f : Fault) → IsUndescribed bytes f → Completed (Err f)
undescribed_fault bytes few f (none_read read) = absurd (cc)
undescribed_fault bytes few f unread = inr refl

-- and so does the boot of a machine whose files are few, where no place was refused
few_fault : (Gives : Answering) (setting : Setting) (m : Machine) (before after : Seen) → total_size (image_items m) ≤ image_limit
    → (Rose before.place.refusals after.place.refusals → ⊥) → (f : Fault) → FailsToBoot Gives setting m before after f → Completed (Err f)
few_fault Gives setting m before after few room f (too_large large same) = absurd (omega (arith, few, large))
few_fault Gives setting m before after few room f (not_built same) = inr refl
few_fault Gives setting m before after few room f (without_room {index = index} small loaded refusal) = absurd (room (loaded.no_room index refl).0)
few_fault Gives setting m before after few room f (without_memory unloaded) = inr refl

boot_fault : (Gives : Answering) (setting : Setting) (bytes : List ℕ) (before after : Seen) → DescribesFew bytes
    → (Rose before.place.refusals after.place.refusals → ⊥) → (f : Fault) → BootMakes Gives setting bytes before after (Err f) → Completed (Err f)
boot_fault Gives setting bytes before after few room f (boot_made.not_read cannot same) =
    undescribed_fault bytes few f (why_undescribed bytes f cannot)
boot_fault Gives setting bytes before after few room f (boot_made.not_booted m read fails) =
    let same : few.0 ≡ m = same_machine few.0 m (sym few.1 ∙ read) in
    few_fault Gives setting m before after (subst (λ (those : Machine). total_size (image_items those) ≤ image_limit) same few.2) room f fails

pub boot_completed : (Gives : Answering) (setting : Setting) (bytes : List ℕ) (call : Call Gives (Boot setting)) → DescribesFew bytes → IsFed bytes call
    → HasRoom call → IsDone call
boot_completed Gives setting bytes call few fed room =
    let ran = call.answered.ran in
    call_done Gives (Boot setting) call
    (whole_call (BootMakes Gives setting) call.before call.after bytes ran.input ran.made call.answered.ended call.source call.source_after call.out
    call.out_after
    fed.had fed.within fed.read fed.written ran.did ran.read ran.wrote (boot_fault Gives setting bytes call.before call.after few room))

build_fault : (bytes : List ℕ) (before after : Seen) → DescribesFew bytes → (f : Fault) → BuildMakes bytes before after (Err f) → Completed (Err f)
build_fault bytes before after few f (build_made.not_built cannot same) = unbuilt_fault bytes few f (why_unbuilt bytes f cannot)

pub build_completed : (Gives : Answering) (bytes : List ℕ) (call : Call Gives Build) → DescribesFew bytes → IsFed bytes call → IsDone call
build_completed Gives bytes call few fed =
    let ran = call.answered.ran in
    call_done Gives Build call
    (whole_call BuildMakes call.before call.after bytes ran.input ran.made call.answered.ended call.source call.source_after call.out call.out_after
    fed.had fed.within fed.read fed.written ran.did ran.read ran.wrote (build_fault bytes call.before call.after few))

abbrev load_ended : LoadFault → Result (Unit {0}) LoadFault
load_ended why = Err why

-- how a load of items ends whose script's run is done: not with a fault of a command, and for want of room alone
ended_whole : (why : LoadFault) (end : End) → end ≡ Done → load_ended why ≡ result_of end → ⊥
ended_whole why Done done is = absurd (cc)
ended_whole why (Command index cause) done is = absurd (cc)
ended_whole why (NoRoom index) done is = absurd (cc)

load_fault : (Gives : Answering) (items : List Item) (top : ℕ) (setting : Setting) (before after : Seen) (why : LoadFault)
    → RunsWhole items (map (λ (r : Range). r.start) after.place.handed) → IsImageLoaded Gives items top setting (Err why) before after → ⊥
load_fault Gives items top setting before after why whole loaded =
    let its_items = ap (λ (d : DeviceState). d.opening) loaded.was_begun.device in
    let ran : HasRun (Gives after.place.begun) items whole.0 after.place.handed (Err why) loaded.world =
    subst (λ read. IfOk read (λ those. HasRun (Gives after.place.begun) items those after.place.handed (Err why) loaded.world)) whole.1
    (subst (λ those. IfOk (script_in those) (λ script. HasRun (Gives after.place.begun) those script after.place.handed (Err why) loaded.world)) its_items
    loaded.load.leaves.ran) in
    let ends : (run (files_of items) whole.0 (map (λ (r : Range). r.start) after.place.handed)).0 ≡ ran.0 = ap (λ (e : End × Progress). e.0) ran.1.ends in
    ended_whole why ran.0 (sym ends ∙ whole.2) ran.2

-- two lists of items that are loaded of the same bytes
items_told : List Item → Result (List Item) InstallFault
items_told items = Ok items

pub same_loaded : (install : Bool) (bytes : List ℕ) (a b : List Item) → IsToLoad install bytes a → IsToLoad install bytes b → a ≡ b
unfolding items_told
same_loaded install bytes a b is also =
    let read = sym (contained_is_read bytes is.contained is.container) ∙ contained_is_read bytes also.contained also.container in
    let same : is.contained ≡ also.contained = same_items is.contained also.contained read in
    let both : items_told a ≡ items_told b = sym is.loaded ∙ ap (to_load install) same ∙ also.loaded in
    cc both

-- of bytes of which items are loaded nothing is loaded for want of memory alone
pub unread_want : (install : Bool) (bytes : List ℕ) (items : List Item) → IsToLoad install bytes items → (f : Fault) → IsUnread install bytes f
    → f ≡ fault.OutOfMemory
unread_want install bytes items is f (not_container refused) =
    let read = contained_is_read bytes is.contained is.container in
    absurd (cc)
unread_want install bytes items is f (not_installed refused) =
    let read = sym (contained_is_read bytes is.contained is.container) ∙ contained_is_read bytes refused.contained refused.container in
    let same : is.contained ≡ refused.contained = same_items is.contained refused.contained read in
    let both = sym is.loaded ∙ ap (to_load install) same ∙ refused.refused in
    absurd (cc both)
unread_want install bytes items is f no_room = refl

failed_load : (Gives : Answering) (items : List Item) (top : ℕ) (setting : Setting) (before after : Seen)
    → RunsWhole items (map (λ (r : Range). r.start) after.place.handed) → (f : Fault) → FailsToLoad Gives items top setting before after f
    → Completed (Err f)
failed_load Gives items top setting before after whole f (ended_early {why = why} loaded) =
    absurd (load_fault Gives items top setting before after why whole loaded)
failed_load Gives items top setting before after whole f (not_begun unloaded) = inr refl

load_ends : (Gives : Answering) (options : LoadOptions) (bytes : List ℕ) (items : List Item) (before after : Seen)
    → IsToLoad options.install bytes items → RunsWhole items (map (λ (r : Range). r.start) after.place.handed)
    → (f : Fault) → LoadMakes Gives options bytes before after (Err f) → Completed (Err f)
load_ends Gives options bytes items before after is whole f (not_read cannot same) =
    inr (ap status_of_fault (unread_want options.install bytes items is f (why_unread options.install bytes f cannot)))
load_ends Gives options bytes items before after is whole f (not_loaded others also failed) =
    let same : items ≡ others = same_loaded options.install bytes items others is also in
    failed_load Gives items (mib options.top_mib) options.setting before after whole f
    (subst (λ those. FailsToLoad Gives those (mib options.top_mib) options.setting before after f) (sym same) failed)

pub load_completed : (Gives : Answering) (options : LoadOptions) (bytes : List ℕ) (items : List Item) (call : Call Gives (Load options))
    → IsToLoad options.install bytes items → RunsWhole items (map (λ (r : Range). r.start) call.after.place.handed) → IsFed bytes call → HasRoom call
    → IsDone call
load_completed Gives options bytes items call is whole fed room =
    let ran = call.answered.ran in
    call_done Gives (Load options) call
    (whole_call (LoadMakes Gives options) call.before call.after bytes ran.input ran.made call.answered.ended call.source call.source_after
    call.out call.out_after fed.had fed.within fed.read fed.written ran.did ran.read ran.wrote
    (load_ends Gives options bytes items call.before call.after is whole))

-- a call that reads nothing is done, or ends with a fault that it makes
plain_call : (Makes : Seen → Seen → Made → Type 0) (before after : Seen) (in_all : Input) (made : Made) (ended : Result (Unit {0}) Fault)
    (out out_after : SinkSeen) → (Rose out.faults out_after.faults → ⊥) → ReadsNone Makes before after in_all made → Wrote made ended out out_after
    → ((f : Fault) → Makes before after (Err f) → Completed (Err f)) → Completed ended
plain_call Makes before after Unread (Ok text) (Ok done) out out_after written did wrote own = inl refl
plain_call Makes before after Unread (Ok text) (Err f) out out_after written did wrote own = absurd (written wrote.1.rose)
plain_call Makes before after Unread (Err made) (Ok done) out out_after written did wrote own = absurd wrote
plain_call Makes before after Unread (Err made) (Err f) out out_after written did wrote own =
    subst (λ g. Completed (Err g)) (sym wrote.0) (own made did)
plain_call Makes before after (Cut why) made ended out out_after written did wrote own = absurd did
plain_call Makes before after (Whole bytes) made ended out out_after written did wrote own = absurd did

abbrev ended_by : Fault → Result (Unit {0}) Fault
ended_by f = Err f

-- and it tells this fault, if its command makes no other, and no text
told_plain : (Makes : Seen → Seen → Made → Type 0) (before after : Seen) (in_all : Input) (made : Made) (ended : Result (Unit {0}) Fault)
    (out out_after : SinkSeen) (f : Fault) → (Rose out.faults out_after.faults → ⊥) → ReadsNone Makes before after in_all made
    → Wrote made ended out out_after → ((text : List ℕ) → Makes before after (Ok text) → ⊥)
    → ((g : Fault) → Makes before after (Err g) → (g ≡ f) ⊎ (g ≡ fault.OutOfMemory)) → (ended ≡ Err f) ⊎ (ended ≡ Err fault.OutOfMemory)
told_plain Makes before after Unread (Ok text) (Ok done) out out_after f written did wrote no_text one = absurd (no_text text did)
told_plain Makes before after Unread (Ok text) (Err g) out out_after f written did wrote no_text one = absurd (written wrote.1.rose)
told_plain Makes before after Unread (Err made) (Ok done) out out_after f written did wrote no_text one = absurd wrote
told_plain Makes before after Unread (Err made) (Err g) out out_after f written did wrote no_text one =
    elim (one made did) as (λ _. (ended_by g ≡ ended_by f) ⊎ (ended_by g ≡ ended_by fault.OutOfMemory)) [
      | inl same ↦ inl (ap ended_by (wrote.0 ∙ same))
      | inr want ↦ inr (ap ended_by (wrote.0 ∙ want))
    ]
told_plain Makes before after (Cut why) made ended out out_after f written did wrote no_text one = absurd did
told_plain Makes before after (Whole bytes) made ended out out_after f written did wrote no_text one = absurd did

pub refused_plain : (Gives : Answering) (command : CommandOf) (Makes : Seen → Seen → Made → Type 0) (f : Fault) (call : Call Gives command)
    → ReadsNone Makes call.before call.after call.answered.ran.input call.answered.ran.made → (Rose call.out.faults call.out_after.faults → ⊥)
    → ((text : List ℕ) → Makes call.before call.after (Ok text) → ⊥)
    → ((g : Fault) → Makes call.before call.after (Err g) → (g ≡ f) ⊎ (g ≡ fault.OutOfMemory)) → IsRefused f call
refused_plain Gives command Makes f call did written no_text one =
    let ran = call.answered.ran in
    elim (told_plain Makes call.before call.after ran.input ran.made call.answered.ended call.out call.out_after f written did ran.wrote no_text one) [
      | inl told ↦ inl (
        call.answered.status ∙ ap status_of told,
        subst (λ those. IfErr those (λ g. Said (line_of g) call.say call.say_after)) told call.answered.said,
      )
      | inr want ↦ inr (call.answered.status ∙ ap status_of want)
    ]

gen_fault : (Gives : Answering) (processors : ℕ) (before after : Seen) → total_size (image_items (generated processors)) ≤ image_limit
    → (Rose before.place.refusals after.place.refusals → ⊥) → (f : Fault) → GenMakes Gives processors before after (Err f) → Completed (Err f)
gen_fault Gives processors before after few room f (not_counted fails) = few_fault Gives plain (generated processors) before after few room f fails

pub gen_completed : (Gives : Answering) (processors : ℕ) (call : Call Gives (Gen processors)) → total_size (image_items (generated processors)) ≤ image_limit
    → (Rose call.out.faults call.out_after.faults → ⊥) → HasRoom call → IsDone call
gen_completed Gives processors call few written room =
    let ran = call.answered.ran in
    call_done Gives (Gen processors) call
    (plain_call (GenMakes Gives processors) call.before call.after ran.input ran.made call.answered.ended call.out call.out_after
    written ran.did ran.wrote (gen_fault Gives processors call.before call.after few room))
