-- Each command is done of a lawful input, and tells the faults of its input.
use Rattle.std.proofs.Common.{◌≡◌, ◌≢◌, ◌⊎◌, inl, inr, Bool, ℕ, ◌<◌, ◌≤◌, List, [], IfOk, IfErr, Result, Ok, Err, refl, arith, ap, sym, subst, ◌∙◌}
use Rattle.vt_outside.specs.Stream.{Rose}
use Rattle.cfg_directory.specs.declared.item.Item.{Item}
use Rattle.cfg_directory.specs.Items.{total_size}
use Rattle.cfg_directory.proofs.Containers.{contained_is_read}
use Rattle.desc_toml.specs.declared.fault.DescFault.{DescFault}
use Rattle.desc_toml.specs.Reading.{read_of}
use Rattle.machine_desc.specs.declared.machine.Machine.{Machine}
use Rattle.generated_machine.specs.Generated.{generated}
use Rattle.image_files.specs.Items.{image_limit}
use Rattle.vm_image.specs.Image.{image_items}
use Rattle.loader_script.specs.Run.{End, Command as StopsAt, Progress}
use Rattle.load_states.specs.Loads.{HasRun}
use Rattle.load_states.specs.LoadState.{items_now}
use Rattle.command_acts.specs.declared.fault.LoadFault.{LoadFault}
use Rattle.command_acts.specs.declared.fault.LoadFault.TheVariants as load
use Rattle.command_acts.specs.Runs.{result_of}
use Rattle.smbios_install.specs.declared.fault.InstallFault.{InstallFault}
use Rattle.vt_words.specs.declared.command.Command.{Command}
use Rattle.vt_words.specs.declared.command.Command.TheVariants.{Boot, Build, Decode, Gen, List as Listing, Load}
use Rattle.vt_words.specs.declared.command.LoadOptions.{LoadOptions}
use Rattle.vt_words.specs.declared.setting.Setting.{Setting}
use Rattle.vmtables.specs.Boot.{BootMakes, FailsToBoot, too_large, not_built, without_room, without_memory}
use Rattle.vmtables.specs.Boot as boot_made
use Rattle.vmtables.specs.Build.{BuildMakes, built, not_built as unbuilt, CannotBeBuilt}
use Rattle.vmtables.specs.Calls.{Answering, Seen}
use Rattle.vmtables.specs.Complete.{AreDone, Call, EndsEarly, IsDone, IsFed, IsLawfulInput, IsRefused, Placed, places_in, RefusesInput, Streamed, TellFaults}
use Rattle.vmtables.specs.Generate.{GenMakes, counted, not_counted, plain}
use Rattle.vmtables.specs.Load.{CannotBeRead, IsToLoad, LoadMakes, loaded, not_read, not_loaded, to_load}
use Rattle.vmtables.specs.Loading.{IsImageLoaded, FailsToLoad, ended_early, not_begun}
use Rattle.vmtables.specs.declared.fault.Fault.{Fault}
use Rattle.vmtables.specs.declared.fault.Fault.TheVariants as fault
use Rattle.vmtables.proofs.Booting.{leaves_of}
use Rattle.vmtables.proofs.Completed.{boot_completed, build_completed, gen_completed, load_completed, not_too_large, same_items}
use Rattle.vmtables.proofs.Completed.{refused_plain, same_loaded, unread_want}
use Rattle.vmtables.proofs.Listed.{list_done, list_told, refused_call}
use Rattle.vmtables.proofs.Refused.{IsUnbuilt, undescribed, of_large, no_memory, why_unbuilt, IsUndescribed, none_read, unread, why_undescribed}
use Rattle.vmtables.proofs.Refused.{IsUnread, not_container, not_installed, no_room, why_unread}
use Rattle.vmtables.proofs.Told.{decode_done, decode_told}

command_done : (Gives : Answering) (command : Command) (bytes : List ℕ) (call : Call Gives command) → Streamed command bytes call → Placed command call
    → IsLawfulInput command call.after bytes → IsDone call
command_done Gives (Boot setting) bytes call fed room few = boot_completed Gives setting bytes call few fed room
command_done Gives Build bytes call fed room few = build_completed Gives bytes call few fed
command_done Gives (Load options) bytes call fed room (items, is, whole) = load_completed Gives options bytes items call is whole fed room
command_done Gives (Decode legacy) bytes call fed room (inventory, shows, sound) = decode_done Gives legacy bytes inventory call shows sound fed
command_done Gives (Listing sought) bytes call fed room (memory, dumped, sound) = list_done Gives sought bytes memory call dumped sound fed
command_done Gives (Gen processors) bytes call fed room few = gen_completed Gives processors call few fed room

pub are_done : (Gives : Answering) → AreDone Gives
are_done Gives = command_done Gives

-- ---- bytes of which no image is made

no_machine : (bytes : List ℕ) (why : DescFault) (m : Machine) → read_of bytes ≡ Err why → read_of bytes ≡ Ok m → ⊥
no_machine bytes why m is also = absurd (cc)

-- none is made of them
unbuilt_text : (bytes : List ℕ) (m : Machine) (why : Fault) → why ≢ fault.OutOfMemory → IsUnbuilt bytes why → read_of bytes ≡ Ok m
    → total_size (image_items m) ≤ image_limit → ⊥
unbuilt_text bytes m why some (undescribed read) also small = no_machine bytes _ m read also
unbuilt_text bytes m why some (of_large large) also small = not_too_large bytes (m, also, small) large
unbuilt_text bytes m why some no_memory also small = some refl

-- and no other fault is told of them
unbuilt_one : (bytes : List ℕ) (why f : Fault) → why ≢ fault.OutOfMemory → IsUnbuilt bytes why → IsUnbuilt bytes f
    → (f ≡ why) ⊎ (f ≡ fault.OutOfMemory)
unbuilt_one bytes why f some is no_memory = inr refl
unbuilt_one bytes why f some no_memory also = absurd (some refl)
unbuilt_one bytes why f some (undescribed read) (undescribed also) = inl (cc)
unbuilt_one bytes why f some (undescribed read) (of_large (m, also, large)) = absurd (no_machine bytes _ m read also)
unbuilt_one bytes why f some (of_large (m, read, large)) (undescribed also) = absurd (no_machine bytes _ m also read)
unbuilt_one bytes why f some (of_large large) (of_large also) = inl refl

build_text : (bytes made : List ℕ) (before after : Seen) (why : Fault) → why ≢ fault.OutOfMemory → IsUnbuilt bytes why
    → BuildMakes bytes before after (Ok made) → ⊥
build_text bytes made before after why some is (built image same) = unbuilt_text bytes image.machine why some is image.read image.small

build_one : (bytes : List ℕ) (before after : Seen) (why f : Fault) → why ≢ fault.OutOfMemory → IsUnbuilt bytes why
    → BuildMakes bytes before after (Err f) → (f ≡ why) ⊎ (f ≡ fault.OutOfMemory)
build_one bytes before after why f some is (unbuilt cannot same) = unbuilt_one bytes why f some is (why_unbuilt bytes f cannot)

boot_text : (Gives : Answering) (setting : Setting) (bytes made : List ℕ) (before after : Seen) (why : Fault) → why ≢ fault.OutOfMemory
    → IsUnbuilt bytes why → BootMakes Gives setting bytes before after (Ok made) → ⊥
boot_text Gives setting bytes made before after why some is (boot_made.booted booted dumped) =
    unbuilt_text bytes booted.machine why some is booted.read booted.booted.small

-- a machine that isn't read, or isn't booted
undescribed_one : (bytes : List ℕ) (why f : Fault) → why ≢ fault.OutOfMemory → IsUnbuilt bytes why → IsUndescribed bytes f
    → (f ≡ why) ⊎ (f ≡ fault.OutOfMemory)
undescribed_one bytes why f some is unread = inr refl
undescribed_one bytes why f some is (none_read read) = unbuilt_one bytes why f some is (undescribed read)

unbooted_one : (Gives : Answering) (setting : Setting) (bytes : List ℕ) (m : Machine) (before after : Seen) (why f : Fault) → why ≢ fault.OutOfMemory
    → IsUnbuilt bytes why → read_of bytes ≡ Ok m → FailsToBoot Gives setting m before after f → (f ≡ why) ⊎ (f ≡ fault.OutOfMemory)
unbooted_one Gives setting bytes m before after why f some is read (too_large large same) =
    unbuilt_one bytes why f some is (of_large (m, read, large))
unbooted_one Gives setting bytes m before after why f some is read (not_built same) = inr refl
unbooted_one Gives setting bytes m before after why f some is read (without_room small image refusal) =
    absurd (unbuilt_text bytes m why some is read small)
unbooted_one Gives setting bytes m before after why f some is read (without_memory unloaded) = inr refl

boot_one : (Gives : Answering) (setting : Setting) (bytes : List ℕ) (before after : Seen) (why f : Fault) → why ≢ fault.OutOfMemory
    → IsUnbuilt bytes why → BootMakes Gives setting bytes before after (Err f) → (f ≡ why) ⊎ (f ≡ fault.OutOfMemory)
boot_one Gives setting bytes before after why f some is (boot_made.not_read cannot same) =
    undescribed_one bytes why f some is (why_undescribed bytes f cannot)
boot_one Gives setting bytes before after why f some is (boot_made.not_booted m read fails) =
    unbooted_one Gives setting bytes m before after why f some is read fails

-- ---- bytes of which nothing is loaded

load_text : (Gives : Answering) (options : LoadOptions) (bytes made : List ℕ) (before after : Seen) (why : Fault) → why ≢ fault.OutOfMemory
    → IsUnread options.install bytes why → LoadMakes Gives options bytes before after (Ok made) → ⊥
load_text Gives options bytes made before after why some is (loaded items also image shows dumped) =
    some (unread_want options.install bytes items also why is)

abbrev refused_for : InstallFault → Result (List Item) InstallFault
refused_for why = Err why

one_reason : (a b : InstallFault) → refused_for a ≡ refused_for b → a ≡ b
one_reason a b is = cc is

unread_one : (install : Bool) (bytes : List ℕ) (why f : Fault) → why ≢ fault.OutOfMemory → IsUnread install bytes why → IsUnread install bytes f
    → (f ≡ why) ⊎ (f ≡ fault.OutOfMemory)
unread_one install bytes why f some is no_room = inr refl
unread_one install bytes why f some no_room also = absurd (some refl)
unread_one install bytes why f some (not_container read) (not_container also) = inl (cc)
unread_one install bytes why f some (not_container read) (not_installed also) =
    let contained = contained_is_read bytes also.contained also.container in
    absurd (cc)
unread_one install bytes why f some (not_installed is) (not_container also) =
    let contained = contained_is_read bytes is.contained is.container in
    absurd (cc)
unread_one install bytes why f some (not_installed {why = reason} is) (not_installed {why = other} also) =
    let read = sym (contained_is_read bytes also.contained also.container) ∙ contained_is_read bytes is.contained is.container in
    let same : also.contained ≡ is.contained = same_items also.contained is.contained read in
    let both = sym also.refused ∙ ap (to_load install) same ∙ is.refused in
    inl (ap (λ r. fault.Install r) (one_reason other reason both))

load_one : (Gives : Answering) (options : LoadOptions) (bytes : List ℕ) (before after : Seen) (why f : Fault) → why ≢ fault.OutOfMemory
    → IsUnread options.install bytes why → LoadMakes Gives options bytes before after (Err f) → (f ≡ why) ⊎ (f ≡ fault.OutOfMemory)
load_one Gives options bytes before after why f some is (not_read cannot same) =
    unread_one options.install bytes why f some is (why_unread options.install bytes f cannot)
load_one Gives options bytes before after why f some is (not_loaded items also fails) =
    absurd (some (unread_want options.install bytes items also why is))

-- ---- items whose load ends early

abbrev load_answer : LoadFault → Result (Unit {0}) LoadFault
load_answer why = Err why

-- such a load has this answer
ends_early : (Gives : Answering) (items : List Item) (top : ℕ) (setting : Setting) (answer : Result (Unit {0}) LoadFault) (before after : Seen)
    (why : LoadFault) → IsImageLoaded Gives items top setting answer before after → EndsEarly items (places_in after) why → answer ≡ Err why
ends_early Gives items top setting answer before after (load.Command index cause) image (script, read, stops) =
    let leaves = leaves_of Gives items top setting answer before after image in
    let ran : HasRun (Gives after.place.begun) items script after.place.handed answer image.world =
    subst (λ those. IfOk those (λ s. HasRun (Gives after.place.begun) items s after.place.handed answer image.world)) read leaves.ran in
    let ends : ran.0 ≡ StopsAt index cause = ap (λ (e : End × Progress). e.0) (sym ran.1.ends) ∙ stops in
    ran.2 ∙ ap result_of ends
ends_early Gives items top setting answer before after (load.NoRoom index) image early = absurd early
ends_early Gives items top setting answer before after load.NoScript image early =
    let leaves = leaves_of Gives items top setting answer before after image in
    (subst (λ those. IfErr those (λ reason. (answer ≡ Err reason) × (after.place.handed ≡ []) × (items_now image.world ≡ items))) early leaves.unread).0
ends_early Gives items top setting answer before after load.ScriptLength image early =
    let leaves = leaves_of Gives items top setting answer before after image in
    (subst (λ those. IfErr those (λ reason. (answer ≡ Err reason) × (after.place.handed ≡ []) × (items_now image.world ≡ items))) early leaves.unread).0

early_text : (Gives : Answering) (options : LoadOptions) (bytes made : List ℕ) (before after : Seen) (items : List Item) (why : LoadFault)
    → IsToLoad options.install bytes items → EndsEarly items (places_in after) why → LoadMakes Gives options bytes before after (Ok made) → ⊥
early_text Gives options bytes made before after items why is early (loaded others also image shows dumped) =
    let same = same_loaded options.install bytes items others is also in
    let answer = ends_early Gives others _ options.setting (Ok tt) before after why image
    (subst (λ those. EndsEarly those (places_in after) why) same early) in
    absurd (cc answer)

one_answer : (a b : LoadFault) → load_answer a ≡ load_answer b → a ≡ b
one_answer a b is = cc is

early_failed : (Gives : Answering) (items : List Item) (top : ℕ) (setting : Setting) (before after : Seen) (why : LoadFault) (f : Fault)
    → EndsEarly items (places_in after) why → FailsToLoad Gives items top setting before after f → (f ≡ fault.Load why) ⊎ (f ≡ fault.OutOfMemory)
early_failed Gives items top setting before after why f early (ended_early {why = other} image) =
    let answer : load_answer other ≡ load_answer why = ends_early Gives items top setting (Err other) before after why image early in
    inl (ap (λ w. fault.Load w) (one_answer other why answer))
early_failed Gives items top setting before after why f early (not_begun unloaded) = inr refl

early_one : (Gives : Answering) (options : LoadOptions) (bytes : List ℕ) (before after : Seen) (items : List Item) (why : LoadFault) (f : Fault)
    → IsToLoad options.install bytes items → EndsEarly items (places_in after) why → LoadMakes Gives options bytes before after (Err f)
    → (f ≡ fault.Load why) ⊎ (f ≡ fault.OutOfMemory)
early_one Gives options bytes before after items why f is early (not_read cannot same) =
    inr (unread_want options.install bytes items is f (why_unread options.install bytes f cannot))
early_one Gives options bytes before after items why f is early (not_loaded others also fails) =
    let same = same_loaded options.install bytes items others is also in
    early_failed Gives others _ options.setting before after why f (subst (λ those. EndsEarly those (places_in after) why) same early) fails

-- ---- a generated machine whose files are too large

gen_text : (Gives : Answering) (processors : ℕ) (before after : Seen) (made : List ℕ) → image_limit < total_size (image_items (generated processors))
    → GenMakes Gives processors before after (Ok made) → ⊥
gen_text Gives processors before after made large (counted is text) =
    let small = is.small in
    absurd (omega (arith, large, small))

uncounted_one : (Gives : Answering) (m : Machine) (before after : Seen) (f : Fault) → image_limit < total_size (image_items m)
    → FailsToBoot Gives plain m before after f → (f ≡ fault.ImageTooLarge) ⊎ (f ≡ fault.OutOfMemory)
uncounted_one Gives m before after f large (too_large also same) = inl refl
uncounted_one Gives m before after f large (not_built same) = inr refl
uncounted_one Gives m before after f large (without_room small image refusal) = absurd (omega (arith, large, small))
uncounted_one Gives m before after f large (without_memory unloaded) = inr refl

gen_one : (Gives : Answering) (processors : ℕ) (before after : Seen) (f : Fault) → image_limit < total_size (image_items (generated processors))
    → GenMakes Gives processors before after (Err f) → (f ≡ fault.ImageTooLarge) ⊎ (f ≡ fault.OutOfMemory)
gen_one Gives processors before after f large (not_counted fails) = uncounted_one Gives (generated processors) before after f large fails

-- ---- each command

-- a load is told in two ways
load_told : (Gives : Answering) (options : LoadOptions) (bytes : List ℕ) (why : Fault) (call : Call Gives (Load options)) → IsFed bytes call
    → why ≢ fault.OutOfMemory → CannotBeRead options.install bytes why → IsRefused why call
load_told Gives options bytes why call fed some refuses =
    let is = why_unread options.install bytes why refuses in
    refused_call Gives (Load options) (LoadMakes Gives options) bytes why call call.answered.ran.did fed
    (λ made. load_text Gives options bytes made call.before call.after why some is)
    (λ made. load_one Gives options bytes call.before call.after why made some is)

early_told : (Gives : Answering) (options : LoadOptions) (bytes : List ℕ) (why : LoadFault) (call : Call Gives (Load options)) (items : List Item)
    → IsFed bytes call → IsToLoad options.install bytes items → EndsEarly items (places_in call.after) why → IsRefused (fault.Load why) call
early_told Gives options bytes why call items fed is early =
    refused_call Gives (Load options) (LoadMakes Gives options) bytes (fault.Load why) call call.answered.ran.did fed
    (λ made. early_text Gives options bytes made call.before call.after items why is early)
    (λ made. early_one Gives options bytes call.before call.after items why made is early)

built_told : (Gives : Answering) (bytes : List ℕ) (why : Fault) (call : Call Gives Build) → IsFed bytes call → why ≢ fault.OutOfMemory
    → CannotBeBuilt bytes why → IsRefused why call
built_told Gives bytes why call fed some refuses =
    let is = why_unbuilt bytes why refuses in
    refused_call Gives Build BuildMakes bytes why call call.answered.ran.did fed
    (λ made. build_text bytes made call.before call.after why some is) (λ made. build_one bytes call.before call.after why made some is)

booted_told : (Gives : Answering) (setting : Setting) (bytes : List ℕ) (why : Fault) (call : Call Gives (Boot setting)) → IsFed bytes call
    → why ≢ fault.OutOfMemory → CannotBeBuilt bytes why → IsRefused why call
booted_told Gives setting bytes why call fed some refuses =
    let is = why_unbuilt bytes why refuses in
    refused_call Gives (Boot setting) (BootMakes Gives setting) bytes why call call.answered.ran.did fed
    (λ made. boot_text Gives setting bytes made call.before call.after why some is)
    (λ made. boot_one Gives setting bytes call.before call.after why made some is)

gen_told : (Gives : Answering) (processors : ℕ) (call : Call Gives (Gen processors)) → (Rose call.out.faults call.out_after.faults → ⊥)
    → image_limit < total_size (image_items (generated processors)) → IsRefused fault.ImageTooLarge call
gen_told Gives processors call written large =
    refused_plain Gives (Gen processors) (GenMakes Gives processors) fault.ImageTooLarge call call.answered.ran.did written
    (λ made. gen_text Gives processors call.before call.after made large) (λ made. gen_one Gives processors call.before call.after made large)

command_told : (Gives : Answering) (command : Command) (bytes : List ℕ) (why : Fault) (call : Call Gives command) → Streamed command bytes call
    → why ≢ fault.OutOfMemory → RefusesInput command call.after bytes why → IsRefused why call
command_told Gives (Boot setting) bytes why call fed some refuses = booted_told Gives setting bytes why call fed some refuses
command_told Gives Build bytes why call fed some refuses = built_told Gives bytes why call fed some refuses
command_told Gives (Load options) bytes (fault.Load why) call fed some (items, is, early) = early_told Gives options bytes why call items fed is early
command_told Gives (Load options) bytes why call fed some refuses = load_told Gives options bytes why call fed some refuses
command_told Gives (Decode legacy) bytes why call fed some refuses = decode_told Gives legacy bytes why call some refuses fed
command_told Gives (Listing sought) bytes why call fed some refuses = list_told Gives sought bytes why call some refuses fed
command_told Gives (Gen processors) bytes fault.ImageTooLarge call written some large = gen_told Gives processors call written large
command_told Gives (Gen processors) bytes why call written some refuses = absurd refuses

pub tell_faults : (Gives : Answering) → TellFaults Gives
tell_faults Gives = command_told Gives
