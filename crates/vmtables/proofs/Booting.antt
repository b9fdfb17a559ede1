-- A machine's image that was loaded is a machine that is booted.
use Rattle.std.proofs.Common.{◌≡◌, ℕ, ◌≤◌, ◌<◌, List, map, Option, Some, None, Result, Ok, Err, IfOk, IfErr, OnOk, IsSomeAnd}
use Rattle.std.proofs.Common.{refl, ap, sym, subst, ◌∙◌}
use Rattle.std.specs.Result.{IsErrAnd}
use Rattle.std.proofs.lemmas.Option.{cond_some}
use Rattle.vt_outside.specs.Placement.{Range, IsFree}
use Rattle.vt_bytes.proofs.Seen.{ram_from_test}
use Rattle.vt_bytes.specs.Memory.{Memory, is_ram, at, seen}
use Rattle.guest_memory.specs.Bytes.{HoldsBytes}
use Rattle.machine_desc.specs.declared.machine.Machine.{Machine}
use Rattle.loader_script.specs.declared.entry.Entry.{Entry}
use Rattle.loader_script.specs.Left.{range_of}
use Rattle.loader_script.specs.Run.{End, Done, Command, NoRoom, opening, run}
use Rattle.cfg_directory.specs.declared.item.Item.{Item}
use Rattle.cfg_directory.specs.Files.{files_of}
use Rattle.vm_image.specs.Image.{image_script, image_items}
use Rattle.vm_image.specs.Promised.{top_of, HoldsFiles}
use Rattle.vm_image.specs.Built.{IsBuilt}
use Rattle.acpi_model.specs.Found.{ShowsBytes}
use Rattle.zone_alloc.specs.declared.alloc.Request.{Request}
use Rattle.zone_alloc.specs.Allocators.{Begun}
use Rattle.vt_words.specs.declared.setting.Setting.{Setting}
use Rattle.zone_alloc.specs.Places.{range_in}
use Rattle.cfg_directory.specs.Items.{total_size}
use Rattle.image_files.specs.Items.{image_limit}
use Rattle.command_acts.specs.Allocators.{AreZonesOf}
use Rattle.command_acts.specs.declared.fault.LoadFault.{LoadFault}
use Rattle.command_acts.specs.declared.fault.LoadFault.TheVariants as load
use Rattle.command_acts.specs.Runs.{Answers, IsRun, request_at, result_of}
use Rattle.command_acts.specs.Script.{script_in}
use Rattle.load_states.specs.declared.event.Event.{Event}
use Rattle.load_states.specs.Loads.{HasRun, IsLoadedOver}
use Rattle.load_states.specs.LoadState.{Opening, begun_with, memory_of, files_now, progress_of}
use Rattle.load_states.specs.LoadState.{LoadState as Loading}
use Rattle.desc_toml.specs.Reading.{Reads}
use Rattle.vmtables.specs.Boot.{IsBooted, IsMachineBooted, BootMakes, FailsToBoot, not_booted, without_room, without_memory}
use Rattle.vmtables.specs.Calls.{Answering, Seen}
use Rattle.vmtables.specs.Loading.{IsImageLoaded, IsRefusedFree, FailsToLoad, ended_early, not_begun}
use Rattle.vmtables.specs.declared.fault.Fault.{Fault}
use Rattle.vmtables.specs.declared.fault.Fault.TheVariants as fault
use Rattle.vmtables.proofs.ImageRunEnds.{EndsSo, IsLawfulRun, ended_with, extended_of, lawful_so, room, room_of}
use Rattle.vmtables.proofs.ImageRuns.{GivesFree}
use Rattle.vmtables.proofs.NeverEnded.{pieces_unended}
use Rattle.vmtables.proofs.PlacedFiles.{holds_now, beside_each}
use Rattle.vmtables.proofs.ScriptRead.{script_read}

-- places that are given are free
abbrev pub AllFree : Answering → Type 0
AllFree Gives = (begun : Begun) (handed : List Range) (request : Request) (place : ℕ) → Gives begun handed request (Some place)
    → IsFree (range_in begun.zones request.zone) handed request.size request.align place

gives_free : (Gives : Answering) (begun : Begun) (top : ℕ) → AllFree Gives → AreZonesOf top begun.zones → GivesFree (Gives begun) top
gives_free Gives begun top free are handed request place may =
    subst (λ (zone : Range). IsFree zone handed request.size request.align place) (are request.zone) (free begun handed request place may)

-- what a load of items leaves
pub leaves_of : (Gives : Answering) (items : List Item) (top : ℕ) (setting : Setting) (answer : Result (Unit {0}) LoadFault)
    (before after : Seen) (loaded : IsImageLoaded Gives items top setting answer before after)
    → IsLoadedOver (Gives after.place.begun) (begun_with items top setting.fill) loaded.load.taken after.place.handed answer loaded.world
leaves_of Gives items top setting answer before after loaded =
    subst (λ (its : Opening). IsLoadedOver (Gives after.place.begun) its loaded.load.taken after.place.handed answer loaded.world)
    loaded.was_begun.opening loaded.load.leaves

-- the run of a load whose script is read
run_of : (m : Machine) (May : Answers) (handed : List Range) (answer : Result (Unit {0}) LoadFault) (world : Loading)
    → script_in (image_items m) ≡ Ok (image_script m)
    → IfOk (script_in (image_items m)) (λ script. HasRun May (image_items m) script handed answer world)
    → HasRun May (image_items m) (image_script m) handed answer world
run_of m May handed answer world script ran =
    subst (λ read. IfOk read (λ those. HasRun May (image_items m) those handed answer world)) script ran

-- what is seen of a memory that holds bytes is bytes
shows_bytes : (m : Memory) → HoldsBytes m → ShowsBytes (seen m)
unfolding seen
shows_bytes m holds place byte is =
    let there = cond_some (is_ram m.top place) (at m place) byte is in
    subst (λ b. b < 256) there.1 (holds.each place (ram_from_test m.top place there.0))

-- memory holds the files that were placed, and nothing else was written in the BIOS area
holds_files : (May : Answers) (its : Opening) (events : List Event) (handed : List Range) (answer : Result (Unit {0}) LoadFault) (world : Loading)
    → IsLoadedOver May its events handed answer world → HoldsBytes (memory_of world) → HoldsFiles (memory_of world) (files_now world)
holds_files May its events handed answer world leaves bytes = record {
  files = holds_now (memory_of world) world.placed;
  bios = λ address from below outside.
      leaves.bios address from below (beside_each (memory_of world) world.placed address outside) ∙ sym leaves.fill;
  alone = shows_bytes (memory_of world) bytes;
}

-- how a run ends whose load answered so
pub ended_done : (end : End) → Ok tt ≡ result_of end → end ≡ Done
ended_done Done is = refl
ended_done (Command index cause) is = absurd (cc)
ended_done (NoRoom index) is = absurd (cc)

has_room : (end : End) → end ≡ Done → (at : ℕ) → end ≡ NoRoom at → ⊥
has_room end is at without = absurd (cc)

-- the image's load is done: its machine is booted
pub booted : (Gives : Answering) (setting : Setting) (m : Machine) (items : List Item) (script : List Entry)
    (before after : Seen) → AllFree Gives → IsBuilt m items script → total_size (image_items m) ≤ image_limit
    → script_in (image_items m) ≡ Ok (image_script m)
    → (loaded : IsImageLoaded Gives (image_items m) (top_of m) setting (Ok tt) before after) → HoldsBytes (memory_of loaded.world)
    → IsMachineBooted Gives setting m before after
booted Gives setting m items script before after free built small script_read loaded bytes_held =
    let May : Answers = Gives after.place.begun in
    let world : Loading = loaded.world in
    let leaves : IsLoadedOver May (begun_with (image_items m) (top_of m) setting.fill) loaded.load.taken after.place.handed (Ok tt) world =
    leaves_of Gives (image_items m) (top_of m) setting (Ok tt) before after loaded in
    let run : HasRun May (image_items m) (image_script m) after.place.handed (Ok tt) world =
    run_of m May after.place.handed (Ok tt) world script_read leaves.ran in
    let done : run.0 ≡ Done = ended_done run.0 run.2 in
    let frees : GivesFree May (top_of m) = gives_free Gives after.place.begun (top_of m) free loaded.zones in
    let is : IsLawfulRun m (map (λ (r : Range). r.start) after.place.handed) run.0 (progress_of world) =
    lawful_so m items script built May after.place.handed run.0 (progress_of world) frees run.1 (has_room run.0 done) in
    let holds : HoldsFiles (memory_of world) (files_now world) =
    holds_files May (begun_with (image_items m) (top_of m) setting.fill) loaded.load.taken after.place.handed (Ok tt) world leaves bytes_held in
    record {
      small = small;
      loaded = loaded;
      unended = pieces_unended m items script built script_read May setting.fill loaded.begun loaded.load.since.model loaded.load.since.pieces
          loaded.load.since.since frees loaded.was_begun loaded.load.since.ran;
      script = script_read;
      ran = subst (λ end. IsRun May (files_of (image_items m)) (image_script m) after.place.handed end (progress_of world)) done run.1;
      files = is.files;
      lawful = is.lawful;
      holds = holds;
      others = λ address ram no_work outside told.
          leaves.others address ram no_work (beside_each (memory_of world) world.placed address outside) told;
      cleared = leaves.cleared refl;
      shown = built.shown (map (λ (r : Range). r.start) after.place.handed) (files_now world) (memory_of world) is.lawful is.linked leaves.top holds;
    }

pub fails_for_room : (Gives : Answering) (setting : Setting) (m : Machine) (items : List Item) (script : List Entry) (why : LoadFault) (before after : Seen)
    → AllFree Gives → IsBuilt m items script → script_in (image_items m) ≡ Ok (image_script m)
    → (loaded : IsImageLoaded Gives (image_items m) (top_of m) setting (Err why) before after)
    → EndsSo (Gives after.place.begun) (top_of m) (files_of (image_items m)) (image_script m) (files_now loaded.world) why
fails_for_room Gives setting m items script why before after free built script_read loaded =
    let May : Answers = Gives after.place.begun in
    let world : Loading = loaded.world in
    let leaves : IsLoadedOver May (begun_with (image_items m) (top_of m) setting.fill) loaded.load.taken after.place.handed (Err why) world =
    leaves_of Gives (image_items m) (top_of m) setting (Err why) before after loaded in
    let run : HasRun May (image_items m) (image_script m) after.place.handed (Err why) world =
    run_of m May after.place.handed (Err why) world script_read leaves.ran in
    let frees : GivesFree May (top_of m) = gives_free Gives after.place.begun (top_of m) free loaded.zones in
    room_of May (top_of m) (files_of (image_items m)) (image_script m) (files_now world) run.0 why run.2
    (λ room. (lawful_so m items script built May after.place.handed run.0 (progress_of world) frees run.1 room).done)
    (extended_of m items script built May run.0 (progress_of world) frees run.1.answered).no_room

-- the last request that an allocator refused is that of the command that found no room
refused_last : (Gives : Answering) (setting : Setting) (m : Machine) (why : LoadFault) (index : ℕ) (before after : Seen)
    → script_in (image_items m) ≡ Ok (image_script m) → why ≡ load.NoRoom index
    → (loaded : IsImageLoaded Gives (image_items m) (top_of m) setting (Err why) before after)
    → IsRefusedFree (Gives after.place.begun) (top_of m) (map range_of (files_now loaded.world)) (request_at (files_of (image_items m)) (image_script m) index)
    → IsRefusedFree (Gives after.place.begun) (top_of m) after.place.handed after.place.refused
refused_last Gives setting m why index before after script_read is loaded refusal =
    let May : Answers = Gives after.place.begun in
    let world : Loading = loaded.world in
    let leaves : IsLoadedOver May (begun_with (image_items m) (top_of m) setting.fill) loaded.load.taken after.place.handed (Err why) world =
    leaves_of Gives (image_items m) (top_of m) setting (Err why) before after loaded in
    let run : HasRun May (image_items m) (image_script m) after.place.handed (Err why) world =
    run_of m May after.place.handed (Err why) world script_read leaves.ran in
    let asked : after.place.refused ≡ request_at (files_of (image_items m)) (image_script m) index =
    subst (λ read. IfOk read (λ those. after.place.refused ≡ request_at (files_of (image_items m)) those index)) script_read
    (loaded.no_room index (ap ended_with is)).1 in
    subst (λ handed. IsRefusedFree May (top_of m) handed after.place.refused) (sym run.1.handed_are)
    (subst (IsRefusedFree May (top_of m) (map range_of (files_now world))) (sym asked) refusal)

-- how the boot of a machine fails whose image failed to load
boot_failed : (Gives : Answering) (setting : Setting) (m : Machine) (items : List Item) (script : List Entry) (f : Fault) (before after : Seen)
    → AllFree Gives → IsBuilt m items script → total_size (image_items m) ≤ image_limit → script_in (image_items m) ≡ Ok (image_script m)
    → FailsToLoad Gives (image_items m) (top_of m) setting before after f → FailsToBoot Gives setting m before after f
boot_failed Gives setting m items script f before after free built small decoded (ended_early {why = why} loaded) =
    elim (fails_for_room Gives setting m items script why before after free built decoded loaded) as
    (λ _. FailsToBoot Gives setting m before after (fault.Load why)) [
      | room index is refusal ↦
          subst (λ w. FailsToBoot Gives setting m before after (fault.Load w)) (sym is)
          (without_room small (subst (λ w. IsImageLoaded Gives (image_items m) (top_of m) setting (Err w) before after) is loaded)
          (refused_last Gives setting m why index before after decoded is loaded refusal))
    ]
boot_failed Gives setting m items script f before after free built small decoded (not_begun unloaded) = without_memory unloaded

-- a load that is done, after which memory holds bytes
pub booted_so : (Gives : Answering) (setting : Setting) (m : Machine) (items : List Item) (script : List Entry) (before after : Seen)
    → AllFree Gives → IsBuilt m items script → total_size (image_items m) ≤ image_limit
    → IsImageLoaded Gives items (top_of m) setting (Ok tt) before after → IsSomeAnd after.world.load (λ w. HoldsBytes (memory_of w))
    → IsMachineBooted Gives setting m before after
booted_so Gives setting m items script before after free built small loaded held =
    let its = subst (λ those. IsImageLoaded Gives those (top_of m) setting (Ok tt) before after) built.items_are loaded in
    booted Gives setting m items script before after free built small (script_read m items script built small) its
    (subst (λ seen. IsSomeAnd seen (λ w. HoldsBytes (memory_of w))) its.world_is held)

-- and a load that ended with a fault
pub failed_to_boot : (Gives : Answering) (setting : Setting) (m : Machine) (items : List Item) (script : List Entry) (before after : Seen)
    (f : Fault) (r : Result (Unit {0}) Fault) → AllFree Gives → IsBuilt m items script → total_size (image_items m) ≤ image_limit
    → FailsToLoad Gives items (top_of m) setting before after f → IsErrAnd r (λ ended. ended ≡ f)
    → IfErr r (FailsToBoot Gives setting m before after)
failed_to_boot Gives setting m items script before after f (Ok done) free built small failed is = absurd is
failed_to_boot Gives setting m items script before after f (Err ended) free built small failed is =
    rw is (boot_failed Gives setting m items script f before after free built small (script_read m items script built small)
    (subst (λ those. FailsToLoad Gives those (top_of m) setting before after f) built.items_are failed))

-- the boot of the machine that bytes describe

pub described_boot : (Gives : Answering) (setting : Setting) (bytes : List ℕ) (m : Machine) (before after : Seen) (r : Result (Unit {0}) Fault)
    → Reads bytes m → OnOk r (IsMachineBooted Gives setting m before after) → OnOk r (IsBooted Gives setting bytes before after)
described_boot Gives setting bytes m before after (Ok done) read is = record { machine = m; read = read; booted = is }
described_boot Gives setting bytes m before after (Err f) read is = tt

pub described_failed : (Gives : Answering) (setting : Setting) (bytes : List ℕ) (m : Machine) (before after : Seen) (r : Result (Unit {0}) Fault)
    → Reads bytes m → IfErr r (FailsToBoot Gives setting m before after) → IfErr r (λ ended. BootMakes Gives setting bytes before after (Err ended))
described_failed Gives setting bytes m before after (Ok done) read failed = tt
described_failed Gives setting bytes m before after (Err f) read failed = not_booted m read failed

-- a world's memory holds bytes, as its own call says
pub held_by : (seen : Option Loading) (m : Memory) → IsSomeAnd seen (λ w. m ≡ memory_of w) → HoldsBytes m
    → IsSomeAnd seen (λ w. HoldsBytes (memory_of w))
held_by None m is held = absurd is
held_by (Some w) m is held = subst HoldsBytes is held
