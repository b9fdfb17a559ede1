-- What a load leaves of SMBIOS files that were installed.
use Rattle.std.proofs.Common.{◌≡◌, ℕ, Bool, true, false, List, [], ◌∷◌, ◌++◌, map, Option, Some, None, IfOk, Result, Ok, refl, ap, sym, subst, ◌∙◌}
use Rattle.vt_outside.specs.Placement.{Range}
use Rattle.vt_bytes.specs.Memory.{Memory, seen}
use Rattle.vt_bytes.specs.View.{bytes_in}
use Rattle.vt_bytes.proofs.Bytes.{length-bytes_at}
use Rattle.vt_bytes.proofs.Seen.{bytes_in-seen}
use Rattle.cfg_directory.specs.declared.item.Item.{Item}
use Rattle.cfg_directory.specs.Files.{files_of}
use Rattle.cfg_directory.specs.Items.{IsItems}
use Rattle.cfg_directory.proofs.Containers.{contained_is_read}
use Rattle.loader_script.specs.declared.entry.Entry.{Entry}
use Rattle.loader_script.specs.Run.{Done, run}
use Rattle.smbios_install.specs.declared.fault.InstallFault.{InstallFault}
use Rattle.smbios_install.proofs.AddedBehind.{added_behind}
use Rattle.smbios_install.proofs.Reasons.{form_there}
use Rattle.smbios_install.proofs.Standing.{installed_stand}
use Rattle.smbios_install.specs.Commands.{added, commands_in, LeaveBoth}
use Rattle.smbios_install.specs.Faults.{refusal}
use Rattle.smbios_install.specs.Installed.{install_so, installed, unless}
use Rattle.smbios_install.specs.Standing.{HasInstalled, HoldsPlaced}
use Rattle.command_acts.specs.declared.placed.PlacedFile.{PlacedFile}
use Rattle.command_acts.specs.declared.fault.LoadFault.{LoadFault}
use Rattle.command_acts.specs.FilesInMemory.{ArePlaced, files_in}
use Rattle.command_acts.specs.Runs.{with_places}
use Rattle.command_acts.specs.Script.{script_in}
use Rattle.load_states.specs.Loads.{HasRun}
use Rattle.load_states.specs.LoadState.{LoadState, files_now, memory_of, progress_of}
use Rattle.vt_words.specs.declared.setting.Setting.{Setting}
use Rattle.vmtables.specs.Calls.{Answering, Seen}
use Rattle.vmtables.specs.Load.{IsToLoad, ShowsInstalled}
use Rattle.vmtables.specs.Loading.{IsImageLoaded}
use Rattle.vmtables.proofs.Booting.{ended_done, leaves_of}
use Rattle.vmtables.proofs.Completed.{same_items}

-- files that stand in RAM are held by what is seen of their memory
holds_placed : (m : Memory) (placed : List PlacedFile) → ArePlaced m.top placed → HoldsPlaced (seen m) (files_in m placed)
holds_placed m [] are = tt
holds_placed m (p ∷ placed) are = (
  ap (bytes_in (seen m) p.place) (length-bytes_at m p.place p.size) ∙ bytes_in-seen m p.place p.size are.0,
  holds_placed m placed are.3,
)

-- items are installed where there is no reason against it
record AreInstalled (contained items : List Item) : Type 0 where
  none : refusal contained ≡ None
  are : installed contained ≡ items

installed_by : (contained items : List Item) (found : Option InstallFault) → refusal contained ≡ found → unless contained found ≡ Ok items
    → AreInstalled contained items
installed_by contained items None is unless_is = record { none = is; are = cc unless_is }
installed_by contained items (Some fault) is unless_is = absurd (cc unless_is)

are_installed : (contained items : List Item) → install_so contained ≡ Ok items → AreInstalled contained items
are_installed contained items is = installed_by contained items (refusal contained) refl is

-- the run of a load that is done, on plain lists
record IsRunWhole (items : List Item) (script : List Entry) (world : LoadState) : Type 0 where
  places : List ℕ
  ends : run (files_of items) script places ≡ (Done, with_places (progress_of world) [])

run_whole : (Gives : Answering) (items : List Item) (top : ℕ) (setting : Setting) (before after : Seen) (script : List Entry)
    (is : IsImageLoaded Gives items top setting (Ok tt) before after) → script_in items ≡ Ok script → IsRunWhole items script is.world
run_whole Gives items top setting before after script is read =
    let May = Gives after.place.begun in
    let leaves = leaves_of Gives items top setting (Ok tt) before after is in
    let ran : HasRun May items script after.place.handed (Ok tt) is.world =
    subst (λ those. IfOk those (λ script. HasRun May items script after.place.handed (Ok tt) is.world)) read leaves.ran in
    let done : ran.0 ≡ Done = ended_done ran.0 ran.2 in
    record {
      places = map (λ (r : Range). r.start) after.place.handed;
      ends = ran.1.ends ∙ ap (λ end. (end, with_places (progress_of is.world) [])) done;
    }

-- the files that a load placed are held by what is seen of its memory
world_holds : (Gives : Answering) (items : List Item) (top : ℕ) (setting : Setting) (answer : Result (Unit {0}) LoadFault) (before after : Seen)
    (is : IsImageLoaded Gives items top setting answer before after) → HoldsPlaced (seen (memory_of is.world)) (files_now is.world)
world_holds Gives items top setting answer before after is =
    let leaves = leaves_of Gives items top setting answer before after is in
    holds_placed (memory_of is.world) is.world.placed (subst (λ n. ArePlaced n is.world.placed) (sym leaves.top) leaves.apart)

-- Structures are installed in the memory of a world that loaded the items with which they are installed.
stand : (Gives : Answering) (contained items : List Item) (top : ℕ) (setting : Setting) (before after : Seen)
    (is : IsImageLoaded Gives items top setting (Ok tt) before after) → IsItems contained → AreInstalled contained items
    → LeaveBoth (commands_in contained) → HasInstalled (seen (memory_of is.world)) (files_now is.world) contained
stand Gives contained items top setting before after is lawful installed_are alone =
    let known = form_there contained installed_are.none in
    let script : List Entry = commands_in contained ++ added known.0 in
    let read : script_in items ≡ Ok script =
    ap script_in (sym installed_are.are) ∙ added_behind contained known.0 lawful installed_are.none known.1 in
    let whole = run_whole Gives items top setting before after script is read in
    installed_stand contained known.0 whole.places (with_places (progress_of is.world) []) (seen (memory_of is.world)) lawful installed_are.none known.1
    (ap (λ those. run (files_of those) script whole.places) installed_are.are ∙ whole.ends) alone
    (world_holds Gives items top setting (Ok tt) before after is)

pub shows_installed : (Gives : Answering) (install : Bool) (bytes : List ℕ) (items : List Item) (top : ℕ) (setting : Setting) (before after : Seen)
    → IsToLoad install bytes items → (is : IsImageLoaded Gives items top setting (Ok tt) before after) → ShowsInstalled install bytes is.world
shows_installed Gives false bytes items top setting before after to is = tt
shows_installed Gives true bytes items top setting before after to is = λ contained container alone.
    let read = sym (contained_is_read bytes to.contained to.container) ∙ contained_is_read bytes contained container in
    let same : to.contained ≡ contained = same_items to.contained contained read in
    let installed_are = are_installed to.contained items to.loaded in
    stand Gives contained items top setting before after is container.lawful
    (subst (λ those. AreInstalled those items) same installed_are) alone
