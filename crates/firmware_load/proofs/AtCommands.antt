-- The step of the firmware at a command of the script, or at the script's end.
use Rattle.std.proofs.Common.{◌≡◌, ℕ, ◌<◌, ◌≤◌, List, length, slice_get, get_or, Option, Some, None, MatchOption, refl, sym, ap, ap₂, subst, ◌∙◌}
use Rattle.std.specs.Option.{option_map_or}
use Rattle.std.proofs.lemmas.Option.{slice_get_read, slice_get_past}
use Rattle.cfg_directory.specs.declared.listed.Listed.{Listed}
use Rattle.loader_script.specs.declared.entry.Entry.{Entry}
use Rattle.zone_alloc.specs.declared.alloc.Request.{Request}
use Rattle.cfg_dma.specs.Transfers.{attached}
use Rattle.command_acts.specs.FilesInMemory.{placed_ranges}
use Rattle.command_acts.specs.Runs.{Answers}
use Rattle.load_states.specs.declared.event.Event.TheVariants.{Firmware}
use Rattle.load_states.specs.declared.stage.Stage.{Stage}
use Rattle.load_states.specs.declared.stage.Stage.TheVariants.{AtCommand, Done}
use Rattle.load_states.specs.LoadState.{LoadState}
use Rattle.load_states.specs.Runs.{StepsTo, request_at, request_for}
use Rattle.load_states.specs.Steps.{at_command, cleared}
use Rattle.firmware_load.specs.declared.guest.Guest.{Guest}
use Rattle.firmware_load.specs.declared.loading.Loading.{Loading}
use Rattle.firmware_load.specs.Inside.{load_at, load_of, GoesByCommand}
use Rattle.firmware_load.proofs.LoadStates.{load_moved}

-- the command that stands at an index
pub command_found : (read script : List Entry) (index : ℕ) (entry : Entry) → read ≡ script → index < length read → entry ≡ get_or read index entry
    → slice_get script index ≡ Some entry
command_found read script index entry same within its =
    subst (λ (entries : List Entry). slice_get entries index ≡ Some entry) same (slice_get_read read (length read) index entry refl within its)

-- no command stands behind the last one
pub none_found : (read script : List Entry) (index : ℕ) → read ≡ script → length read ≤ index → slice_get script index ≡ None
none_found read script index same past =
    subst (λ (entries : List Entry). slice_get entries index ≡ None) same (slice_get_past read index past)

-- what the firmware goes on to from what stands at an index
GoesOn : Answers → ℕ → LoadState → LoadState → Option Entry → Type 0
GoesOn May index w next found =
    MatchOption (option_map_or (λ (entry : Entry). request_for entry w) found None) (next ≡ at_command index found None w)
    (λ (request : Request). (answer : Option ℕ) × May (placed_ranges w.placed) request answer × (next ≡ at_command index found answer w))

-- it is a step of the load at that stage
steps_at : (May : Answers) (guest : Guest) (its_stage : Stage) (listed : List Listed) (script : List Entry) (index : ℕ) (found : Option Entry)
    (next : LoadState) → its_stage ≡ AtCommand index → slice_get script index ≡ found
    → GoesOn May index (load_at guest (AtCommand index) listed script) next found
    → StepsTo May Firmware (load_at guest its_stage listed script) next
unfolding GoesOn
steps_at May guest its_stage listed script index found next is there goes =
    let w : LoadState = load_at guest (AtCommand index) listed script in
    subst (λ (stage : Stage). StepsTo May Firmware (load_at guest stage listed script) next) (sym is)
    (subst (λ (o : Option Entry). GoesOn May index w next o) (sym there) goes)

-- A guest that goes on by the command is the step of the load.
pub command_steps : (May : Answers) (l : Loading) (new : Guest) (its_stage : Stage) (listed : List Listed) (index : ℕ) (entry : Entry)
    → l.stage ≡ AtCommand index → slice_get l.script.items index ≡ Some entry → listed ≡ l.listed.items
    → GoesByCommand May index entry (load_at l.guest (AtCommand index) listed l.script.items) (load_at new its_stage listed l.script.items)
    → StepsTo May Firmware (load_of l) (load_at new its_stage l.listed.items l.script.items)
unfolding GoesOn
command_steps May l new its_stage listed index entry is found same goes =
    steps_at May l.guest l.stage l.listed.items l.script.items index (Some entry) (load_at new its_stage l.listed.items l.script.items) is found
    (subst (λ (its : List Listed). GoesByCommand May index entry (load_at l.guest (AtCommand index) its l.script.items)
    (load_at new its_stage its l.script.items)) same goes)

-- A guest whose work range is cleared is the closing step.
pub closing_steps : (May : Answers) (l : Loading) (new : Guest) (index : ℕ) → l.stage ≡ AtCommand index → slice_get l.script.items index ≡ None
    → new.memory.memory ≡ cleared l.guest.memory.memory → new.device ≡ l.guest.device → new.placements ≡ l.guest.placements
    → StepsTo May Firmware (load_of l) (load_at new Done l.listed.items l.script.items)
unfolding GoesOn
closing_steps May l new index is found memory device placements =
    steps_at May l.guest l.stage l.listed.items l.script.items index None (load_at new Done l.listed.items l.script.items) is found
    (load_moved l.guest new (attached l.guest.device (cleared l.guest.memory.memory)) Done l.listed.items l.script.items (ap₂ attached device memory)
    placements)

-- what the step asks is what the command asks
pub request_is : (l : Loading) (index : ℕ) (entry : Entry) → l.stage ≡ AtCommand index → slice_get l.script.items index ≡ Some entry
    → request_at l.stage (load_of l) ≡ request_for entry (load_of l)
request_is l index entry is found =
    ap (λ (stage : Stage). request_at stage (load_of l)) is
    ∙ ap (λ (o : Option Entry). option_map_or (λ (e : Entry). request_for e (load_of l)) o None) found
