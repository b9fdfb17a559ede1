-- A step that comes to NoRoom has asked for what the command of that index asks.
use Rattle.std.proofs.Common.{◌≡◌, ℕ, if◌then◌else◌, ◌⊎◌, inl, inr, List, Option, Some, None, Result, refl, sym, ap, subst, ◌∙◌}
use Rattle.std.specs.Prelude.{slice_get, IfOk}
use Rattle.std.specs.Option.{option_map_or}
use Rattle.std.proofs.lemmas.Option.{none-some, same_Some}
use Rattle.zone_alloc.specs.declared.alloc.Request.{Request}
use Rattle.cfg_directory.specs.declared.item.Item.{Item}
use Rattle.cfg_directory.specs.declared.listed.Listed.{Listed}
use Rattle.cfg_directory.specs.Files.{files_of}
use Rattle.cfg_directory.specs.Shapes.{HaveOneShape}
use Rattle.zone_alloc.specs.Zones.{zone_numbered}
use Rattle.loader_script.specs.declared.entry.Entry.{Entry}
use Rattle.loader_script.specs.declared.entry.Entry.TheVariants.{Allocate, AddPointer, AddChecksum, WritePointer, Misnamed, Skipped}
use Rattle.loader_script.specs.declared.refusing.Cause.{Cause}
use Rattle.vt_outside.specs.File.{File}
use Rattle.loader_script.specs.Run.{cause_of}
use Rattle.command_acts.specs.declared.fault.LoadFault.{LoadFault}
use Rattle.command_acts.specs.declared.fault.LoadFault.TheVariants.{NoRoom}
use Rattle.command_acts.specs.Script.{IsAsked}
use Rattle.command_acts.specs.Runs.{Answers, request_by}
use Rattle.load_states.specs.declared.event.Event.{Event}
use Rattle.load_states.specs.declared.event.Event.TheVariants.{Device, Firmware, Other, Reset}
use Rattle.load_states.specs.declared.stage.Stage.{Stage}
use Rattle.load_states.specs.declared.stage.Stage.TheVariants.{Asks, Awaits, AtCommand, AwaitsSkip, AsksWrite, AwaitsWrite, Done, Refused}
use Rattle.load_states.specs.Kept.{KeepsNow, StageKeeps, HasScript}
use Rattle.load_states.specs.LoadState.{LoadState, Opening, items_now, progress_of}
use Rattle.load_states.specs.Runs.{StepsTo, request_of, request_at}
use Rattle.load_states.specs.Steps.{is_over, taken_of, carried_out, commanded, at_command, placed_at, skips, writes, passed}
use Rattle.load_states.proofs.Readings.{no_room_of, HasRoom, taken_has_room}
use Rattle.load_states.proofs.Looks.{by_test}
use Rattle.load_states.proofs.Shaped.{bytes_as_many}
use Rattle.load_states.proofs.StepKeeps.{FirmwareTo}

-- what an Allocate asks at which the load ends without room
abbrev AsksHere : List File → ℕ → ℕ → Entry → Option Cause → Type 0
AsksHere files k index entry cause = (k ≡ index) × (option_map_or (λ (c : Cause). None) cause (request_by files entry) ≡ request_by files entry)

placed_has_room : (index : ℕ) (name : List ℕ) (place : ℕ) (file : Option Listed) (w : LoadState) → HasRoom (placed_at index name place file w).stage
placed_has_room index name place None w = refl
placed_has_room index name place (Some file) w = refl

skip_has_room : (index offset : ℕ) (file : Option Listed) (w : LoadState) → HasRoom (skips index offset file w).stage
skip_has_room index offset None w = refl
skip_has_room index offset (Some file) w = refl

-- what a WritePointer asks for next
write_has_room : (index : ℕ) (found : Option Entry) (w : LoadState) → HasRoom w.stage → HasRoom (writes index found w).stage
write_has_room index None w room = room
write_has_room index (Some (WritePointer dest src dst_offset src_offset size)) w room = refl
write_has_room index (Some (Allocate name align zone)) w room = room
write_has_room index (Some (AddPointer dest src offset size)) w room = room
write_has_room index (Some (AddChecksum name offset start count)) w room = room
write_has_room index (Some (Misnamed command)) w room = room
write_has_room index (Some (Skipped command)) w room = room

-- a request goes by the size of a file, which no write changes
request_same : (before after : List Item) (entry : Entry) → HaveOneShape before after
    → request_by (files_of after) entry ≡ request_by (files_of before) entry
request_same before after (Allocate name align zone) shape =
    ap (λ (size : ℕ). Some (record { zone = zone_numbered zone; size = size; align = align })) (bytes_as_many before after name shape)
request_same before after (AddPointer dest src offset size) shape = refl
request_same before after (AddChecksum name offset start count) shape = refl
request_same before after (WritePointer dest src dst_offset src_offset size) shape = refl
request_same before after (Misnamed command) shape = refl
request_same before after (Skipped command) shape = refl

carried_asks : (files : List File) (index k : ℕ) (entry : Entry) (answer : Option ℕ) (w : LoadState)
    → no_room_of (carried_out index entry answer w).stage ≡ Some k → k ≡ index
carried_asks files index k (Allocate name align zone) None w is = sym (same_Some index k is)
carried_asks files index k (Allocate name align zone) (Some place) w is =
    absurd (none-some k (sym (placed_has_room index name place _ w) ∙ is))
carried_asks files index k (AddPointer dest src offset size) answer w is = absurd (none-some k is)
carried_asks files index k (AddChecksum name offset start count) answer w is = absurd (none-some k is)
carried_asks files index k (WritePointer dest src dst_offset src_offset size) answer w is =
    absurd (none-some k (sym (skip_has_room index dst_offset _ w) ∙ is))
carried_asks files index k (Misnamed command) answer w is = absurd (none-some k is)
carried_asks files index k (Skipped command) answer w is = absurd (none-some k is)

command_asks : (files : List File) (index k : ℕ) (entry : Entry) (cause : Option Cause) (answer : Option ℕ) (w : LoadState)
    → no_room_of (commanded index entry cause answer w).stage ≡ Some k → AsksHere files k index entry cause
command_asks files index k entry (Some cause) answer w is = absurd (none-some k is)
command_asks files index k entry None answer w is = (carried_asks files index k entry answer w is, refl)

-- at a command
at_asks : (items : List Item) (index k : ℕ) (found : Option Entry) (answer : Option ℕ) (w : LoadState) → HaveOneShape items (items_now w) → HasScript items w
    → slice_get w.script index ≡ found → no_room_of (at_command index found answer w).stage ≡ Some k
    → IsAsked items k (request_at (AtCommand index) w)
at_asks items index k None answer w shape has is stage = absurd (none-some k stage)
at_asks items index k (Some entry) answer w shape has is stage =
    let files = files_of w.attached.device.items in
    let here = command_asks files index k entry (cause_of entry (progress_of w)) answer w stage in
    let asks : request_at (AtCommand index) w ≡ request_by (files_of items) entry =
    ap (λ (o : Option Entry). option_map_or (λ (e : Entry). option_map_or (λ (c : Cause). None) (cause_of e (progress_of w)) (request_by files e)) o None) is
    ∙ here.1 ∙ request_same items (items_now w) entry shape in
    let there : slice_get w.script k ≡ Some entry = ap (slice_get w.script) here.0 ∙ is in
    subst (λ (r : Result (List Entry) LoadFault). IfOk r (λ script.
    request_at (AtCommand index) w ≡ option_map_or (request_by (files_of items)) (slice_get script k) None)) (sym has.script)
    (asks ∙ sym (ap (λ (o : Option Entry). option_map_or (request_by (files_of items)) o None) there))

-- What a step comes to that is without room: it was so before, or it has asked what is asked there.
abbrev Comes : List Item → ℕ → Stage → Option Request → Type 0
Comes items k s asks = (no_room_of s ≡ Some k) ⊎ IsAsked items k asks

-- a step that leads to a stage with room comes to none
has_room : (items : List Item) (k : ℕ) (before s : Stage) (asks : Option Request) → HasRoom s → no_room_of s ≡ Some k → Comes items k before asks
has_room items k before s asks room stage = absurd (none-some k (sym room ∙ stage))

-- a look has room either way
looks_room : (items : List Item) (k : ℕ) (w next after : LoadState) (s : Stage) (asks : Option Request) → w.stage ≡ s → HasRoom s → HasRoom after.stage
    → next ≡ (if is_over w then after else w) → no_room_of next.stage ≡ Some k → Comes items k s asks
looks_room items k w next after s asks at before room is stage =
    has_room items k s next.stage asks
    (subst (λ (m : LoadState). HasRoom m.stage) (sym is) (by_test (λ (m : LoadState). HasRoom m.stage) (is_over w) after w (λ over. room)
    (λ waits. subst HasRoom (sym at) before))) stage

command_comes : (May : Answers) (items : List Item) (k index : ℕ) (w next : LoadState) (asks : Option Request) → HaveOneShape items (items_now w)
    → HasScript items w → FirmwareTo May (AtCommand index) asks w next → no_room_of next.stage ≡ Some k → IsAsked items k (request_at (AtCommand index) w)
command_comes May items k index w next None shape has is stage =
    at_asks items index k (slice_get w.script index) None w shape has refl (ap (λ (m : LoadState). no_room_of m.stage) (sym is) ∙ stage)
command_comes May items k index w next (Some request) shape has is stage =
    at_asks items index k (slice_get w.script index) is.0 w shape has refl (ap (λ (m : LoadState). no_room_of m.stage) (sym is.2) ∙ stage)

firmware_comes : (May Kept : Answers) (items : List Item) (k : ℕ) (w next : LoadState) (s : Stage) → HaveOneShape items (items_now w) → w.stage ≡ s
    → StageKeeps Kept items w s → FirmwareTo May s (request_at s w) w next → no_room_of next.stage ≡ Some k → Comes items k s (request_at s w)
firmware_comes May Kept items k w next (Asks reading) shape at keeps is stage =
    has_room items k (Asks reading) next.stage None (ap (λ (m : LoadState). no_room_of m.stage) is) stage
firmware_comes May Kept items k w next (Awaits reading) shape at keeps is stage =
    looks_room items k w next (taken_of reading w) (Awaits reading) None at refl (taken_has_room reading w) is stage
firmware_comes May Kept items k w next (AtCommand index) shape at keeps is stage =
    inr (command_comes May items k index w next (request_at (AtCommand index) w) shape keeps.0 is stage)
firmware_comes May Kept items k w next (AwaitsSkip index) shape at keeps is stage =
    looks_room items k w next (record w { stage = AsksWrite index }) (AwaitsSkip index) None at refl refl is stage
firmware_comes May Kept items k w next (AsksWrite index) shape at keeps is stage =
    has_room items k (AsksWrite index) next.stage None
    (ap (λ (m : LoadState). no_room_of m.stage) is ∙ write_has_room index (slice_get w.script index) w (ap no_room_of at)) stage
firmware_comes May Kept items k w next (AwaitsWrite index) shape at keeps is stage =
    looks_room items k w next (passed index w) (AwaitsWrite index) None at refl refl is stage
firmware_comes May Kept items k w next Done shape at keeps is stage = inl (ap no_room_of (sym at) ∙ ap (λ (m : LoadState). no_room_of m.stage) (sym is) ∙ stage)
firmware_comes May Kept items k w next (Refused why) shape at keeps is stage =
    inl (ap no_room_of (sym at) ∙ ap (λ (m : LoadState). no_room_of m.stage) (sym is) ∙ stage)

-- A step that comes to NoRoom was there before, or asks what the command of that index asks, however places are answered.
pub no_room_asks : (May Kept : Answers) (its : Opening) (event : Event) (w next : LoadState) (index : ℕ) → KeepsNow Kept its w
    → StepsTo May event w next → next.stage ≡ Refused (NoRoom index) → (no_room_of w.stage ≡ Some index) ⊎ IsAsked its.items index
    (request_of event w)
no_room_asks May Kept its (Device bytes) w next index kept is stage = inl (ap (λ (m : LoadState). no_room_of m.stage) (sym is) ∙ ap no_room_of stage)
no_room_asks May Kept its Firmware w next index kept is stage =
    firmware_comes May Kept its.items index w next w.stage kept.shape refl kept.stage is (ap no_room_of stage)
no_room_asks May Kept its (Other address byte) w next index kept is stage =
    inl (ap (λ (m : LoadState). no_room_of m.stage) (sym is) ∙ ap no_room_of stage)
no_room_asks May Kept its Reset w next index kept is stage =
    absurd (none-some index (sym (ap (λ (m : LoadState). no_room_of m.stage) is) ∙ ap no_room_of stage))
