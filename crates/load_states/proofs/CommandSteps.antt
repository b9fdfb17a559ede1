-- A step of the firmware at a command, or at the script's end, keeps what the load keeps.
use Rattle.std.proofs.Common.{◌≡◌, ℕ, zero, suc, ◌≤◌, List, [], ◌∷◌, length, slice_get, Option, Some, None}
use Rattle.std.proofs.Common.{arith, refl, sym}
use Rattle.std.specs.Prelude.{MatchOption}
use Rattle.std.specs.Option.{option_map_or}
use Rattle.std.proofs.lemmas.Option.{none-some}
use Rattle.loader_script.specs.declared.entry.Entry.{Entry}
use Rattle.loader_script.specs.declared.entry.Entry.TheVariants.{Allocate, AddPointer, AddChecksum, WritePointer, Misnamed, Skipped}
use Rattle.loader_script.specs.declared.refusing.Cause.{Cause}
use Rattle.loader_script.specs.Run.{cause_of}
use Rattle.loader_script.proofs.Conditions.{conditions_from}
use Rattle.cfg_directory.specs.Files.{files_of}
use Rattle.zone_alloc.specs.declared.alloc.Request.{Request}
use Rattle.command_acts.specs.Allocators.{AreLawful}
use Rattle.command_acts.specs.FilesInMemory.{placed_ranges}
use Rattle.command_acts.specs.Runs.{Answers, request_by}
use Rattle.load_states.specs.declared.stage.Stage.TheVariants.{AtCommand}
use Rattle.load_states.specs.LoadState.{LoadState, Opening, items_now, progress_of}
use Rattle.load_states.specs.Runs.{request_at, request_for}
use Rattle.load_states.specs.Steps.{firmware_step, at_command, commanded, carried_out}
use Rattle.load_states.specs.Kept.{KeepsNow, StageKeeps}
use Rattle.load_states.proofs.CommandCauses.{IsBefore, refused_keeps, no_room_keeps}
use Rattle.load_states.proofs.CommandCloses.{closed_keeps}
use Rattle.load_states.proofs.CommandPatches.{skip_keeps, pointer_keeps, sum_keeps}
use Rattle.load_states.proofs.CommandPlaces.{place_keeps}
use Rattle.load_states.proofs.CommandPoints.{point_keeps}
use Rattle.load_states.proofs.Frames.{KeepsOn}

-- what is answered is an answer that an allocator may give, where one is asked
abbrev MayBe : Answers → LoadState → Option Request → Option ℕ → Type 0
MayBe May w asked answer = MatchOption asked (Unit {0}) (λ request. May (placed_ranges w.placed) request answer)

-- a command that isn't refused is carried out
carried_keeps : (May : Answers) (its : Opening) (w : LoadState) (index : ℕ) (entry : Entry) (answer : Option ℕ) → AreLawful May its.top
    → KeepsNow May its w → IsBefore May its.items w index entry → cause_of entry (progress_of w) ≡ None → MayBe May w
    (request_by (files_of (items_now w)) entry) answer → KeepsOn May its w (carried_out index entry answer w)
carried_keeps May its w index (Allocate name align zone) None lawful kept before none may =
    no_room_keeps May its w index name align zone kept before none may
carried_keeps May its w index (Allocate name align zone) (Some place) lawful kept before none may =
    place_keeps May its w index name align zone place lawful kept before none may
carried_keeps May its w index (AddPointer dest src offset size) answer lawful kept before none may =
    pointer_keeps May its w index dest src offset size kept before none
carried_keeps May its w index (AddChecksum name offset start count) answer lawful kept before none may =
    sum_keeps May its w index name offset start count kept before none
carried_keeps May its w index (WritePointer dest src dst_offset src_offset size) answer lawful kept before none may =
    point_keeps May its w index dest src dst_offset src_offset size kept before none
carried_keeps May its w index (Misnamed command) answer lawful kept before none may = absurd (conditions_from (Misnamed command) (progress_of w) none)
carried_keeps May its w index (Skipped command) answer lawful kept before none may = skip_keeps May its w index command kept before

-- a command is refused for its first cause, or carried out
commanded_keeps : (May : Answers) (its : Opening) (w : LoadState) (index : ℕ) (entry : Entry) (cause : Option Cause) (answer : Option ℕ)
    → AreLawful May its.top → KeepsNow May its w → IsBefore May its.items w index entry → cause_of entry (progress_of w) ≡ cause → MayBe May w
    (option_map_or (λ (cause : Cause). None) cause (request_by (files_of (items_now w)) entry)) answer → KeepsOn May its w
    (commanded index entry cause answer w)
commanded_keeps May its w index entry (Some cause) answer lawful kept before is may = refused_keeps May its w index entry cause kept before is
commanded_keeps May its w index entry None answer lawful kept before is may = carried_keeps May its w index entry answer lawful kept before is may

-- an index that has no element is past the end
past_end : (entries : List Entry) (index : ℕ) → slice_get entries index ≡ None → length entries ≤ index
past_end [] index is = omega arith
past_end (first ∷ entries) zero is = absurd (none-some first (sym is))
past_end (first ∷ entries) (suc index) is = omega (arith, past_end entries index is)

-- there is a command of the index, or the script is at its end
there_keeps : (May : Answers) (its : Opening) (w : LoadState) (index : ℕ) (there : Option Entry) (answer : Option ℕ) → AreLawful May its.top
    → KeepsNow May its w → StageKeeps May its.items w (AtCommand index) → slice_get w.script index ≡ there → MayBe May w
    (option_map_or (λ entry. request_for entry w) there None) answer → KeepsOn May its w (at_command index there answer w)
there_keeps May its w index None answer lawful kept keeps is may = closed_keeps May its w index kept keeps (past_end w.script index is)
there_keeps May its w index (Some entry) answer lawful kept keeps is may =
    let script = keeps.0 in
    let before : IsBefore May its.items w index entry = record { script = script; there = is; idle = keeps.2; run = keeps.3 } in
    commanded_keeps May its w index entry (cause_of entry (progress_of w)) answer lawful kept before refl may

-- The firmware's step at a command keeps what the load keeps.
pub command_keeps : (May : Answers) (its : Opening) (w : LoadState) (index : ℕ) (answer : Option ℕ) → AreLawful May its.top → KeepsNow May its w
    → StageKeeps May its.items w (AtCommand index) → MatchOption (request_at (AtCommand index) w) (Unit {0})
    (λ request. May (placed_ranges w.placed) request answer) → KeepsOn May its w (firmware_step (AtCommand index) answer w)
command_keeps May its w index answer lawful kept keeps may = there_keeps May its w index (slice_get w.script index) answer lawful kept keeps refl may
