-- What a command that is carried out makes of the load, over its parts.
use Rattle.std.proofs.Common.{◌≡◌, ℕ, suc, ◌+◌, ◌^◌, ◌<◌, ◌≤◌, List, [], Option, Some, None, MatchOption, refl, sym, ap, ap₂, subst, arith, ◌∙◌}
use Rattle.std.specs.Option.{option_map_or}
use Rattle.vt_bytes.specs.Memory.{Memory}
use Rattle.cfg_directory.specs.declared.listed.Listed.{Listed}
use Rattle.loader_script.specs.declared.entry.Entry.{Entry}
use Rattle.loader_script.specs.declared.entry.Entry.TheVariants.{AddPointer, AddChecksum, WritePointer, Skipped}
use Rattle.loader_script.specs.declared.refusing.Cause.{Cause}
use Rattle.loader_script.specs.declared.refusing.Cause.TheVariants.{TooFar}
use Rattle.loader_script.specs.declared.refusing.FileInfo.{FileInfo}
use Rattle.loader_script.specs.Refusal.{causes_of, first_cause}
use Rattle.vt_outside.specs.File.{File}
use Rattle.loader_script.specs.Run.{infos_of, cause_of, pointer_sum}
use Rattle.loader_script.proofs.Conditions.{conditions_suffice}
use Rattle.cfg_directory.specs.Files.{files_of}
use Rattle.zone_alloc.specs.declared.alloc.Request.{Request}
use Rattle.cfg_dma.specs.Device.{DeviceState}
use Rattle.cfg_dma.specs.Transfers.{Attached, attached}
use Rattle.command_acts.specs.declared.placed.PlacedFile.{PlacedFile}
use Rattle.command_acts.specs.declared.fault.LoadFault.TheVariants as fault
use Rattle.command_acts.specs.FilesInMemory.{files_in, placed_ranges, pointed, summed}
use Rattle.command_acts.specs.Placing.{places_in}
use Rattle.command_acts.specs.Runs.{Answers, at_files, early_cause, request_by}
use Rattle.command_acts.proofs.Causes.{cause_early, cause_late, pointer_goes, pointer_stops}
use Rattle.command_acts.proofs.Placings.{refusal_is}
use Rattle.load_states.specs.declared.stage.Stage.{Stage}
use Rattle.load_states.specs.declared.stage.Stage.TheVariants.{AtCommand, Refused}
use Rattle.load_states.specs.LoadState.{LoadState, listed_named, progress_of}
use Rattle.load_states.specs.Runs.{request_for}
use Rattle.load_states.specs.Steps.{at_command, commanded, skips}
use Rattle.firmware_load.specs.Inside.{GoesByCommand}

-- a load of these parts
abbrev pub load_with : Attached → List PlacedFile → Stage → List Listed → List Entry → LoadState
load_with its_attached its_placed its_stage its_listed its_script = record {
  attached = its_attached;
  stage = its_stage;
  listed = its_listed;
  script = its_script;
  placed = its_placed;
}

-- the load does with a command what its first cause says
pub by_cause : (w : LoadState) (index : ℕ) (entry : Entry) (cause : Option Cause) (answer : Option ℕ) → cause_of entry (progress_of w) ≡ cause
    → at_command index (Some entry) answer w ≡ commanded index entry cause answer w
by_cause w index entry cause answer is = ap (λ found. commanded index entry found answer w) is

-- The load goes on so by a command that asks for no place.
pub goes_unasked : (May : Answers) (w next : LoadState) (index : ℕ) (entry : Entry) (cause : Option Cause) → cause_of entry (progress_of w) ≡ cause
    → option_map_or (λ (why : Cause). None) cause (request_by (files_of w.attached.device.items) entry) ≡ None
    → next ≡ commanded index entry cause None w → GoesByCommand May index entry w next
goes_unasked May w next index entry cause is unasked next_is =
    let request : request_for entry w ≡ None =
    ap (λ found. option_map_or (λ (why : Cause). None) found (request_by (files_of w.attached.device.items) entry)) is ∙ unasked in
    subst (λ (asked : Option Request). MatchOption asked (next ≡ at_command index (Some entry) None w)
    (λ request. (answer : Option ℕ) × May (placed_ranges w.placed) request answer × (next ≡ at_command index (Some entry) answer w)))
    (sym request) (next_is ∙ sym (by_cause w index entry cause None is))

-- by one that is refused
pub goes_refused : (May : Answers) (w : LoadState) (index : ℕ) (entry : Entry) (cause : Cause) → early_cause entry (progress_of w) ≡ Some cause
    → GoesByCommand May index entry w (record w { stage = Refused (fault.Command index cause) })
goes_refused May w index entry cause early =
    goes_unasked May w (record w { stage = Refused (fault.Command index cause) }) index entry (Some cause)
    (cause_early entry (progress_of w) cause early) refl refl

-- the index behind a command
behind : (index : ℕ) → index + 1 ≡ suc index
behind index = omega arith

-- and by one that is skipped
pub goes_skipped : (May : Answers) (w : LoadState) (index command : ℕ)
    → GoesByCommand May index (Skipped command) w (record w { stage = AtCommand (index + 1) })
goes_skipped May w index command =
    goes_unasked May w (record w { stage = AtCommand (index + 1) }) index (Skipped command) None
    (conditions_suffice (Skipped command) (progress_of w) tt) refl (ap (λ (n : ℕ). record w { stage = AtCommand n }) (behind index))

-- and by a WritePointer, whose skip is asked for
pub goes_pointing : (May : Answers) (w next : LoadState) (index : ℕ) (dest src : List ℕ) (dst_offset src_offset size : ℕ)
    → early_cause (WritePointer dest src dst_offset src_offset size) (progress_of w) ≡ None
    → next ≡ skips index dst_offset (listed_named w.listed dest) w → GoesByCommand May index (WritePointer dest src dst_offset src_offset size) w next
goes_pointing May w next index dest src dst_offset src_offset size early next_is =
    let entry = WritePointer dest src dst_offset src_offset size in
    goes_unasked May w next index entry None (cause_late entry (progress_of w) early) refl next_is

-- The cause that the placements tell is told early.
pub told_early : (m : Memory) (files : List File) (infos : List FileInfo) (placed : List PlacedFile) (entry : Entry) (found told : Option Cause)
    → infos ≡ infos_of files → found ≡ first_cause (causes_of entry infos (places_in placed infos)) → found ≡ told
    → early_cause entry (at_files files (files_in m placed) []) ≡ told
told_early m files infos placed entry found told infos_are is found_is =
    sym (refusal_is entry m placed files infos infos_are) ∙ sym is ∙ found_is

-- A pointer whose sum fits is added.
pub pointer_done : (device : DeviceState) (m new : Memory) (placed : List PlacedFile) (listed : List Listed) (script : List Entry)
    (dest src : List ℕ) (offset size index : ℕ)
    → early_cause (AddPointer dest src offset size) (at_files (files_of device.items) (files_in m placed) []) ≡ None
    → pointer_sum (files_in m placed) dest src offset size < 256 ^ size → new ≡ pointed m placed dest src offset size
    → load_with (attached device new) placed (AtCommand (index + 1)) listed script
    ≡ at_command index (Some (AddPointer dest src offset size)) None (load_with (attached device m) placed (AtCommand index) listed script)
pointer_done device m new placed listed script dest src offset size index early fits is =
    let w = load_with (attached device m) placed (AtCommand index) listed script in
    ap₂ (λ (m : Memory) (n : ℕ). load_with (attached device m) placed (AtCommand n) listed script) is (behind index)
    ∙ sym (by_cause w index (AddPointer dest src offset size) None None (pointer_goes dest src offset size (progress_of w) early fits))

-- One whose sum doesn't fit is refused.
pub pointer_refused : (device : DeviceState) (m new : Memory) (placed : List PlacedFile) (listed : List Listed) (script : List Entry)
    (dest src : List ℕ) (offset size index : ℕ)
    → early_cause (AddPointer dest src offset size) (at_files (files_of device.items) (files_in m placed) []) ≡ None
    → 256 ^ size ≤ pointer_sum (files_in m placed) dest src offset size → new ≡ m
    → load_with (attached device new) placed (Refused (fault.Command index TooFar)) listed script
    ≡ at_command index (Some (AddPointer dest src offset size)) None (load_with (attached device m) placed (AtCommand index) listed script)
pointer_refused device m new placed listed script dest src offset size index early far same =
    let w = load_with (attached device m) placed (AtCommand index) listed script in
    ap (λ (m : Memory). load_with (attached device m) placed (Refused (fault.Command index TooFar)) listed script) same
    ∙ sym (by_cause w index (AddPointer dest src offset size) (Some TooFar) None
    (pointer_stops dest src offset size (progress_of w) early far))

-- A sum is subtracted.
pub sum_done : (device : DeviceState) (m new : Memory) (placed : List PlacedFile) (listed : List Listed) (script : List Entry)
    (name : List ℕ) (offset start count index : ℕ)
    → early_cause (AddChecksum name offset start count) (at_files (files_of device.items) (files_in m placed) []) ≡ None
    → new ≡ summed m placed name offset start count
    → load_with (attached device new) placed (AtCommand (index + 1)) listed script
    ≡ at_command index (Some (AddChecksum name offset start count)) None (load_with (attached device m) placed (AtCommand index) listed script)
sum_done device m new placed listed script name offset start count index early is =
    let w = load_with (attached device m) placed (AtCommand index) listed script in
    ap₂ (λ (m : Memory) (n : ℕ). load_with (attached device m) placed (AtCommand n) listed script) is (behind index)
    ∙ sym (by_cause w index (AddChecksum name offset start count) None None (cause_late (AddChecksum name offset start count) (progress_of w) early))
