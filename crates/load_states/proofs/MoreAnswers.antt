-- What a load keeps it keeps where places may be answered in more ways.
use Rattle.std.proofs.Common.{◌≡◌, ℕ, [], List, Option, None, Some, Result, Ok, Err, refl, sym, subst}
use Rattle.std.specs.Prelude.{IfOk}
use Rattle.vt_outside.specs.Placement.{Range}
use Rattle.cfg_directory.specs.declared.item.Item.{Item}
use Rattle.cfg_directory.specs.Files.{files_of}
use Rattle.loader_script.specs.declared.entry.Entry.{Entry}
use Rattle.vt_outside.specs.File.{File}
use Rattle.loader_script.specs.Run.{Progress, End, opening}
use Rattle.command_acts.specs.declared.fault.LoadFault.{LoadFault}
use Rattle.command_acts.specs.Allocators.{AreLawful}
use Rattle.command_acts.specs.FilesInMemory.{placed_ranges}
use Rattle.command_acts.specs.Runs.{Answers, EndsWith, IsRun, done, refused, without_room, allocated, carried, result_of}
use Rattle.command_acts.specs.Script.{script_in}
use Rattle.zone_alloc.specs.declared.alloc.Request.{Request}
use Rattle.load_states.specs.declared.event.Event.{Event}
use Rattle.load_states.specs.declared.stage.Stage.{Stage}
use Rattle.load_states.specs.declared.reading.Reading.{Reading}
use Rattle.load_states.specs.declared.stage.Stage.TheVariants.{Asks, Awaits, AtCommand, AwaitsSkip, AsksWrite, AwaitsWrite, Done, Refused}
use Rattle.load_states.specs.Kept.{KeepsNow, IsKept, StageKeeps, IsNext, IsAwaiting, IsPointing, HasEnded, Knows, read_by}
use Rattle.load_states.specs.LoadState.{LoadState, Opening, items_now, progress_of}
use Rattle.load_states.specs.Runs.{AnyLawful, StepsBy, StepsTo, request_of}
use Rattle.load_states.proofs.Known.{Still, known_in}

-- whatever one may answer so may the other
abbrev pub MayMore : Answers → Answers → Type 0
MayMore May More = (handed : List Range) (request : Request) (answer : Option ℕ) → May handed request answer → More handed request answer

-- an end of a run
ends_more : {May More : Answers} {index : ℕ} {script : List Entry} {p final : Progress} {end : End} → MayMore May More
    → EndsWith May index script p end final → EndsWith More index script p end final
ends_more more done = done
ends_more more (refused is) = refused is
ends_more more (without_room none may) = without_room none (more _ _ _ may)
ends_more more (allocated place none may rest) = allocated place none (more _ _ _ may) (ends_more more rest)
ends_more more (carried none goes rest) = carried none goes (ends_more more rest)

-- a run
run_more : (May More : Answers) (files : List File) (script : List Entry) (handed : List Range) (end : End) (final : Progress) → MayMore May More
    → IsRun May files script handed end final → IsRun More files script handed end final
run_more May More files script handed end final more run =
    record { answered = ends_more more run.answered; ends = run.ends; goes_on = run.goes_on; handed_are = run.handed_are }

-- the end of a load
ran_more : (May More : Answers) (files : List File) (script : Result (List Entry) LoadFault) (answer : Result (Unit {0}) LoadFault) (now : Progress)
    → MayMore May More → IfOk script (λ script. (end : End) × EndsWith May 0 script (opening files []) end now × (answer ≡ result_of end))
    → IfOk script (λ script. (end : End) × EndsWith More 0 script (opening files []) end now × (answer ≡ result_of end))
ran_more May More files (Ok script) answer now more ran = (ran.0, ends_more more ran.1, ran.2)
ran_more May More files (Err why) answer now more ran = tt

ended_more : (May More : Answers) (items : List Item) (answer : Result (Unit {0}) LoadFault) (w : LoadState) → MayMore May More
    → HasEnded May items answer w → HasEnded More items answer w
ended_more May More items answer w more ended = record {
  idle = ended.idle;
  unread = ended.unread;
  ran = ran_more May More (files_of items) (script_in items) answer (progress_of w) more ended.ran;
}

-- what is known while something is read
known_more : (May More : Answers) (items : List Item) (w : LoadState) (reading : Reading) → MayMore May More → (known : Knows May items w reading)
    → Still More items w reading (read_by May items w reading known)
known_more May More items w reading more known =
    known_in May More items w w.attached w.stage reading refl (λ count before last coming are run. run_more May More _ _ _ _ _ more run) known

-- the WritePointer that is carried out
abbrev pointing_more : (May More : Answers) (items before : List Item) (index : ℕ) (w : LoadState) → MayMore May More → IsPointing May items before index w
    → IsPointing More items before index w
pointing_more May More items before index w more known = record {
  script = known.script;
  lawful = known.lawful;
  dest = known.dest;
  src = known.src;
  dst_offset = known.dst_offset;
  src_offset = known.src_offset;
  size = known.size;
  command = known.command;
  goes = known.goes;
  file = known.file;
  there = known.there;
  run = run_more May More _ _ _ _ _ more known.run;
}

-- what holds at a stage
stage_more : (May More : Answers) (items : List Item) (w : LoadState) (stage : Stage) → MayMore May More → StageKeeps May items w stage
    → StageKeeps More items w stage
stage_more May More items w (Asks reading) more keeps =
    let still = known_more May More items w reading more keeps.1.0 in
    (keeps.0, (still.known, subst (IsNext w) (sym still.same) keeps.1.1))
stage_more May More items w (Awaits reading) more keeps =
    let still = known_more May More items w reading more keeps.0 in
    (still.known, subst (IsAwaiting w) (sym still.same) keeps.1)
stage_more May More items w (AtCommand index) more keeps = (keeps.0, keeps.1, keeps.2, run_more May More _ _ _ _ _ more keeps.3)
stage_more May More items w (AwaitsSkip index) more keeps = (pointing_more May More items (items_now w) index w more keeps.0, keeps.1)
stage_more May More items w (AsksWrite index) more keeps = (pointing_more May More items (items_now w) index w more keeps.0, keeps.1)
stage_more May More items w (AwaitsWrite index) more keeps = (keeps.0, pointing_more May More items keeps.0 index w more keeps.1, keeps.2)
stage_more May More items w Done more keeps = (ended_more May More items (Ok tt) w more keeps.0, keeps.1, keeps.2)
stage_more May More items w (Refused why) more keeps = ended_more May More items (Err why) w more keeps

-- What is kept at a moment is kept.
pub now_more : (May More : Answers) → MayMore May More → (its : Opening) (w : LoadState) → KeepsNow May its w → KeepsNow More its w
now_more May More more its w kept = record {
  lawful = kept.lawful;
  names = kept.names;
  opening = kept.opening;
  shape = kept.shape;
  device = kept.device;
  room = kept.room;
  stands = kept.stands;
  memory = kept.memory;
  top = kept.top;
  fill = kept.fill;
  loading = kept.loading;
  zones = kept.zones;
  count = kept.count;
  bios = kept.bios;
  stage = stage_more May More its.items w w.stage more kept.stage;
}

-- And what is kept over events.
pub kept_more : (May More : Answers) → MayMore May More → (its : Opening) (events : List Event) (w : LoadState) → IsKept May its events w
    → IsKept More its events w
kept_more May More more its events w kept = record { now = now_more May More more its w kept.now; others = kept.others }

-- A step whose answers may be given is one whose answers others may give too.
asked_more : (May More : Answers) (event : Event) (w next : LoadState) (asked : Option Request) → MayMore May More → StepsBy May event w next asked
    → StepsBy More event w next asked
asked_more May More event w next None more steps = steps
asked_more May More event w next (Some request) more steps = (steps.0, more (placed_ranges w.placed) request steps.0 steps.1, steps.2)

pub steps_more : (May More : Answers) → MayMore May More → (event : Event) (w next : LoadState) → StepsTo May event w next → StepsTo More event w next
steps_more May More more event w next steps = asked_more May More event w next (request_of event w) more steps

-- A lawful answer is one of any lawful allocator.
lawful_answer : (May : Answers) (top : ℕ) (handed : List Range) (request : Request) (answer : Option ℕ) → AreLawful May top → May handed request answer
    → AnyLawful top handed request answer
lawful_answer May top handed request None lawful may = tt
lawful_answer May top handed request (Some place) lawful may = lawful handed request place may

pub lawful_more : (May : Answers) (top : ℕ) → AreLawful May top → MayMore May (AnyLawful top)
lawful_more May top lawful handed request answer may = lawful_answer May top handed request answer lawful may
