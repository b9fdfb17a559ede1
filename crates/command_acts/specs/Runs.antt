-- The run of a script whose Allocates are answered by an allocator, and the end of a load.
use Rattle.std.specs.Prelude.{◌≡◌, ◌≢◌, ℕ, suc, List, [], ◌∷◌, ◌++◌, length, map, slice_get, Option, Some, None, Result, Ok, Err}
use Rattle.std.specs.Option.{option_map_or}
use Rattle.vt_outside.specs.Placement.{Range}
use Rattle.loader_script.specs.declared.entry.Entry.{Entry}
use Rattle.loader_script.specs.declared.entry.Entry.TheVariants.{Allocate, AddPointer, AddChecksum, WritePointer, Misnamed, Skipped}
use Rattle.loader_script.specs.declared.refusing.Cause.{Cause}
use Rattle.vt_outside.specs.File.{File}
use Rattle.loader_script.specs.Run.{Placed, Progress, End, Done, Command, NoRoom, bytes_of, infos_of, places_of, cause_of, carried_out, opening, run}
use Rattle.loader_script.specs.Refusal.{causes_of, first_cause}
use Rattle.loader_script.specs.Left.{range_of}
use Rattle.zone_alloc.specs.declared.alloc.Request.{Request}
use Rattle.zone_alloc.specs.Zones.{zone_numbered}
use Rattle.command_acts.specs.declared.fault.LoadFault.{LoadFault}
use Rattle.command_acts.specs.declared.fault.LoadFault.TheVariants as fault

-- how far a run over files is
abbrev pub at_files : List File → List Placed → List ℕ → Progress
at_files files placed places = record { files = files; placed = placed; places = places }

-- the first cause to refuse a command that is told without the bytes in memory
abbrev pub early_cause : Entry → Progress → Option Cause
early_cause entry p = first_cause (causes_of entry (infos_of p.files) (places_of p.placed p.files))

-- what an Allocate asks of an allocator: the zone and the align of the command, and the size of its file
abbrev pub request_of : List File → List ℕ → ℕ → ℕ → Request
request_of files name align zone = record { zone = zone_numbered zone; size = length (bytes_of files name); align = align }

-- the request of a command, and of the command at an index; none but an Allocate has one
abbrev pub request_by : List File → Entry → Option Request
request_by files (Allocate name align zone) = Some (request_of files name align zone)
request_by files (AddPointer dest src offset size) = None
request_by files (AddChecksum name offset start count) = None
request_by files (WritePointer dest src dst_offset src_offset size) = None
request_by files (Misnamed command) = None
request_by files (Skipped command) = None

abbrev pub request_at : List File → List Entry → ℕ → Option Request
request_at files script index = option_map_or (request_by files) (slice_get script index) None

-- how an allocator may answer: by the ranges that are handed out, the request, and the place that it gives, or None for a refusal
abbrev pub Answers : Type 1
Answers = List Range → Request → Option ℕ → Type 0

-- a file as it is placed
abbrev pub placed_at : List File → List ℕ → ℕ → Placed
placed_at files name place = record { name = name; place = place; bytes = bytes_of files name }

-- how far a run is, with other places still to be given
abbrev pub with_places : Progress → List ℕ → Progress
with_places p places = record p { places = places }

-- how far a run is once a file is placed
abbrev pub with_file : Progress → List ℕ → ℕ → Progress
with_file p name place = record p { placed = p.placed ++ placed_at p.files name place ∷ [] }

-- From the command at an index on, the run of a script that has come so far ends so, and has then come so far. Each Allocate that isn't refused is
-- answered as it may be; the places that a run has still to be given are of no account here.
pub data EndsWith (May : Answers) : ℕ → List Entry → Progress → End → Progress → Type 0 where
  done : {index : ℕ} {p : Progress} → EndsWith May index [] p Done p
  refused : {index : ℕ} {entry : Entry} {script : List Entry} {p : Progress} {cause : Cause}
      → cause_of entry p ≡ Some cause
      → EndsWith May index (entry ∷ script) p (Command index cause) p
  without_room : {index : ℕ} {name : List ℕ} {align zone : ℕ} {script : List Entry} {p : Progress}
      → cause_of (Allocate name align zone) p ≡ None
      → May (map range_of p.placed) (request_of p.files name align zone) None
      → EndsWith May index (Allocate name align zone ∷ script) p (NoRoom index) p
  allocated : {index : ℕ} {name : List ℕ} {align zone : ℕ} {script : List Entry} {p final : Progress} {end : End} (place : ℕ)
      → cause_of (Allocate name align zone) p ≡ None
      → May (map range_of p.placed) (request_of p.files name align zone) (Some place)
      → EndsWith May (suc index) script (with_file p name place) end final
      → EndsWith May index (Allocate name align zone ∷ script) p end final
  carried : {index : ℕ} {entry : Entry} {script : List Entry} {p next final : Progress} {end : End}
      → cause_of entry p ≡ None
      → carried_out entry (with_places p []) ≡ Some next
      → EndsWith May (suc index) script next end final
      → EndsWith May index (entry ∷ script) p end final

-- The run of a script over files ends so, and has then come so far. The ranges of the files that are placed are those that were handed out, in
-- their order, and the run is that on plain lists with these places. A run that has room ends in the same way where more places are given,
-- and leaves those.
pub record IsRun (May : Answers) (files : List File) (script : List Entry) (handed : List Range) (end : End) (final : Progress) : Type 0 where
  pub answered : EndsWith May 0 script (opening files []) end final
  pub ends : run files script (map (λ (r : Range). r.start) handed) ≡ (end, with_places final [])
  pub goes_on : ((at : ℕ) → end ≢ NoRoom at) → (extra : List ℕ)
      → run files script (map (λ (r : Range). r.start) handed ++ extra) ≡ (end, with_places final extra)
  pub handed_are : handed ≡ map range_of final.placed

-- what a load answers whose run ends so
abbrev pub result_of : End → Result (Unit {0}) LoadFault
result_of Done = Ok tt
result_of (Command index cause) = Err (fault.Command index cause)
result_of (NoRoom index) = Err (fault.NoRoom index)
