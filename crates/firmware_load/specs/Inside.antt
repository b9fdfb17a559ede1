-- What a world keeps inside.
use Rattle.std.specs.Prelude.{◌≡◌, ℕ, ◌≤◌, ◌<◌, ◌⊎◌, true, false, List, [], ◌++◌, length, Option, Some, None, MatchOption, IfOk, vec_capacity}
use Rattle.std.specs.Option.{option_map, option_map_or}
use Rattle.vt_bytes.specs.Memory.{IsTop}
use Rattle.cfg_directory.specs.declared.item.Item.{Item}
use Rattle.cfg_directory.specs.declared.listed.Listed.{Listed}
use Rattle.cfg_directory.specs.Items.{IsItems}
use Rattle.cfg_directory.specs.Listing.{listed_of}
use Rattle.loader_script.specs.declared.entry.Entry.{Entry}
use Rattle.loader_script.specs.Run.{Progress, infos_of}
use Rattle.cfg_directory.specs.Files.{files_of}
use Rattle.cfg_dma.specs.Transfers.{attached}
use Rattle.guest_memory.specs.Touched.{TouchesOnly}
use Rattle.command_acts.specs.Touching.{IsInOne}
use Rattle.command_acts.specs.FilesInMemory.{IsLoading, files_in, placed_ranges}
use Rattle.command_acts.specs.Placing.{ArePlacements}
use Rattle.command_acts.specs.Runs.{Answers, at_files}
use Rattle.command_acts.specs.Script.{script_in, IsAsked}
use Rattle.command_acts.specs.declared.fault.LoadFault.TheVariants.{NoRoom}
use Rattle.vt_outside.specs.Stream.{next_count}
use Rattle.zone_alloc.specs.Allocators.{AllocState}
use Rattle.load_states.specs.declared.event.Event.{Event}
use Rattle.load_states.specs.declared.event.Event.TheVariants.{Firmware}
use Rattle.load_states.specs.declared.stage.Stage.{Stage}
use Rattle.load_states.specs.declared.stage.Stage.TheVariants.{Refused}
use Rattle.load_states.specs.LoadState.{LoadState, Opening, opening_of}
use Rattle.load_states.specs.Steps.{at_command}
use Rattle.load_states.specs.Runs.{AnyLawful, RunsTo, StepsTo, request_for, has_ended, whole_piece}
use Rattle.load_states.specs.Kept.{IsKept, KeepsNow}
use Rattle.load_states.specs.Touching.{OneMayLeaveTouched, MayTouchOver}
use Rattle.firmware_load.specs.declared.guest.Guest.{Guest}
use Rattle.firmware_load.specs.declared.loading.Loading.{Loading}
use Rattle.firmware_load.specs.World.{WorldState}

-- the load of a guest whose firmware is so far, and has taken these files and commands
abbrev pub load_at : Guest → Stage → List Listed → List Entry → LoadState
load_at guest its_stage its_listed its_script = record {
  attached = attached guest.device guest.memory.memory;
  stage = its_stage;
  listed = its_listed;
  script = its_script;
  placed = guest.placements.placed.items;
}

abbrev pub load_of : Loading → LoadState
load_of l = load_at l.guest l.stage l.listed.items l.script.items

abbrev pub load_in : Option Loading → Option LoadState
load_in loading = option_map load_of loading

-- what is seen of a world in which this was begun
abbrev pub world_in : Option Loading → WorldState
world_in loading = record { load = load_in loading; touched = option_map_or (λ (l : Loading). l.guest.memory.touched) loading [] }

-- how far the run of the script on plain lists is, where the placed files stand as they do now
abbrev pub progress_now : Guest → Progress
progress_now guest = at_files (files_of guest.device.items) (files_in guest.memory.memory guest.placements.placed.items) []

-- There is room for all files of the directory and for all commands of the script, and the placements are those of the items.
pub record HasRooms (items : List Item) (l : Loading) : Type 0 where
  pub listed : length items ≤ vec_capacity l.listed
  pub script : IfOk (script_in items) (λ script. length script ≤ vec_capacity l.script)
  pub infos : l.guest.placements.infos.items ≡ infos_of (files_of items)
  pub placements : ArePlacements l.guest.placements

-- A load that was begun with this keeps what a load keeps.
pub record IsInside (its : Opening) (l : Loading) : Type 0 where
  pub kept : KeepsNow (AnyLawful its.top) its (load_of l)
  pub rooms : HasRooms its.items l

-- It was begun with something.
abbrev pub KeepsInside : Loading → Type 0
KeepsInside l = (its : Opening) × IsInside its l

-- What was begun stays what it was.
abbrev pub StaysBegun : Loading → Loading → Type 0
StaysBegun before after = (its : Opening) → IsInside its before → IsInside its after

-- What a step leaves of the rooms: capacities, and the files that may be placed.
pub record SameRooms (before after : Loading) : Type 0 where
  pub listed : vec_capacity after.listed ≡ vec_capacity before.listed
  pub script : vec_capacity after.script ≡ vec_capacity before.script
  pub infos : after.guest.placements.infos ≡ before.guest.placements.infos
  pub placements : ArePlacements after.guest.placements

-- no address: of frames that alone were touched which have one, none was
abbrev pub Nowhere : ℕ → Type 0
Nowhere address = ⊥

-- What a guest leaves of its frames over these events: memory has its top still, files that were placed are placed, and no other frames were
-- touched than those that may be.
pub record TouchesOver (events : List Event) (before after : Guest) : Type 0 where
  pub top : after.memory.memory.top ≡ before.memory.memory.top
  pub placed : (address : ℕ) → IsInOne (placed_ranges before.placements.placed.items) address
      → IsInOne (placed_ranges after.placements.placed.items) address ⊎ OneMayLeaveTouched before.memory.memory.top events address
  pub touches : TouchesOnly (MayTouchOver before.memory.memory.top events (placed_ranges after.placements.placed.items)) before.memory.memory.top
      before.memory.touched after.memory.touched

-- the events are those that were taken of a plan
pub record TouchesTaken (left_before left : List Event) (before after : Guest) : Type 0 where
  pub taken : List Event
  pub plan : left_before ≡ taken ++ left
  pub touches : TouchesOver taken before after

-- What a guest needs for a command of its script: the firmware knows its files, the placed ones stand in memory and apart, no transfer is in
-- flight, and there is room for one.
pub record IsReady (guest : Guest) (listed : List Listed) : Type 0 where
  pub top : IsTop guest.memory.memory.top
  pub items : IsItems guest.device.items
  pub listed_are : listed ≡ listed_of guest.device.items
  pub infos : guest.placements.infos.items ≡ infos_of (files_of guest.device.items)
  pub placements : ArePlacements guest.placements
  pub loading : IsLoading guest.memory.memory.top (files_of guest.device.items) guest.placements.placed.items
  pub idle : guest.device.flight ≡ None
  pub room : 0 < guest.device.spare

-- The load goes on by the command of an index: as the definition of its step says, with an answer that the allocator may give where it is
-- asked.
abbrev pub GoesByCommand : Answers → ℕ → Entry → LoadState → LoadState → Type 0
GoesByCommand May index entry w next =
    MatchOption (request_for entry w) (next ≡ at_command index (Some entry) None w)
    (λ request. (answer : Option ℕ) × May (placed_ranges w.placed) request answer × (next ≡ at_command index (Some entry) answer w))

-- A load is on its run: over these events from a load that was begun, none of which came behind the run's end; and it keeps what a load keeps.
pub record IsOnRun (May : Answers) (begun : LoadState) (events : List Event) (w : LoadState) : Type 0 where
  pub ran : RunsTo May events begun w
  pub kept : IsKept May (opening_of begun) events w

-- A turn: a step of the firmware and then, unless the load has ended, a piece as long as any transfer.
pub record IsTurn (May : Answers) (before after : LoadState) : Type 0 where
  pub middle : LoadState
  pub first : StepsTo May Firmware before middle
  pub second : ((has_ended middle.stage ≡ true) × (after ≡ middle))
      ⊎ ((has_ended middle.stage ≡ false) × StepsTo May whole_piece middle after)

-- What an allocator was asked on the way from one state of a load to another, which was begun with these items: it refused exactly where the load
-- ends without room, and then what the command of that index asks; a load that has ended asks nothing.
pub record AsksOnTheWay (items : List Item) (before after : Loading) (alloc_before alloc_after : AllocState) : Type 0 where
  pub no_room : (index : ℕ) → after.stage ≡ Refused (NoRoom index) → (before.stage ≡ Refused (NoRoom index))
      ⊎ ((alloc_after.refusals ≡ next_count alloc_before.refusals) × IsAsked items index alloc_after.refused)
  pub sound : ((index : ℕ) → after.stage ≡ Refused (NoRoom index) → before.stage ≡ Refused (NoRoom index))
      → alloc_after.refusals ≡ alloc_before.refusals
  pub ended : has_ended before.stage ≡ true → (after.stage ≡ before.stage) × (alloc_after ≡ alloc_before)
  pub top : after.guest.memory.memory.top ≡ before.guest.memory.memory.top
