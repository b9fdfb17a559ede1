-- Runs with resets, by their pieces: what came before the last reset is forgotten, but for memory.
use Rattle.std.specs.Prelude.{◌≡◌, false, List, [], ◌∷◌, ◌++◌}
use Rattle.std.specs.List.{AllByRecursion}
use Rattle.command_acts.specs.Runs.{Answers}
use Rattle.load_states.specs.declared.event.Event.{Event}
use Rattle.load_states.specs.declared.event.Event.TheVariants.{Reset}
use Rattle.load_states.specs.LoadState.{LoadState, memory_of, with_memory}
use Rattle.load_states.specs.Runs.{RunsTo, has_ended, has_reset}

-- a load is another one over its own memory
abbrev pub SameButMemory : LoadState → LoadState → Type 0
SameButMemory w other = other ≡ with_memory w (memory_of other)

-- Two loads differ in the bytes of their memories at most: one is the other over its own memory, and the two memories have one top and one
-- fill byte.
pub record AgreeButMemory (w other : LoadState) : Type 0 where
  pub same : SameButMemory w other
  pub top : (memory_of other).top ≡ (memory_of w).top
  pub fill : (memory_of other).fill ≡ (memory_of w).fill

-- no reset is among events
abbrev pub HasNoReset : List Event → Type 0
HasNoReset events = has_reset events ≡ false

-- events by their pieces: each is followed by a reset, and then comes what came since
abbrev pub joined : List (List Event) → List Event → List Event
joined [] since = since
joined (piece ∷ pieces) since = piece ++ Reset ∷ joined pieces since

-- a run over events hasn't ended
abbrev pub IsUnended : Answers → List Event → LoadState → Type 0
IsUnended May events w = (last : LoadState) × RunsTo May events w last × (has_ended last.stage ≡ false)

-- The pieces were run, the first one from a load and each other one from the load that was begun, none to its end; and what came since was
-- run to a last load.
abbrev pub RunsInPieces : Answers → LoadState → LoadState → List (List Event) → List Event → LoadState → Type 0
RunsInPieces May begun from [] since last = RunsTo May since from last
RunsInPieces May begun from (piece ∷ pieces) since last = IsUnended May piece from × RunsInPieces May begun begun pieces since last

-- and it is the load that is there, where there was no reset, and else agrees with it in everything but memory
abbrev pub EndsAs : List (List Event) → LoadState → LoadState → Type 0
EndsAs [] model last = model ≡ last
EndsAs (piece ∷ pieces) model last = AgreeButMemory model last

-- What was run from a load over events to a last one: by its pieces, from the load that was begun. No reset is in a piece or among what came
-- since.
pub record IsRunSince (May : Answers) (begun from : LoadState) (events : List Event) (last : LoadState) : Type 0 where
  pub pieces : List (List Event)
  pub since : List Event
  pub parted : events ≡ joined pieces since
  pub each_whole : AllByRecursion HasNoReset pieces
  pub since_whole : HasNoReset since
  pub model : LoadState
  pub ran : RunsInPieces May begun from pieces since model
  pub ends : EndsAs pieces model last
