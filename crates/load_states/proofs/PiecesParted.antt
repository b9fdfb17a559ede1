-- What came before a reset is forgotten, but for memory.
use Rattle.std.proofs.Common.{◌≡◌, false, List, [], ◌∷◌, refl, sym, ap, subst, ◌∙◌}
use Rattle.std.specs.List.{AllByRecursion}
use Rattle.vt_bytes.specs.Memory.{Memory}
use Rattle.cfg_directory.specs.declared.item.Item.{Item}
use Rattle.cfg_directory.specs.declared.listed.Listed.{Listed}
use Rattle.loader_script.specs.declared.entry.Entry.{Entry}
use Rattle.cfg_dma.specs.Device.{DeviceState, reset_device}
use Rattle.cfg_dma.specs.Transfers.{attached}
use Rattle.command_acts.specs.declared.placed.PlacedFile.{PlacedFile}
use Rattle.command_acts.specs.Allocators.{AreLawful}
use Rattle.command_acts.specs.Runs.{Answers}
use Rattle.load_states.specs.declared.event.Event.{Event}
use Rattle.load_states.specs.declared.event.Event.TheVariants.{Device, Firmware, Other, Reset}
use Rattle.load_states.specs.declared.stage.Stage.{Stage}
use Rattle.load_states.specs.LoadState.{LoadState, Opening, memory_of, with_memory}
use Rattle.load_states.specs.Loads.{IsBegun, begun_device}
use Rattle.load_states.specs.Steps.{opening_stage, restarted}
use Rattle.load_states.specs.Kept.{KeepsNow}
use Rattle.load_states.specs.Pieces.{SameButMemory, AgreeButMemory, HasNoReset, joined, RunsInPieces, IsRunSince}
use Rattle.load_states.specs.Runs.{AnyLawful, RunsTo, StepsTo, has_ended, has_reset}
use Rattle.load_states.proofs.Opening.{begun_keeps}
use Rattle.load_states.proofs.MoreAnswers.{lawful_more, steps_more}
use Rattle.load_states.proofs.RunsAlike.{agreeing, one_more, still_running}
use Rattle.load_states.proofs.StepKeeps.{step_keeps_now}

-- agreeing goes both ways
other_way : (w other : LoadState) → AgreeButMemory w other → AgreeButMemory other w
other_way w other agree =
    record { same = sym (ap (λ (v : LoadState). with_memory v (memory_of w)) agree.same); top = sym agree.top; fill = sym agree.fill }

-- What a load keeps, whatever lawful answers it was given.
abbrev Keeps : Opening → LoadState → Type 0
Keeps its w = KeepsNow (AnyLawful its.top) its w

keeps_more : (May : Answers) (its : Opening) (event : Event) (w next : LoadState) → AreLawful May its.top → Keeps its w → StepsTo May event w next
    → Keeps its next
keeps_more May its event w next lawful keeps steps =
    step_keeps_now (AnyLawful its.top) its event w next (λ handed request place free. free) keeps
    (steps_more May (AnyLawful its.top) (lawful_more May its.top lawful) event w next steps)

-- ---- behind a reset

-- a load by its parts
abbrev load_by : Memory → DeviceState → Stage → List Listed → List Entry → List PlacedFile → LoadState
load_by m d s listed script placed = record { attached = attached d m; stage = s; listed = listed; script = script; placed = placed }

-- a load behind a reset is the one that was begun, over its own memory
reset_begins : (its : Opening) (begun w : LoadState) → IsBegun its begun → Keeps its w → SameButMemory (restarted w) begun
reset_begins its begun w is keeps =
    let m = memory_of begun in
    let d = begun.attached.device in
    let after = reset_device w.attached.device in
    let device : d ≡ after =
    is.device ∙ ap (λ n. let b : DeviceState = record (begun_device its.items) { spare = n } in b) (sym keeps.room)
    ∙ ap (λ (those : List Item). let b : DeviceState = record after { items = those; opening = those } in b) (sym keeps.opening) in
    ap (λ d. load_by m d begun.stage begun.listed begun.script begun.placed) device
    ∙ ap (λ s. load_by m after s begun.listed begun.script begun.placed) is.stage
    ∙ ap (λ l. load_by m after opening_stage l begun.script begun.placed) is.nothing.listed
    ∙ ap (λ c. load_by m after opening_stage [] c begun.placed) is.nothing.script
    ∙ ap (λ p. load_by m after opening_stage [] [] p) is.nothing.placed

-- ---- one more event in front

-- Events, parted, and run so.
record Parted (May : Answers) (begun from : LoadState) (events : List Event) (model : LoadState) : Type 0 where
  pieces : List (List Event)
  since : List Event
  parted : events ≡ joined pieces since
  each_whole : AllByRecursion HasNoReset pieces
  since_whole : HasNoReset since
  ran : RunsInPieces May begun from pieces since model

-- an event in front that is no reset
in_front : (May : Answers) (begun from next model : LoadState) (event : Event) (events : List Event) (pieces : List (List Event)) (since : List Event)
    → ((more : List Event) → has_reset (event ∷ more) ≡ has_reset more) → has_ended from.stage ≡ false → StepsTo May event from next
    → events ≡ joined pieces since → AllByRecursion HasNoReset pieces → HasNoReset since → RunsInPieces May begun next pieces since model
    → Parted May begun from (event ∷ events) model
in_front May begun from next model event events [] since plain running steps parted each whole ran = record {
  pieces = [];
  since = event ∷ since;
  parted = ap (λ a. event ∷ a) parted;
  each_whole = tt;
  since_whole = plain since ∙ whole;
  ran = (running, (next, steps, ran));
}
in_front May begun from next model event events (piece ∷ pieces) since plain running steps parted each whole ran = record {
  pieces = (event ∷ piece) ∷ pieces;
  since = since;
  parted = ap (λ a. event ∷ a) parted;
  each_whole = (plain piece ∙ each.0, each.1);
  since_whole = whole;
  ran = ((ran.0.0, (running, (next, steps, ran.0.1)), ran.0.2), ran.1);
}

-- ---- all events

-- Events, run in pieces to a load with which another one agrees.
record PartedTo (May : Answers) (begun from : LoadState) (events : List Event) (last : LoadState) : Type 0 where
  model : LoadState
  parted : Parted May begun from events model
  agree : AgreeButMemory model last

-- what is known of two loads that agree
record Agreeing (its : Opening) (w other : LoadState) : Type 0 where
  here : Keeps its w
  there : Keeps its other
  agree : AgreeButMemory w other

agreeing_so : (its : Opening) (w other : LoadState) → Keeps its w → Keeps its other → SameButMemory w other → Agreeing its w other
agreeing_so its w other here there same = record { here = here; there = there; agree = agreeing (AnyLawful its.top) its w other here there same }

module _ (May : Answers) (its : Opening) (begun : LoadState) (lawful : AreLawful May its.top) (is : IsBegun its begun) where
  -- how the rest is run, from two loads that agree
  abbrev PartsOn : List Event → LoadState → Type 0
  PartsOn events last = (w other : LoadState) → Agreeing its w other → RunsTo May events w last → PartedTo May begun other events last

  plain_event : (w other last : LoadState) (event : Event) (events : List Event)
      → ((more : List Event) → has_reset (event ∷ more) ≡ has_reset more) → Agreeing its w other → RunsTo May (event ∷ events) w last
      → PartsOn events last → PartedTo May begun other (event ∷ events) last
  plain_event w other last event events plain known runs on =
      let next = runs.1.0 in
      let more = one_more May (AnyLawful its.top) its event w other next known.here known.there known.agree.same runs.1.1 in
      let kept = keeps_more May its event w next lawful known.here runs.1.1 in
      let also = keeps_more May its event other more.after lawful known.there more.steps in
      let rest = on next more.after (agreeing_so its next more.after kept also more.same) runs.1.2 in
      record {
        model = rest.model;
        parted = in_front May begun other more.after rest.model event events rest.parted.pieces rest.parted.since plain
            (still_running w other known.agree.same runs.0) more.steps rest.parted.parted rest.parted.each_whole rest.parted.since_whole
            rest.parted.ran;
        agree = rest.agree;
      }

  parts : (events : List Event) (last : LoadState) → PartsOn events last
  parts [] last w other known runs = record {
    model = other;
    parted = record { pieces = []; since = []; parted = refl; each_whole = tt; since_whole = refl; ran = refl };
    agree = subst (AgreeButMemory other) (sym runs) (other_way w other known.agree);
  }
  parts (Device bytes ∷ events) last w other known runs =
      plain_event w other last (Device bytes) events (λ more. refl) known runs (parts events last)
  parts (Firmware ∷ events) last w other known runs = plain_event w other last Firmware events (λ more. refl) known runs (parts events last)
  parts (Other address byte ∷ events) last w other known runs =
      plain_event w other last (Other address byte) events (λ more. refl) known runs (parts events last)
  parts (Reset ∷ events) last w other known runs =
      let next = runs.1.0 in
      let kept = keeps_more May its Reset w next lawful known.here runs.1.1 in
      let same : SameButMemory next begun =
      subst (λ (v : LoadState). SameButMemory v begun) (sym runs.1.1) (reset_begins its begun w is known.here) in
      let rest = parts events last next begun (agreeing_so its next begun kept (begun_keeps (AnyLawful its.top) its begun is).now same) runs.1.2 in
      record {
        model = rest.model;
        parted = record {
          pieces = [] ∷ rest.parted.pieces;
          since = rest.parted.since;
          parted = ap (λ a. Reset ∷ a) rest.parted.parted;
          each_whole = (refl, rest.parted.each_whole);
          since_whole = rest.parted.since_whole;
          ran = ((other, refl, still_running w other known.agree.same runs.0), rest.parted.ran);
        };
        agree = rest.agree;
      }

-- ---- the last load

-- it is as it is where there was no reset, and else the model of it
as_it_is : (May : Answers) (begun from model last : LoadState) (events : List Event) (pieces : List (List Event)) (since : List Event)
    → events ≡ joined pieces since → AllByRecursion HasNoReset pieces → HasNoReset since → RunsTo May events from last
    → RunsInPieces May begun from pieces since model → AgreeButMemory model last → IsRunSince May begun from events last
as_it_is May begun from model last events [] since parted each whole runs ran agree = record {
  pieces = [];
  since = since;
  parted = parted;
  each_whole = tt;
  since_whole = whole;
  model = last;
  ran = subst (λ es. RunsTo May es from last) parted runs;
  ends = refl;
}
as_it_is May begun from model last events (piece ∷ pieces) since parted each whole runs ran agree = record {
  pieces = piece ∷ pieces;
  since = since;
  parted = parted;
  each_whole = each;
  since_whole = whole;
  model = model;
  ran = ran;
  ends = agree;
}

-- What was run is what was run since the last reset, but for memory.
pub run_since : (May : Answers) (its : Opening) (events : List Event) (begun from last : LoadState) → AreLawful May its.top → IsBegun its begun
    → KeepsNow (AnyLawful its.top) its from → RunsTo May events from last → IsRunSince May begun from events last
run_since May its events begun from last lawful is kept runs =
    let to = parts May its begun lawful is events last from from (agreeing_so its from from kept kept refl) runs in
    as_it_is May begun from to.model last events to.parted.pieces to.parted.since to.parted.parted to.parted.each_whole to.parted.since_whole runs
    to.parted.ran to.agree
