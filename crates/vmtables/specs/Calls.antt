-- How a call ends, whatever its command is.
use Rattle.std.specs.Prelude.{◌≡◌, ◌≢◌, ◌<◌, ◌↔◌, ◌⊎◌, ℕ, true, List, [], IfSome, Result, Ok, Err, IfErr}
use Rattle.vt_outside.specs.Stream.{SourceSeen, SinkSeen, Rose, in_front, behind, Took, TookFront, IsFlushed}
use Rattle.vmtables.specs.Outcome.{status_of, line_of, input_limit, given_count}
use Rattle.zone_alloc.specs.Allocators.{AllocState, Begun}
use Rattle.command_acts.specs.Runs.{Answers}
use Rattle.firmware_load.specs.Schedules.{Plan}
use Rattle.firmware_load.specs.World.{WorldState}
use Rattle.vmtables.specs.Causes.{input_fault}
use Rattle.vmtables.specs.declared.input.InputFault.{InputFault}
use Rattle.vmtables.specs.declared.input.InputFault.TheVariants as input
use Rattle.vmtables.specs.declared.fault.Fault.{Fault}
use Rattle.vmtables.specs.declared.fault.Fault.TheVariants as fault
use Rattle.vmtables.specs.declared.status.Status.{Status}
use Rattle.vmtables.specs.declared.status.Status.TheVariants as status

-- what is seen of a call's world, its allocator and its plan
pub record Seen : Type 0 where
  pub world : WorldState
  pub place : AllocState
  pub plan : Plan

-- the same by the states that an allocator and a plan tell
abbrev pub seen_by : {A C : Type 0} → (A → AllocState) → (C → Plan) → WorldState → A → C → Seen
seen_by state_of plan_of world a c = record { world = world; place = state_of a; plan = plan_of c }

-- how an allocator may answer that was begun so
abbrev pub Answering : Type 1
Answering = Begun → Answers

-- What was read of a source: nothing; a part, where the reading was cut off for a fault; or all of it, which is these bytes.
pub data Input : Type 0 where
  Unread : Input
  Cut : InputFault → Input
  Whole : List ℕ → Input

-- All of a source was read, which is these bytes: it has ended, and nothing is left.
pub record WasEnded (bytes : List ℕ) (source source_after : SourceSeen) : Type 0 where
  pub given : source.left ≡ in_front bytes source_after.left
  pub none_left : IfSome source_after.left (λ rest. rest ≡ [])
  pub ended : source_after.ended ≡ true

-- The reading of a source was cut off for this fault: a read failed and was counted, or the source gave more bytes than an input may have.
abbrev pub WasCut : InputFault → SourceSeen → SourceSeen → Type 0
WasCut input.Failed source source_after = Rose source.faults source_after.faults
WasCut input.TooLong source source_after = IfSome source.left (λ _. input_limit < given_count source.left source_after.left)
WasCut input.OutOfMemory source source_after = Unit {0}

-- So much of a source was read, by what is seen of it before and after.
abbrev pub WasRead : Input → SourceSeen → SourceSeen → Type 0
WasRead Unread source source_after = source_after ≡ source
WasRead (Cut why) source source_after = WasCut why source source_after
WasRead (Whole bytes) source source_after = WasEnded bytes source source_after

-- What a command makes: the text that is to be written, or the fault for which it makes none.
abbrev pub Made : Type 0
Made = Result (List ℕ) Fault

-- What a command may do: from what is seen before and after, what was read, and what it made.
abbrev pub Doing : Type 1
Doing = Seen → Seen → Input → Made → Type 0

-- What a command does that reads its whole input, by what it makes of the input's bytes. Where the reading is cut off, its fault is that of
-- the reading, and the world, the allocator and the plan stay as they were.
abbrev pub ReadsAll : (List ℕ → Seen → Seen → Made → Type 0) → Doing
ReadsAll Makes before after (Whole bytes) made = Makes bytes before after made
ReadsAll Makes before after (Cut why) made = (made ≡ Err (input_fault why)) × (after ≡ before)
ReadsAll Makes before after Unread made = ⊥

-- What a command does that reads nothing.
abbrev pub ReadsNone : (Seen → Seen → Made → Type 0) → Doing
ReadsNone Makes before after Unread made = Makes before after made
ReadsNone Makes before after _ made = ⊥

-- A sink took a text, whole, and all that it took is flushed.
pub record TookWhole (text : List ℕ) (out out_after : SinkSeen) : Type 0 where
  pub took : out_after ≡ record out { taken = behind out.taken text; flushed = out_after.flushed }
  pub flushed : IsFlushed out_after

-- What a call did that ended so: out took the text that was made, or with a write fault a part of it from its front, or, where none
-- was made, nothing.
abbrev pub Wrote : Made → Result (Unit {0}) Fault → SinkSeen → SinkSeen → Type 0
Wrote (Ok text) (Ok done) out out_after = TookWhole text out out_after
Wrote (Ok text) (Err ended) out out_after = (ended ≡ fault.WriteFault) × TookFront text out out_after
Wrote (Err fault) (Ok done) out out_after = ⊥
Wrote (Err fault) (Err ended) out out_after = (ended ≡ fault) × (out_after ≡ out)

-- A call that ended so did what it may: something was read, something was made of it, and that was written.
pub record Ran (May : Input → Made → Type 0) (ended : Result (Unit {0}) Fault) (source source_after : SourceSeen) (out out_after : SinkSeen)
    : Type 0 where
  pub input : Input
  pub made : Made
  pub did : May input made
  pub read : WasRead input source source_after
  pub wrote : Wrote made ended out out_after

-- Say took the line, and counted no fault; or it took a part of it from its front, and its count rose.
abbrev pub Said : List ℕ → SinkSeen → SinkSeen → Type 0
Said line say say_after = Took line say say_after ⊎ TookFront line say say_after

-- What a call answers that did what it may: the status of how it ended. Where a fault ended it, the fault's line was said.
pub record Answered (May : Input → Made → Type 0) (answer : Status) (source source_after : SourceSeen) (out out_after say say_after : SinkSeen)
    : Type 0 where
  pub ended : Result (Unit {0}) Fault
  pub ran : Ran May ended source source_after out out_after
  pub status : answer ≡ status_of ended
  pub said : IfErr ended (λ fault. Said (line_of fault) say say_after)

-- What a status says of the streams.
pub record Streams (answer : Status) (source source_after : SourceSeen) (out out_after : SinkSeen) : Type 0 where
  pub read_fault : answer ≡ status.ReadFault → Rose source.faults source_after.faults
  pub read_sound : answer ≢ status.ReadFault → source_after.faults ≡ source.faults
  pub too_long : IfSome source.left (λ _. (answer ≡ status.InputTooLong) ↔ (input_limit < given_count source.left source_after.left))
  pub write_fault : answer ≡ status.WriteFault → Rose out.faults out_after.faults
  pub write_sound : answer ≢ status.WriteFault → out_after.faults ≡ out.faults
  pub nothing : answer ≢ status.Ok → answer ≢ status.WriteFault → out_after ≡ out
  pub flushed : answer ≡ status.Ok → IsFlushed out_after
  pub unflushed : answer ≢ status.Ok → out_after.flushed ≡ out.flushed
