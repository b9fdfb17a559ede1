-- How `boot` and `gen` end: a fault is one of the input, of the writing, or their own; nothing is refused that they build themselves, and a shelf has
-- room for each file.
use Rattle.std.proofs.Common.{None, ◌≡◌, ◌≢◌, ℕ, List, Option, Some, Result, Ok, Err, ap, sym, subst, ◌∙◌}
use Rattle.vt_outside.specs.Placement.{Range, IsFree}
use Rattle.vt_outside.specs.Stream.{SinkSeen, SourceSeen}
use Rattle.zone_alloc.specs.declared.alloc.Request.{Request}
use Rattle.zone_alloc.specs.Allocators.{Begun}
use Rattle.zone_alloc.specs.Places.{range_in}
use Rattle.command_acts.specs.Allocators.{AreZonesOf}
use Rattle.vt_words.specs.declared.command.Command.{Command}
use Rattle.vt_words.specs.declared.command.Command.TheVariants.{Boot, Build, Decode, Gen, List as Listing, Load}
use Rattle.vt_words.specs.declared.setting.Setting.{Setting}
use Rattle.machine_desc.specs.declared.machine.Machine.{Machine}
use Rattle.generated_machine.specs.Generated.{generated}
use Rattle.vmtables.specs.Boot.{BootMakes, FailsToBoot, too_large, not_built, without_room, without_memory, not_read, not_booted}
use Rattle.vmtables.specs.Generate.{GenMakes, not_counted, plain}
use Rattle.vmtables.specs.Calls.{Answering, Input, Unread, Cut, Whole, Made, ReadsAll, ReadsNone, Ran, Wrote, Answered, Seen}
use Rattle.vmtables.specs.Causes.{input_fault}
use Rattle.vmtables.specs.Does.{Does, NothingIsRefused}
use Rattle.vmtables.specs.Loading.{IsRefusedFree}
use Rattle.vmtables.specs.Outcome.{status_of, status_of_fault}
use Rattle.vmtables.specs.Shelf.{shelf_answers}
use Rattle.vmtables.proofs.Refused.{IsUndescribed, none_read, unread, why_undescribed}
use Rattle.vmtables.specs.declared.fault.Fault.{Fault}
use Rattle.vmtables.specs.declared.input.InputFault.{InputFault}
use Rattle.vmtables.specs.declared.input.InputFault.TheVariants as input
use Rattle.vmtables.specs.declared.status.Status.{Status}
use Rattle.vmtables.specs.declared.status.Status.TheVariants as status

-- A status that is none of an input's and none of a write's.
pub record IsOwn (answer : Status) : Type 0 where
  pub done : answer ≢ status.Ok
  pub written : answer ≢ status.WriteFault
  pub read : (why : InputFault) → answer ≢ status_of_fault (input_fault why)

-- A call that reads its whole input ends with a status of its own only for a fault that the command makes of the input's bytes.
pub ends_of_its_own : (Makes : List ℕ → Seen → Seen → Made → Type 0) (before after : Seen) (in_all : Input) (made : Made) (ended : Result (Unit {0}) Fault)
    (out out_after : SinkSeen) (answer : Status) → IsOwn answer → ReadsAll Makes before after in_all made → Wrote made ended out out_after
    → answer ≡ status_of ended → (bytes : List ℕ) × (f : Fault) × Makes bytes before after (Err f) × (answer ≡ status_of_fault f)
ends_of_its_own Makes before after in_all made (Ok done) out out_after answer own did wrote is = absurd (own.done is)
ends_of_its_own Makes before after in_all (Ok text) (Err f) out out_after answer own did wrote is =
    absurd (own.written (is ∙ ap status_of_fault wrote.0))
ends_of_its_own Makes before after (Whole bytes) (Err made) (Err f) out out_after answer own did wrote is =
    (bytes, made, did, is ∙ ap status_of_fault wrote.0)
ends_of_its_own Makes before after (Cut why) (Err made) (Err f) out out_after answer own did wrote is =
    let same : made ≡ input_fault why = cc in
    absurd (own.read why (is ∙ ap status_of_fault (wrote.0 ∙ same)))
ends_of_its_own Makes before after Unread (Err made) (Err f) out out_after answer own did wrote is = absurd did

own_image : IsOwn status.ImageRefused
own_image = record {
  done = λ is. cc;
  written = λ is. cc;
  read = λ why. elim why as (λ w. status.ImageRefused ≢ status_of_fault (input_fault w))
      [ input.Failed ↦ λ is. cc | input.TooLong ↦ λ is. cc | input.OutOfMemory ↦ λ is. cc ];
}

own_dump : IsOwn status.DumpRefused
own_dump = record {
  done = λ is. cc;
  written = λ is. cc;
  read = λ why. elim why as (λ w. status.DumpRefused ≢ status_of_fault (input_fault w))
      [ input.Failed ↦ λ is. cc | input.TooLong ↦ λ is. cc | input.OutOfMemory ↦ λ is. cc ];
}

own_tables : IsOwn status.TablesRefused
own_tables = record {
  done = λ is. cc;
  written = λ is. cc;
  read = λ why. elim why as (λ w. status.TablesRefused ≢ status_of_fault (input_fault w))
      [ input.Failed ↦ λ is. cc | input.TooLong ↦ λ is. cc | input.OutOfMemory ↦ λ is. cc ];
}

own_room : IsOwn status.NoRoom
own_room = record {
  done = λ is. cc;
  written = λ is. cc;
  read = λ why. elim why as (λ w. status.NoRoom ≢ status_of_fault (input_fault w))
      [ input.Failed ↦ λ is. cc | input.TooLong ↦ λ is. cc | input.OutOfMemory ↦ λ is. cc ];
}

-- A call that reads nothing ends with a status of its own only for a fault that the command makes.
plain_ends : (Makes : Seen → Seen → Made → Type 0) (before after : Seen) (in_all : Input) (made : Made) (ended : Result (Unit {0}) Fault)
    (out out_after : SinkSeen) (answer : Status) → IsOwn answer → ReadsNone Makes before after in_all made → Wrote made ended out out_after
    → answer ≡ status_of ended → (f : Fault) × Makes before after (Err f) × (answer ≡ status_of_fault f)
plain_ends Makes before after in_all made (Ok done) out out_after answer own did wrote is = absurd (own.done is)
plain_ends Makes before after in_all (Ok text) (Err f) out out_after answer own did wrote is = absurd (own.written (is ∙ ap status_of_fault wrote.0))
plain_ends Makes before after Unread (Err made) (Err f) out out_after answer own did wrote is = (made, did, is ∙ ap status_of_fault wrote.0)
plain_ends Makes before after (Cut why) (Err made) (Err f) out out_after answer own did wrote is = absurd did
plain_ends Makes before after (Whole bytes) (Err made) (Err f) out out_after answer own did wrote is = absurd did

-- a status that is that of no fault of a boot
record IsNone (answer : Status) : Type 0 where
  description : answer ≢ status.DescriptionRefused
  memory : answer ≢ status.OutOfMemory
  large : answer ≢ status.ImageTooLarge
  room : answer ≢ status.NoRoom

none_image : IsNone status.ImageRefused
none_image = record { description = λ is. cc; memory = λ is. cc; large = λ is. cc; room = λ is. cc }

none_dump : IsNone status.DumpRefused
none_dump = record { description = λ is. cc; memory = λ is. cc; large = λ is. cc; room = λ is. cc }

none_tables : IsNone status.TablesRefused
none_tables = record { description = λ is. cc; memory = λ is. cc; large = λ is. cc; room = λ is. cc }

-- no fault for which a machine isn't booted, or none is read, has such a status

machine_none : (Gives : Answering) (setting : Setting) (m : Machine) (before after : Seen) (f : Fault) (answer : Status) → IsNone answer
    → FailsToBoot Gives setting m before after f → answer ≢ status_of_fault f
machine_none Gives setting m before after f answer none (too_large large same) = none.large
machine_none Gives setting m before after f answer none (not_built same) = none.memory
machine_none Gives setting m before after f answer none (without_room small loaded refusal) = none.room
machine_none Gives setting m before after f answer none (without_memory is_unloaded) = none.memory

undescribed_none : (bytes : List ℕ) (f : Fault) (answer : Status) → IsNone answer → IsUndescribed bytes f → answer ≢ status_of_fault f
undescribed_none bytes f answer none (none_read read) = none.description
undescribed_none bytes f answer none unread = none.memory

boot_none : (Gives : Answering) (setting : Setting) (bytes : List ℕ) (before after : Seen) (f : Fault) (answer : Status) → IsNone answer
    → BootMakes Gives setting bytes before after (Err f) → answer ≢ status_of_fault f
boot_none Gives setting bytes before after f answer none (not_read cannot same) =
    undescribed_none bytes f answer none (why_undescribed bytes f cannot)
boot_none Gives setting bytes before after f answer none (not_booted m read fails) = machine_none Gives setting m before after f answer none fails

gen_none : (Gives : Answering) (processors : ℕ) (before after : Seen) (f : Fault) (answer : Status) → IsNone answer
    → GenMakes Gives processors before after (Err f) → answer ≢ status_of_fault f
gen_none Gives processors before after f answer none (not_counted fails) =
    machine_none Gives plain (generated processors) before after f answer none fails

-- so neither command answers one
boot_refuses : (Gives : Answering) (setting : Setting) (before after : Seen) (ended : Result (Unit {0}) Fault) (source source_after : SourceSeen)
    (out out_after : SinkSeen) (answer : Status) → IsOwn answer → IsNone answer
    → Ran (Does Gives (Some (Boot setting)) before after) ended source source_after out out_after → status_of ended ≢ answer
boot_refuses Gives setting before after ended source source_after out out_after answer own none ran is =
    let fault = ends_of_its_own (BootMakes Gives setting) before after ran.input ran.made ended out out_after answer own ran.did ran.wrote (sym is) in
    boot_none Gives setting fault.0 before after fault.1 answer none fault.2 fault.3

gen_refuses : (Gives : Answering) (processors : ℕ) (before after : Seen) (ended : Result (Unit {0}) Fault) (source source_after : SourceSeen)
    (out out_after : SinkSeen) (answer : Status) → IsOwn answer → IsNone answer
    → Ran (Does Gives (Some (Gen processors)) before after) ended source source_after out out_after → status_of ended ≢ answer
gen_refuses Gives processors before after ended source source_after out out_after answer own none ran is =
    let fault = plain_ends (GenMakes Gives processors) before after ran.input ran.made ended out out_after answer own ran.did ran.wrote (sym is) in
    gen_none Gives processors before after fault.0 answer none fault.1 fault.2

pub nothing_refused : (Gives : Answering) (command : Option Command) (before after : Seen) (ended : Result (Unit {0}) Fault)
    (source source_after : SourceSeen) (out out_after : SinkSeen) → Ran (Does Gives command before after) ended source source_after out out_after
    → NothingIsRefused command (status_of ended)
nothing_refused Gives (Some (Boot setting)) before after ended source source_after out out_after ran = record {
  image = boot_refuses Gives setting before after ended source source_after out out_after status.ImageRefused own_image none_image ran;
  dump = boot_refuses Gives setting before after ended source source_after out out_after status.DumpRefused own_dump none_dump ran;
  tables = boot_refuses Gives setting before after ended source source_after out out_after status.TablesRefused own_tables none_tables ran;
}
nothing_refused Gives (Some (Gen processors)) before after ended source source_after out out_after ran = record {
  image = gen_refuses Gives processors before after ended source source_after out out_after status.ImageRefused own_image none_image ran;
  dump = gen_refuses Gives processors before after ended source source_after out out_after status.DumpRefused own_dump none_dump ran;
  tables = gen_refuses Gives processors before after ended source source_after out out_after status.TablesRefused own_tables none_tables ran;
}
nothing_refused Gives (Some (Load options)) before after ended source source_after out out_after ran = tt
nothing_refused Gives (Some Build) before after ended source source_after out out_after ran = tt
nothing_refused Gives (Some (Decode legacy)) before after ended source source_after out out_after ran = tt
nothing_refused Gives (Some (Listing sought)) before after ended source source_after out out_after ran = tt
nothing_refused Gives None before after ended source source_after out out_after ran = tt

-- nor does the command that the words are
pub words_refuse_nothing : (Gives : Answering) (known command : Option Command) (ended : Result (Unit {0}) Fault) (before after : Seen)
    (source source_after : SourceSeen) (out out_after : SinkSeen) → known ≡ command
    → Ran (Does Gives known before after) ended source source_after out out_after
    → NothingIsRefused command (status_of ended)
words_refuse_nothing Gives known command ended before after source source_after out out_after is ran =
    subst (λ those. NothingIsRefused those (status_of ended)) is
    (nothing_refused Gives known before after ended source source_after out out_after ran)

-- a shelf refuses nothing for which a place is free
never_refused : (begun : Begun) (top : ℕ) (handed : List Range) (asked : Option Request) → AreZonesOf top begun.zones
    → IsRefusedFree (shelf_answers begun) top handed asked → ⊥
never_refused begun top handed asked are is =
    let may = is.refusal in
    let free_in : IsFree (range_in begun.zones is.request.zone) handed is.request.size is.request.align is.place =
    subst (λ (zone : Range). IsFree zone handed is.request.size is.request.align is.place) (sym (are is.request.zone)) is.free in
    may.given is.place
    (subst (λ (those : Begun). IsFree (range_in those.zones is.request.zone) may.allocator.handed is.request.size is.request.align is.place) (sym may.begun_is)
    (subst (λ (there : List Range). IsFree (range_in begun.zones is.request.zone) there is.request.size is.request.align is.place) (sym may.handed_is) free_in))

-- so no boot of a machine fails for want of room
machine_has_room : (setting : Setting) (m : Machine) (before after : Seen) (f : Fault) → FailsToBoot shelf_answers setting m before after f
    → status.NoRoom ≢ status_of_fault f
machine_has_room setting m before after f (too_large large same) = λ is. cc
machine_has_room setting m before after f (not_built same) = λ is. cc
machine_has_room setting m before after f (without_room small loaded refusal) =
    λ is. absurd (never_refused after.place.begun _ after.place.handed after.place.refused loaded.zones refusal)
machine_has_room setting m before after f (without_memory is_unloaded) = λ is. cc

undescribed_has_room : (bytes : List ℕ) (f : Fault) → IsUndescribed bytes f → status.NoRoom ≢ status_of_fault f
undescribed_has_room bytes f (none_read read) = λ is. cc
undescribed_has_room bytes f unread = λ is. cc

boot_has_room : (setting : Setting) (bytes : List ℕ) (before after : Seen) (f : Fault) → BootMakes shelf_answers setting bytes before after (Err f)
    → status.NoRoom ≢ status_of_fault f
boot_has_room setting bytes before after f (not_read cannot same) = undescribed_has_room bytes f (why_undescribed bytes f cannot)
boot_has_room setting bytes before after f (not_booted m read fails) = machine_has_room setting m before after f fails

gen_has_room : (processors : ℕ) (before after : Seen) (f : Fault) → GenMakes shelf_answers processors before after (Err f)
    → status.NoRoom ≢ status_of_fault f
gen_has_room processors before after f (not_counted fails) = machine_has_room plain (generated processors) before after f fails

pub shelf_has_room : (setting : Setting) (before after : Seen) (answer : Status) (source source_after : SourceSeen) (out out_after say say_after : SinkSeen)
    → Answered (Does shelf_answers (Some (Boot setting)) before after) answer source source_after out out_after say say_after → answer ≢ status.NoRoom
shelf_has_room setting before after answer source source_after out out_after say say_after answered is =
    let own = ends_of_its_own (BootMakes shelf_answers setting) before after answered.ran.input answered.ran.made answered.ended out out_after
    status.NoRoom own_room answered.ran.did answered.ran.wrote (sym is ∙ answered.status) in
    boot_has_room setting own.0 before after own.1 own.2 own.3

pub shelf_has_room_for_generated : (processors : ℕ) (before after : Seen) (answer : Status) (source source_after : SourceSeen)
    (out out_after say say_after : SinkSeen)
    → Answered (Does shelf_answers (Some (Gen processors)) before after) answer source source_after out out_after say say_after → answer ≢ status.NoRoom
shelf_has_room_for_generated processors before after answer source source_after out out_after say say_after answered is =
    let own = plain_ends (GenMakes shelf_answers processors) before after answered.ran.input answered.ran.made answered.ended out out_after
    status.NoRoom own_room answered.ran.did answered.ran.wrote (sym is ∙ answered.status) in
    gen_has_room processors before after own.0 own.1 own.2
