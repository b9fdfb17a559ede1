-- How a call ends without a command, with an input that was cut off, without a text, and with one.
use Rattle.std.proofs.Common.{◌≡◌, ◌≢◌, ◌<◌, ◌↔◌, ℕ, List, [], Option, Some, None, Result, Ok, Err, true, IfSome, IsSomeAnd, IfErr, OnOk, OnErr, refl}
use Rattle.std.proofs.Common.{ap, subst}
use Rattle.std.specs.Result.{IsErrAnd}
use Rattle.vt_outside.specs.Stream.{SourceSeen, SinkSeen, Rose, in_front, TookFront}
use Rattle.vt_bytes.specs.Memory.{IsMemory}
use Rattle.guest_memory.specs.Bytes.{HoldsBytes}
use Rattle.memory_dump.specs.Dump.{dump}
use Rattle.vmtables.specs.Dumped.{IsDumpOf}
use Rattle.vmtables.specs.Calls.{Answering, Seen, Unread, Whole, Cut, Made, ReadsAll, ReadsNone, Ran, Streams, WasEnded, WasCut, TookWhole}
use Rattle.vmtables.specs.Causes.{input_fault}
use Rattle.vmtables.specs.Does.{Does}
use Rattle.vmtables.specs.Outcome.{input_limit, given_count, status_of, status_of_fault}
use Rattle.load_states.specs.LoadState.{LoadState, memory_of}
use Rattle.table_model.specs.declared.search.Search.{Search}
use Rattle.vt_words.specs.declared.command.Command.{Command}
use Rattle.vmtables.specs.declared.fault.Fault.{Fault}
use Rattle.vmtables.specs.declared.fault.Fault.TheVariants as fault
use Rattle.vmtables.specs.declared.input.InputFault.{InputFault}
use Rattle.vmtables.specs.declared.input.InputFault.TheVariants as input
use Rattle.vmtables.specs.declared.status.Status.{Status}
use Rattle.vmtables.specs.declared.status.Status.TheVariants as status

-- the answer of a reading that came to the end
abbrev pub was_read : List ℕ → Result (List ℕ) InputFault
was_read bytes = Ok bytes

-- no more bytes were given than an input may have
not_too_long : (had : Option (List ℕ)) (ended : Status) (bytes : List ℕ) (count : ℕ) → (ended ≡ status.InputTooLong → ⊥)
    → IfSome had (λ _. (was_read bytes ≡ Err input.TooLong) ↔ (input_limit < count)) → IfSome had (λ _. (ended ≡ status.InputTooLong) ↔ (input_limit < count))
not_too_long None ended bytes count other read = tt
not_too_long (Some all) ended bytes count other read = (λ is. absurd (other is), λ long. let never = read.1 long in cc)

-- words that are no command
pub usage_ran : (Gives : Answering) (command : Option Command) (seen : Seen) (source : SourceSeen) (out : SinkSeen) → command ≡ None
    → Ran (Does Gives command seen seen) (Err fault.Usage) source source out out
usage_ran Gives command seen source out none =
    rw none (record { input = Unread; made = Err fault.Usage; did = (refl, refl); read = refl; wrote = (refl, refl) })

-- a command that the words are
pub commanded : (Gives : Answering) (known command : Option Command) (r : Result (Unit {0}) Fault) (before after : Seen)
    (source source_after : SourceSeen) (out out_after : SinkSeen) → known ≡ command → Ran (Does Gives known before after) r source source_after out out_after
    → Ran (Does Gives command before after) r source source_after out out_after
commanded Gives known command r before after source source_after out out_after is =
    subst (λ those. Ran (Does Gives those before after) r source source_after out out_after) is

-- nor on how the search is told by which it reads
pub by_search : (Makes : Search → List ℕ → Seen → Seen → Made → Type 0) (search known : Search) (r : Result (Unit {0}) Fault) (before after : Seen)
    (source source_after : SourceSeen) (out out_after : SinkSeen) → search ≡ known
    → Ran (ReadsAll (Makes search) before after) r source source_after out out_after
    → Ran (ReadsAll (Makes known) before after) r source source_after out out_after
by_search Makes search known r before after source source_after out out_after is =
    subst (λ those. Ran (ReadsAll (Makes those) before after) r source source_after out out_after) is

abbrev pub read_as : {A : Type 0} → A → Result A InputFault
read_as got = Ok got

never_long : {A : Type 0} (got : A) → read_as got ≡ Err input.TooLong → ⊥
never_long got is = cc

-- What a reading that ended says of too many bytes, it says whatever was made of them.
pub read_whole : {A : Type 0} (got : A) (bytes : List ℕ) (had left : Option (List ℕ))
    → IfSome had (λ _. (read_as got ≡ Err input.TooLong) ↔ (input_limit < given_count had left))
    → IfSome had (λ _. (was_read bytes ≡ Err input.TooLong) ↔ (input_limit < given_count had left))
read_whole got bytes None left too_long = tt
read_whole got bytes (Some all) left too_long = (λ is. cc, λ more. absurd (never_long got (too_long.1 more)))

-- the answer of a reading that was cut off
abbrev pub input_failed : (A : Type 0) → InputFault → Result A InputFault
input_failed A why = Err why

given_more : (A : Type 0) (had left : Option (List ℕ))
    → IfSome had (λ _. (input_failed A input.TooLong ≡ Err input.TooLong) ↔ (input_limit < given_count had left))
    → IfSome had (λ _. input_limit < given_count had left)
given_more A None left too_long = tt
given_more A (Some all) left too_long = too_long.0 refl

-- the fault of a reading was counted, or too many bytes were given
was_cut : (A : Type 0) (why : InputFault) (source source_after : SourceSeen)
    → (input_failed A why ≡ Err input.Failed → Rose source.faults source_after.faults)
    → IfSome source.left (λ _. (input_failed A why ≡ Err input.TooLong) ↔ (input_limit < given_count source.left source_after.left))
    → WasCut why source source_after
was_cut A input.Failed source source_after failed too_long = failed refl
was_cut A input.TooLong source source_after failed too_long = given_more A source.left source_after.left too_long
was_cut A input.OutOfMemory source source_after failed too_long = tt

-- A command that reads its whole input ends with the fault of the reading.
pub cut_off : {A : Type 0} (Makes : List ℕ → Seen → Seen → Made → Type 0) (why : InputFault) (r : Result (Unit {0}) Fault) (seen : Seen)
    (source source_after : SourceSeen) (out : SinkSeen)
    → (input_failed A why ≡ Err input.Failed → Rose source.faults source_after.faults)
    → IfSome source.left (λ _. (input_failed A why ≡ Err input.TooLong) ↔ (input_limit < given_count source.left source_after.left))
    → IsErrAnd r (λ ended. ended ≡ input_fault why) → Ran (ReadsAll Makes seen seen) r source source_after out out
cut_off {A} Makes why (Ok done) seen source source_after out failed too_long is = absurd is
cut_off {A} Makes why (Err ended) seen source source_after out failed too_long is = record {
  input = Cut why;
  made = Err (input_fault why);
  did = (refl, refl);
  read = was_cut A why source source_after failed too_long;
  wrote = (is, refl);
}

-- what is known of a source that was read to its end
pub ended_so : (bytes : List ℕ) (source source_after : SourceSeen) → source.left ≡ in_front bytes source_after.left
    → IfSome source_after.left (λ rest. rest ≡ []) → source_after.ended ≡ true → WasEnded bytes source source_after
ended_so bytes source source_after given none_left ended = record { given = given; none_left = none_left; ended = ended }

-- A command that reads its whole input, and makes no text of it.
pub refused : (Makes : List ℕ → Seen → Seen → Made → Type 0) (bytes lent : List ℕ) (f : Fault) (r : Result (Unit {0}) Fault)
    (before after : Seen) (source source_after : SourceSeen) (out : SinkSeen)
    → WasEnded bytes source source_after → lent ≡ bytes → Makes lent before after (Err f) → IsErrAnd r (λ ended. ended ≡ f)
    → Ran (ReadsAll Makes before after) r source source_after out out
refused Makes bytes lent f (Ok done) before after source source_after out read same made is = absurd is
refused Makes bytes lent f (Err ended) before after source source_after out read same made is =
    let did : Makes bytes before after (Err f) = subst (λ b. Makes b before after (Err f)) same made in
    record { input = Whole bytes; made = Err f; did = did; read = read; wrote = (is, refl) }

-- A command that reads its whole input, and wrote the text that it made of it, or a part of that.
pub wrote : (Makes : List ℕ → Seen → Seen → Made → Type 0) (r : Result (Unit {0}) Fault) (bytes text : List ℕ)
    (before after : Seen) (source source_after : SourceSeen) (out out_after : SinkSeen)
    → WasEnded bytes source source_after → Makes bytes before after (Ok text)
    → OnOk r (TookWhole text out out_after) → IfErr r (λ f. f ≡ fault.WriteFault) → OnErr r (TookFront text out out_after)
    → Ran (ReadsAll Makes before after) r source source_after out out_after
wrote Makes (Ok done) bytes text before after source source_after out out_after read makes took failed front =
    record { input = Whole bytes; made = Ok text; did = makes; read = read; wrote = took }
wrote Makes (Err f) bytes text before after source source_after out out_after read makes took failed front =
    record { input = Whole bytes; made = Ok text; did = makes; read = read; wrote = (failed, front) }

-- A command that reads nothing, and makes no text.
pub plain_refused : (Makes : Seen → Seen → Made → Type 0) (f : Fault) (r : Result (Unit {0}) Fault) (before after : Seen) (source : SourceSeen)
    (out : SinkSeen) → Makes before after (Err f) → IsErrAnd r (λ ended. ended ≡ f) → Ran (ReadsNone Makes before after) r source source out out
plain_refused Makes f (Ok done) before after source out made is = absurd is
plain_refused Makes f (Err ended) before after source out made is =
    record { input = Unread; made = Err f; did = made; read = refl; wrote = (is, refl) }

-- A command that reads nothing, and wrote the text that it made, or a part of that.
pub plain_wrote : (Makes : Seen → Seen → Made → Type 0) (r : Result (Unit {0}) Fault) (text : List ℕ) (before after : Seen) (source : SourceSeen)
    (out out_after : SinkSeen) → Makes before after (Ok text)
    → OnOk r (TookWhole text out out_after) → IfErr r (λ f. f ≡ fault.WriteFault) → OnErr r (TookFront text out out_after)
    → Ran (ReadsNone Makes before after) r source source out out_after
plain_wrote Makes (Ok done) text before after source out out_after makes took failed front =
    record { input = Unread; made = Ok text; did = makes; read = refl; wrote = took }
plain_wrote Makes (Err f) text before after source out out_after makes took failed front =
    record { input = Unread; made = Ok text; did = makes; read = refl; wrote = (failed, front) }

-- what is known of the memory of a world that was dumped
pub world_dumped : (seen : Option LoadState) (world : LoadState) → seen ≡ Some world → IsSomeAnd seen (λ w. IsMemory (memory_of w))
    → IsSomeAnd seen (λ w. HoldsBytes (memory_of w)) → IsDumpOf (memory_of world) (dump (memory_of world))
world_dumped seen world is lawful holds = record {
  lawful = subst (λ those. IsSomeAnd those (λ w. IsMemory (memory_of w))) is lawful;
  holds = subst (λ those. IsSomeAnd those (λ w. HoldsBytes (memory_of w))) is holds;
  text_is = refl;
}

-- A command that loaded files, and wrote the dump of that world or a part of it.
pub dump_wrote : (Makes : List ℕ → Seen → Seen → Made → Type 0) (r : Result (Unit {0}) Fault) (bytes : List ℕ) (world : LoadState)
    (before after : Seen) (source source_after : SourceSeen) (out out_after : SinkSeen)
    → WasEnded bytes source source_after → after.world.load ≡ Some world → Makes bytes before after (Ok (dump (memory_of world)))
    → OnOk r (IsSomeAnd after.world.load (λ w. TookWhole (dump (memory_of w)) out out_after))
    → IfErr r (λ f. f ≡ fault.WriteFault)
    → OnErr r (IsSomeAnd after.world.load (λ w. TookFront (dump (memory_of w)) out out_after))
    → Ran (ReadsAll Makes before after) r source source_after out out_after
dump_wrote Makes r bytes world before after source source_after out out_after read is makes dumped failed front =
    wrote Makes r bytes (dump (memory_of world)) before after source source_after out out_after read makes
    (subst (λ those. OnOk r (IsSomeAnd those (λ w. TookWhole (dump (memory_of w)) out out_after))) is dumped) failed
    (subst (λ those. OnErr r (IsSomeAnd those (λ w. TookFront (dump (memory_of w)) out out_after))) is front)

-- The streams of a command that read its whole input, made a text of it, and wrote that or a part of it.
pub wrote_streams : (r : Result (Unit {0}) Fault) (bytes text : List ℕ) (source source_after : SourceSeen) (out out_after : SinkSeen)
    → source_after.faults ≡ source.faults
    → IfSome source.left (λ _. (was_read bytes ≡ Err input.TooLong) ↔ (input_limit < given_count source.left source_after.left))
    → OnOk r (TookWhole text out out_after) → IfErr r (λ f. f ≡ fault.WriteFault) → OnErr r (TookFront text out out_after)
    → Streams (status_of r) source source_after out out_after
wrote_streams (Ok done) bytes text source source_after out out_after all_sound too_long took failed front = record {
  read_fault = λ is. cc;
  read_sound = λ _. all_sound;
  too_long = not_too_long source.left status.Ok bytes _ (λ is. cc) too_long;
  write_fault = λ is. cc;
  write_sound = λ _. ap (λ (s : SinkSeen). s.faults) took.took;
  nothing = λ other _. absurd (other refl);
  flushed = λ _. took.flushed;
  unflushed = λ other. absurd (other refl);
}
wrote_streams (Err f) bytes text source source_after out out_after all_sound too_long took failed front = rw failed (record {
  read_fault = λ is. cc;
  read_sound = λ _. all_sound;
  too_long = not_too_long source.left status.WriteFault bytes _ (λ is. cc) too_long;
  write_fault = λ _. front.rose;
  write_sound = λ other. absurd (other refl);
  nothing = λ _ other. absurd (other refl);
  flushed = λ is. cc;
  unflushed = λ _. ap (λ (s : SinkSeen). s.flushed) front.took;
})

-- the streams of a command that loaded files, and wrote the dump of that world or a part of it
pub dump_streams : (r : Result (Unit {0}) Fault) (bytes : List ℕ) (world : LoadState) (seen : Option LoadState) (source source_after : SourceSeen)
    (out out_after : SinkSeen) → source_after.faults ≡ source.faults
    → IfSome source.left (λ _. (was_read bytes ≡ Err input.TooLong) ↔ (input_limit < given_count source.left source_after.left))
    → seen ≡ Some world → OnOk r (IsSomeAnd seen (λ w. TookWhole (dump (memory_of w)) out out_after)) → IfErr r (λ f. f ≡ fault.WriteFault)
    → OnErr r (IsSomeAnd seen (λ w. TookFront (dump (memory_of w)) out out_after)) → Streams (status_of r) source source_after out out_after
dump_streams r bytes world seen source source_after out out_after all_sound too_long is dumped failed front =
    wrote_streams r bytes (dump (memory_of world)) source source_after out out_after all_sound too_long
    (subst (λ those. OnOk r (IsSomeAnd those (λ w. TookWhole (dump (memory_of w)) out out_after))) is dumped) failed
    (subst (λ those. OnErr r (IsSomeAnd those (λ w. TookFront (dump (memory_of w)) out out_after))) is front)

-- A status that says nothing of the streams: the call wasn't done, and neither a read, nor a write, nor the length of the input ended it.
pub record IsQuiet (answer : Status) : Type 0 where
  pub done : answer ≢ status.Ok
  pub read : answer ≢ status.ReadFault
  pub long : answer ≢ status.InputTooLong
  pub written : answer ≢ status.WriteFault

-- The streams of a command that read its whole input, and made no text of it.
pub quiet_streams : (f : Fault) (r : Result (Unit {0}) Fault) (bytes : List ℕ) (source source_after : SourceSeen) (out : SinkSeen)
    → IsQuiet (status_of_fault f) → IsErrAnd r (λ ended. ended ≡ f) → source_after.faults ≡ source.faults
    → IfSome source.left (λ _. (was_read bytes ≡ Err input.TooLong) ↔ (input_limit < given_count source.left source_after.left))
    → Streams (status_of r) source source_after out out
quiet_streams f (Ok done) bytes source source_after out quiet is all_sound too_long = absurd is
quiet_streams f (Err ended) bytes source source_after out quiet is all_sound too_long = rw is (record {
  read_fault = λ answer. absurd (quiet.read answer);
  read_sound = λ _. all_sound;
  too_long = not_too_long source.left (status_of_fault f) bytes _ quiet.long too_long;
  write_fault = λ answer. absurd (quiet.written answer);
  write_sound = λ _. refl;
  nothing = λ _ _. refl;
  flushed = λ answer. absurd (quiet.done answer);
  unflushed = λ _. refl;
})
