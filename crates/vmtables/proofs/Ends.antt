-- How a call ends that reads its whole input, where nothing outside failed.
use Rattle.std.proofs.Common.{◌≡◌, ℕ, ◌≤◌, List, length, Some, Result, Ok, Err, refl, ap, sym, subst, ◌∙◌}
use Rattle.vt_outside.specs.Stream.{SourceSeen, SinkSeen, Rose}
use Rattle.vmtables.specs.Calls.{Input, Unread, Cut, Whole, Made, ReadsAll, Wrote, WasRead, Seen, TookWhole}
use Rattle.vmtables.specs.Causes.{input_fault}
use Rattle.vmtables.specs.Outcome.{input_limit}
use Rattle.vmtables.specs.declared.fault.Fault.{Fault}
use Rattle.vmtables.specs.declared.fault.Fault.TheVariants as fault
use Rattle.vmtables.specs.declared.input.InputFault.TheVariants as input
use Rattle.vmtables.proofs.Given.{same_bytes, few_given}

-- The call ended for want of memory, or it wrote the text that it made of its input's bytes, or it ended with the fault that it made of them.
pub data EndsAs (Makes : Made → Type 0) (ended : Result (Unit {0}) Fault) (out out_after : SinkSeen) : Type 0 where
  for_want : ended ≡ Err fault.OutOfMemory → EndsAs Makes ended out out_after
  with_text : {made : List ℕ} → Makes (Ok made) → ended ≡ Ok tt → TookWhole made out out_after → EndsAs Makes ended out out_after
  with_fault : {why : Fault} → Makes (Err why) → ended ≡ Err why → EndsAs Makes ended out out_after

-- Of the ways in which a call may end that reads its whole input, these are left where the source had the bytes, no more than an input may have,
-- and no fault was counted.
pub ends_as : (Makes : List ℕ → Seen → Seen → Made → Type 0) (before after : Seen) (bytes : List ℕ) (in_all : Input) (made : Made)
    (ended : Result (Unit {0}) Fault) (source source_after : SourceSeen) (out out_after : SinkSeen)
    → source.left ≡ Some bytes → length bytes ≤ input_limit → (Rose source.faults source_after.faults → ⊥) → (Rose out.faults out_after.faults → ⊥)
    → ReadsAll Makes before after in_all made → WasRead in_all source source_after → Wrote made ended out out_after
    → EndsAs (Makes bytes before after) ended out out_after
ends_as Makes before after bytes Unread made ended source source_after out out_after had within read written did was wrote = absurd did
ends_as Makes before after bytes in_all (Ok made) (Err f) source source_after out out_after had within read written did was wrote =
    absurd (written wrote.1.rose)
ends_as Makes before after bytes in_all (Err made) (Ok done) source source_after out out_after had within read written did was wrote = absurd wrote
ends_as Makes before after bytes (Whole bytes_read) (Ok made) (Ok done) source source_after out out_after had within read written did was wrote =
    let same : bytes ≡ bytes_read = same_bytes bytes bytes_read source.left source_after.left had was.given was.none_left in
    with_text (subst (λ b. Makes b before after (Ok made)) (sym same) did) refl wrote
ends_as Makes before after bytes (Whole bytes_read) (Err made) (Err f) source source_after out out_after had within read written did was wrote =
    let same : bytes ≡ bytes_read = same_bytes bytes bytes_read source.left source_after.left had was.given was.none_left in
    with_fault (subst (λ b. Makes b before after (Err made)) (sym same) did) (ap (λ g. Err g) wrote.0)
ends_as Makes before after bytes (Cut why) (Ok made) (Ok done) source source_after out out_after had within read written did was wrote =
    let no_text : Ok made ≡ Err (input_fault why) = did.0 in
    absurd (cc)
ends_as Makes before after bytes (Cut input.Failed) (Err made) (Err f) source source_after out out_after had within read written did was wrote =
    absurd (read was)
ends_as Makes before after bytes (Cut input.TooLong) (Err made) (Err f) source source_after out out_after had within read written did was wrote =
    absurd (few_given bytes source.left source_after.left had within was)
ends_as Makes before after bytes (Cut input.OutOfMemory) (Err made) (Err f) source source_after out out_after had within read written did was wrote =
    let same : made ≡ fault.OutOfMemory = cc in
    for_want (ap (λ g. Err g) (wrote.0 ∙ same))

-- A call that is done wrote the text that it made of its input's bytes.
pub done_so : (Makes : List ℕ → Seen → Seen → Made → Type 0) (before after : Seen) (bytes : List ℕ) (in_all : Input) (made : Made) (done : Unit {0})
    (source source_after : SourceSeen) (out out_after : SinkSeen) → source.left ≡ Some bytes
    → ReadsAll Makes before after in_all made → WasRead in_all source source_after → Wrote made (Ok done) out out_after
    → (text : List ℕ) × Makes bytes before after (Ok text) × TookWhole text out out_after
done_so Makes before after bytes in_all (Err made) done source source_after out out_after had did was wrote = absurd wrote
done_so Makes before after bytes Unread (Ok made) done source source_after out out_after had did was wrote = absurd did
done_so Makes before after bytes (Cut why) (Ok made) done source source_after out out_after had did was wrote =
    let no_text : Ok made ≡ Err (input_fault why) = did.0 in
    absurd (cc)
done_so Makes before after bytes (Whole bytes_read) (Ok made) done source source_after out out_after had did was wrote =
    let same : bytes ≡ bytes_read = same_bytes bytes bytes_read source.left source_after.left had was.given was.none_left in
    (made, subst (λ b. Makes b before after (Ok made)) (sym same) did, wrote)
