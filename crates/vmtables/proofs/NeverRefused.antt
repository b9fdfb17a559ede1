-- What a boot wrote is never refused by `decode`, whatever the streams do.
use Rattle.std.proofs.Common.{false, ◌≡◌, ◌≢◌, ℕ, List, Some, Result, Ok, Err, ap, sym, subst, ◌∙◌}
use Rattle.vt_outside.specs.Stream.{SourceSeen, SinkSeen}
use Rattle.machine_desc.specs.declared.machine.Machine.{Machine}
use Rattle.machine_desc.specs.Fields.{HasFittingFields}
use Rattle.machine_desc.specs.Rules.{IsAccepted}
use Rattle.table_model.specs.Inventory.{inventory_of}
use Rattle.vt_words.specs.declared.command.Command.TheVariants.{Boot, Decode}
use Rattle.vt_words.specs.declared.setting.Setting.{Setting}
use Rattle.table_model.specs.Search.{search_of}
use Rattle.vmtables.specs.Calls.{Answering, Input, Unread, Cut, Whole, Made, ReadsAll, Wrote, WasRead, Seen}
use Rattle.vmtables.specs.Causes.{input_fault}
use Rattle.vmtables.specs.Complete.{Call, HasBooted}
use Rattle.vmtables.specs.Decode.{DecodeMakes, DumpShows}
use Rattle.vmtables.specs.Outcome.{status_of, status_of_fault}
use Rattle.vmtables.specs.declared.fault.Fault.{Fault}
use Rattle.vmtables.specs.declared.fault.Fault.TheVariants as fault
use Rattle.vmtables.specs.declared.input.InputFault.{InputFault}
use Rattle.vmtables.specs.declared.input.InputFault.TheVariants as input
use Rattle.vmtables.specs.declared.status.Status.{Status}
use Rattle.vmtables.specs.declared.status.Status.TheVariants as status
use Rattle.vmtables.proofs.Given.{same_bytes}
use Rattle.desc_toml.proofs.Fields.{read_fits}
use Rattle.desc_toml.proofs.OneMachine.{read_accepted}
use Rattle.vmtables.proofs.Listed.{boot_wrote}
use Rattle.vmtables.proofs.Told.{fault_of_sound, machine_sound}

-- A status that says nothing against the bytes.
abbrev Passes : Status → Type 0
Passes answer = (answer ≢ status.DumpRefused) × (answer ≢ status.TablesRefused)

quiet : (answer other : Status) → answer ≡ other → Passes other → Passes answer
quiet answer other is passes = (λ refused. passes.0 (sym is ∙ refused), λ refused. passes.1 (sym is ∙ refused))

-- what cut the reading off says nothing against them
cut_passes : (why : InputFault) → Passes (status_of_fault (input_fault why))
cut_passes input.Failed = (λ e. cc, λ e. cc)
cut_passes input.TooLong = (λ e. cc, λ e. cc)
cut_passes input.OutOfMemory = (λ e. cc, λ e. cc)

-- nor does the way in which such a call ended
ended_passes : (bytes : List ℕ) (m : Machine) (before after : Seen) (in_all : Input) (made : Made) (ended : Result (Unit {0}) Fault)
    (source source_after : SourceSeen) (out out_after : SinkSeen) → IsAccepted m → HasFittingFields m
    → DumpShows (search_of false false) bytes (inventory_of m) → source.left ≡ Some bytes
    → ReadsAll (DecodeMakes (search_of false false)) before after in_all made → WasRead in_all source source_after → Wrote made ended out out_after
    → Passes (status_of ended)
ended_passes bytes m before after Unread made ended source source_after out out_after accepted fits shows had did was wrote = absurd did
ended_passes bytes m before after in_all made (Ok done) source source_after out out_after accepted fits shows had did was wrote = (λ e. cc, λ e. cc)
ended_passes bytes m before after in_all (Ok made) (Err f) source source_after out out_after accepted fits shows had did was wrote =
    quiet (status_of_fault f) status.WriteFault (ap status_of_fault wrote.0) (λ e. cc, λ e. cc)
ended_passes bytes m before after (Cut why) (Err made) (Err f) source source_after out out_after accepted fits shows had did was wrote =
    let same : made ≡ input_fault why = cc in
    quiet (status_of_fault f) (status_of_fault (input_fault why)) (ap status_of_fault (wrote.0 ∙ same)) (cut_passes why)
ended_passes bytes m before after (Whole read) (Err made) (Err f) source source_after out out_after accepted fits shows had did was wrote =
    let same : bytes ≡ read = same_bytes bytes read source.left source_after.left had was.given was.none_left in
    let want : made ≡ fault.OutOfMemory =
    fault_of_sound (search_of false false) bytes (inventory_of m) before after made shows (machine_sound m accepted fits)
    (subst (λ b. DecodeMakes (search_of false false) b before after (Err made)) (sym same) did) in
    quiet (status_of_fault f) status.OutOfMemory (ap status_of_fault (wrote.0 ∙ want)) (λ e. cc, λ e. cc)

pub boot_never_refused : (Gives Others : Answering) (setting : Setting) (description text : List ℕ) (boot : Call Gives (Boot setting))
    (decode : Call Others (Decode false)) → HasBooted description text boot → decode.source.left ≡ Some text
    → (decode.answer ≢ status.DumpRefused) × (decode.answer ≢ status.TablesRefused)
boot_never_refused Gives Others setting description text boot decode has had =
    let is = boot_wrote Gives setting description text boot has in
    let ran = decode.answered.ran in
    quiet decode.answer (status_of decode.answered.ended) decode.answered.status
    (ended_passes text is.machine decode.before decode.after ran.input ran.made decode.answered.ended decode.source decode.source_after decode.out
    decode.out_after
    (read_accepted description is.machine is.read) (read_fits description is.machine is.read) is.shows had ran.did ran.read ran.wrote)
