-- Calls of `decode` of which nothing outside failed: out took a description of the machine, or the first fault was told, or memory ran out.
use Rattle.std.proofs.Common.{◌≡◌, ◌≢◌, ◌⊎◌, inl, inr, ℕ, List, Ok, Err, Bool, false, refl, ap, subst, ◌∙◌}
use Rattle.desc_toml.specs.Reading.{Reads}
use Rattle.desc_toml.proofs.Fields.{read_fits}
use Rattle.desc_toml.proofs.OneMachine.{read_accepted}
use Rattle.machine_desc.specs.declared.machine.Machine.{Machine}
use Rattle.machine_desc.specs.Fields.{HasFittingFields}
use Rattle.machine_desc.specs.Rules.{IsAccepted}
use Rattle.table_model.specs.declared.search.Search.{Search}
use Rattle.table_model.specs.Search.{search_of}
use Rattle.table_model.specs.declared.inventory.Inventory.{Inventory}
use Rattle.table_model.specs.Inventory.{inventory_of}
use Rattle.table_describe.specs.Failing.{IsFirstFailing}
use Rattle.table_describe.proofs.Failing.{none_fails, one_fails_first}
use Rattle.table_describe.proofs.MachineBack.{same_machine}
use Rattle.vt_words.specs.declared.command.Command.TheVariants.{Boot, Decode}
use Rattle.vt_words.specs.declared.setting.Setting.{Setting}
use Rattle.vmtables.specs.Calls.{Answering, Seen}
use Rattle.vmtables.specs.Complete.{Call, HasBooted, IsDone, IsFed, IsRefused, IsTold}
use Rattle.vmtables.specs.Decode.{CannotBeTold, DecodeMakes, DumpShows, IsDescriptionOf, told, not_told}
use Rattle.vmtables.specs.Outcome.{status_of, status_of_fault}
use Rattle.vmtables.specs.declared.fault.Fault.{Fault}
use Rattle.vmtables.specs.declared.fault.Fault.TheVariants as fault
use Rattle.vmtables.proofs.Ends.{ends_as, for_want, with_text, with_fault}
use Rattle.vmtables.proofs.Listed.{IsWant, is_memory, is_other, is_want, boot_wrote, one_fault, one_shown, refused_call, shown_fault}
use Rattle.vmtables.proofs.Refused.{IsUntold, unlisted, no_machine, why_unlisted, why_untold}

-- a dump's memory is that of one machine
one_machine : (search : Search) (bytes : List ℕ) (a b : Machine) → IsAccepted a → HasFittingFields a → IsAccepted b → HasFittingFields b
    → DumpShows search bytes (inventory_of a) → DumpShows search bytes (inventory_of b) → a ≡ b
one_machine search bytes a b accepted fits accepted_too fits_too shows shows_too =
    same_machine a b accepted accepted_too fits fits_too (one_shown search bytes (inventory_of a) (inventory_of b) shows shows_too)

-- of a dump whose memory shows an inventory of which no item fails nothing but memory is wanting
sound_fault : (search : Search) (bytes : List ℕ) (inventory : Inventory) (f : Fault) → DumpShows search bytes inventory
    → ((item : ℕ) → IsFirstFailing inventory item → ⊥) → IsUntold search bytes f → f ≡ fault.OutOfMemory
sound_fault search bytes inventory f shows sound (unlisted cannot) = shown_fault search bytes inventory f shows (why_unlisted search bytes f cannot)
sound_fault search bytes inventory f shows sound (no_machine {item = item} fails) =
    let same = one_shown search bytes fails.inventory inventory fails.shows shows in
    absurd (sound item (subst (λ i. IsFirstFailing i item) same fails.fails))

-- no item of a machine's inventory fails
pub machine_sound : (m : Machine) → IsAccepted m → HasFittingFields m → (item : ℕ) → IsFirstFailing (inventory_of m) item → ⊥
machine_sound m accepted fits item = none_fails (inventory_of m) m item accepted fits refl

-- what is made of a dump of which a machine is told
pub told_text : (search : Search) (bytes text lent : List ℕ) (seen : Seen) → text ≡ lent
    → (machine : Machine) × IsAccepted machine × HasFittingFields machine × DumpShows search bytes (inventory_of machine) × IsDescriptionOf machine text
    → DecodeMakes search bytes seen seen (Ok lent)
told_text search bytes text lent seen same (machine, accepted, fits, shows, describes) =
    told machine accepted fits shows (subst (IsDescriptionOf machine) same describes) refl

-- What `decode` made of the bytes.

pub fault_of_sound : (search : Search) (bytes : List ℕ) (inventory : Inventory) (before after : Seen) (f : Fault) → DumpShows search bytes inventory
    → ((item : ℕ) → IsFirstFailing inventory item → ⊥) → DecodeMakes search bytes before after (Err f) → f ≡ fault.OutOfMemory
fault_of_sound search bytes inventory before after f shows sound (not_told cannot same) =
    sound_fault search bytes inventory f shows sound (why_untold search bytes f cannot)

made_of_machine : (search : Search) (bytes : List ℕ) (m : Machine) (before after : Seen) (made : List ℕ) → IsAccepted m → HasFittingFields m
    → DumpShows search bytes (inventory_of m) → DecodeMakes search bytes before after (Ok made) → IsDescriptionOf m made
made_of_machine search bytes m before after made accepted fits shows (told other accepted_too fits_too shows_too describes same) =
    subst (λ those. IsDescriptionOf those made) (one_machine search bytes other m accepted_too fits_too accepted fits shows_too shows) describes

-- Such a dump is decoded.
pub decode_done : (Gives : Answering) (legacy : Bool) (bytes : List ℕ) (inventory : Inventory) (call : Call Gives (Decode legacy))
    → DumpShows (search_of legacy false) bytes inventory → ((item : ℕ) → IsFirstFailing inventory item → ⊥) → IsFed bytes call → IsDone call
decode_done Gives legacy bytes inventory call shows sound fed =
    let ran = call.answered.ran in
    elim (ends_as (DecodeMakes (search_of legacy false)) call.before call.after bytes ran.input ran.made call.answered.ended call.source call.source_after
    call.out call.out_after
    fed.had fed.within fed.read fed.written ran.did ran.read ran.wrote) [
      | for_want ended ↦ inr (call.answered.status ∙ ap status_of ended)
      | with_text makes ended took ↦ inl (call.answered.status ∙ ap status_of ended)
      | with_fault {why = why} makes ended ↦ inr (call.answered.status ∙ ap status_of ended
          ∙ ap status_of_fault (fault_of_sound (search_of legacy false) bytes inventory call.before call.after why shows sound makes))
    ]

-- The description of the machine whose inventory the memory shows.
pub machine_told : (Gives : Answering) (legacy : Bool) (bytes : List ℕ) (m : Machine) (call : Call Gives (Decode legacy)) → IsAccepted m → HasFittingFields m
    → DumpShows (search_of legacy false) bytes (inventory_of m) → IsFed bytes call → IsTold m call
machine_told Gives legacy bytes m call accepted fits shows fed =
    let ran = call.answered.ran in
    elim (ends_as (DecodeMakes (search_of legacy false)) call.before call.after bytes ran.input ran.made call.answered.ended call.source call.source_after
    call.out call.out_after
    fed.had fed.within fed.read fed.written ran.did ran.read ran.wrote) [
      | for_want ended ↦ inr (call.answered.status ∙ ap status_of ended)
      | with_text {made = made} makes ended took ↦ inl (
        call.answered.status ∙ ap status_of ended,
        (made, made_of_machine (search_of legacy false) bytes m call.before call.after made accepted fits shows makes, took),
      )
      | with_fault {why = why} makes ended ↦ inr (call.answered.status ∙ ap status_of ended
          ∙ ap status_of_fault (fault_of_sound (search_of legacy false) bytes (inventory_of m) call.before call.after why shows
          (machine_sound m accepted fits) makes))
    ]

abbrev profile_fault : ℕ → Fault
profile_fault item = fault.NotProfile item

-- bytes of which no machine is told have one fault
one_untold : (search : Search) (bytes : List ℕ) (a b : Fault) → a ≢ fault.OutOfMemory → b ≢ fault.OutOfMemory → IsUntold search bytes a
    → IsUntold search bytes b → a ≡ b
one_untold search bytes a b some other (unlisted cannot) (unlisted cannot_too) =
    one_fault search bytes a b some other (why_unlisted search bytes a cannot) (why_unlisted search bytes b cannot_too)
one_untold search bytes a b some other (unlisted cannot) (no_machine fails) =
    absurd (some (shown_fault search bytes fails.inventory a fails.shows (why_unlisted search bytes a cannot)))
one_untold search bytes a b some other (no_machine fails) (unlisted cannot) =
    absurd (other (shown_fault search bytes fails.inventory b fails.shows (why_unlisted search bytes b cannot)))
one_untold search bytes a b some other (no_machine {item = item} fails) (no_machine {item = item_too} fails_too) =
    let same = one_shown search bytes fails_too.inventory fails.inventory fails_too.shows fails.shows in
    ap profile_fault (one_fails_first fails.inventory item item_too fails.fails (subst (λ i. IsFirstFailing i item_too) same fails_too.fails))

untold_want : (search : Search) (bytes : List ℕ) (f : Fault) → IsUntold search bytes f → IsWant f
untold_want search bytes f (unlisted cannot) = is_want search bytes f (why_unlisted search bytes f cannot)
untold_want search bytes f (no_machine fails) = is_other (λ is. cc)

-- so they come of no text
text_of_untold : (search : Search) (bytes made : List ℕ) (before after : Seen) (f : Fault) → f ≢ fault.OutOfMemory → CannotBeTold search bytes f
    → DecodeMakes search bytes before after (Ok made) → ⊥
text_of_untold search bytes made before after f other cannot (told m accepted fits shows describes same) =
    other (sound_fault search bytes (inventory_of m) f shows (machine_sound m accepted fits) (why_untold search bytes f cannot))

-- and that fault is made of them
fault_of_untold : (search : Search) (bytes : List ℕ) (before after : Seen) (f made : Fault) → f ≢ fault.OutOfMemory → CannotBeTold search bytes f
    → DecodeMakes search bytes before after (Err made) → (made ≡ f) ⊎ (made ≡ fault.OutOfMemory)
fault_of_untold search bytes before after f made some cannot (not_told cannot_too same) =
    let is = why_untold search bytes f cannot in
    let is_too = why_untold search bytes made cannot_too in
    elim (untold_want search bytes made is_too) [
      | is_memory same ↦ inr same
      | is_other another ↦ inl (one_untold search bytes made f another some is_too is)
    ]

-- The first fault of the bytes, and its line.
pub decode_told : (Gives : Answering) (legacy : Bool) (bytes : List ℕ) (f : Fault) (call : Call Gives (Decode legacy)) → f ≢ fault.OutOfMemory
    → CannotBeTold (search_of legacy false) bytes f → IsFed bytes call → IsRefused f call
decode_told Gives legacy bytes f call some cannot fed =
    refused_call Gives (Decode legacy) (DecodeMakes (search_of legacy false)) bytes f call call.answered.ran.did fed
    (λ made. text_of_untold (search_of legacy false) bytes made call.before call.after f some cannot)
    (λ made. fault_of_untold (search_of legacy false) bytes call.before call.after f made some cannot)

-- A boot that is done, and then its dump decoded.
pub boot_told : (Gives Others : Answering) (setting : Setting) (description text : List ℕ) (boot : Call Gives (Boot setting))
    (decode : Call Others (Decode false)) → HasBooted description text boot → IsFed text decode
    → (machine : Machine) × Reads description machine × IsTold machine decode
boot_told Gives Others setting description text boot decode has fed =
    let is = boot_wrote Gives setting description text boot has in (
      is.machine,
      is.read,
      machine_told Others false text is.machine decode (read_accepted description is.machine is.read) (read_fits description is.machine is.read) is.shows fed,
    )
