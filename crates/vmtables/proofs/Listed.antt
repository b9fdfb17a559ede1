-- Calls of `decode --list` of which nothing outside failed: out took the list, or the first fault was told, or memory ran out.
use Rattle.std.proofs.Common.{◌≡◌, ◌≢◌, ◌⊎◌, inl, inr, ℕ, List, ◌++◌, Result, Ok, Err, IfErr, false, refl, ap, sym, subst, ◌∙◌}
use Rattle.std.proofs.lemmas.List.{append_cancel_left}
use Rattle.vt_outside.specs.Stream.{SinkSeen, Bytes, behind}
use Rattle.vt_bytes.specs.Memory.{Memory, seen}
use Rattle.desc_toml.specs.Reading.{Reads}
use Rattle.machine_desc.specs.declared.machine.Machine.{Machine}
use Rattle.table_model.specs.declared.search.Search.{Search}
use Rattle.table_model.specs.Search.{search_of}
use Rattle.table_model.specs.declared.inventory.Inventory.{Inventory}
use Rattle.table_model.specs.Inventory.{ShowsBy, inventory_of}
use Rattle.memory_dump.specs.declared.fault.DumpFault.{DumpFault}
use Rattle.memory_dump.specs.Reading.{read_so}
use Rattle.memory_dump.proofs.ReadAgain.{one_text, text_read}
use Rattle.anchor_scan.specs.declared.fault.ScanFault.{ScanFault}
use Rattle.anchor_scan.specs.Scan.{RefusesBy}
use Rattle.anchor_scan.proofs.OneScan.{one_scan}
use Rattle.command_acts.specs.declared.fault.LoadFault.TheVariants as load
use Rattle.load_states.specs.LoadState.{memory_of}
use Rattle.scan_text.specs.List.{list_of}
use Rattle.vt_words.specs.declared.command.Command.{Command}
use Rattle.vt_words.specs.declared.command.Command.TheVariants.{Boot, List as Listing}
use Rattle.vt_words.specs.declared.command.Sought.{Sought}
use Rattle.vt_words.specs.declared.command.Sought.TheVariants.{One}
use Rattle.vt_words.specs.declared.setting.Setting.{Setting}
use Rattle.vmtables.specs.Boot.{BootMakes, booted}
use Rattle.vmtables.specs.Calls.{Answering, Made, ReadsAll, Said, Seen, TookWhole, Wrote}
use Rattle.vmtables.specs.Complete.{Call, HasBooted, IsDone, IsFed, IsListed, IsRefused}
use Rattle.vmtables.specs.Decode.{CannotBeListed, ListMakes, DumpRefuses, DumpShows, listed, not_listed, search_for}
use Rattle.vmtables.specs.Dumped.{IsDumpOf}
use Rattle.vmtables.specs.Outcome.{faulty_line, line_of, status_of, status_of_fault}
use Rattle.vmtables.specs.declared.fault.Fault.{Fault}
use Rattle.vmtables.specs.declared.fault.Fault.TheVariants as fault
use Rattle.vmtables.specs.declared.status.Status.TheVariants as status
use Rattle.vmtables.proofs.Ends.{done_so, ends_as, for_want, with_text, with_fault}
use Rattle.vmtables.proofs.Refused.{IsUnlisted, no_dump, tables, why_unlisted}
use Rattle.vmtables.proofs.Refused as refused

-- a text is the dump of one memory
one_memory : (m other : Memory) (bytes : List ℕ) → IsDumpOf m bytes → IsDumpOf other bytes → m ≡ other
one_memory m other bytes is also = one_text m other is.lawful is.holds also.lawful also.holds (sym is.text_is ∙ also.text_is)

abbrev dump_told : DumpFault → Result Memory DumpFault
dump_told why = Err why

abbrev scanned : Inventory → Result Inventory ScanFault
scanned inventory = Ok inventory

abbrev scan_told : ScanFault → Result Inventory ScanFault
scan_told why = Err why

-- a dump's memory shows one inventory
pub one_shown : (search : Search) (bytes : List ℕ) (a b : Inventory) → DumpShows search bytes a → DumpShows search bytes b → a ≡ b
one_shown search bytes a b is also =
    let same = one_memory also.memory is.memory bytes also.dumped is.dumped in
    let both : scanned a ≡ scanned b = one_scan search is.memory.top (seen is.memory) (Ok a) (Ok b) is.shown
    (subst (λ m. ShowsBy search m.top (seen m) b) same also.shown) in
    cc

-- and then its tables have no fault
pub never_both : (search : Search) (bytes : List ℕ) (inventory : Inventory) (why : ScanFault) → DumpShows search bytes inventory
    → DumpRefuses search bytes why → ⊥
never_both search bytes inventory why is also =
    let same = one_memory also.memory is.memory bytes also.dumped is.dumped in
    let both : scanned inventory ≡ scan_told why = one_scan search is.memory.top (seen is.memory) (Ok inventory) (Err why) is.shown
    (subst (λ m. RefusesBy search (seen m) why) same also.refuses) in
    absurd (cc)

one_refused : (search : Search) (bytes : List ℕ) (a b : ScanFault) → DumpRefuses search bytes a → DumpRefuses search bytes b → a ≡ b
one_refused search bytes a b is also =
    let same = one_memory also.memory is.memory bytes also.dumped is.dumped in
    let both : scan_told a ≡ scan_told b = one_scan search is.memory.top (seen is.memory) (Err a) (Err b) is.refuses
    (subst (λ m. RefusesBy search (seen m) b) same also.refuses) in
    cc

-- a dump has no fault of its own
pub dump_is_read : (m : Memory) (bytes : List ℕ) (why : DumpFault) → IsDumpOf m bytes → read_so bytes ≡ Err why → ⊥
dump_is_read m bytes why is read =
    let both : dump_told why ≡ Ok m = sym read ∙ text_read bytes m is.lawful is.holds (sym is.text_is) in
    absurd (cc)

-- so that of a dump whose memory shows an inventory nothing but memory is wanting
pub shown_fault : (search : Search) (bytes : List ℕ) (inventory : Inventory) (f : Fault) → DumpShows search bytes inventory → IsUnlisted search bytes f
    → f ≡ fault.OutOfMemory
shown_fault search bytes inventory f is (no_dump {why = why} read line) = absurd (dump_is_read is.memory bytes why is.dumped read)
shown_fault search bytes inventory f is (tables {why = why} refuses) = absurd (never_both search bytes inventory why is refuses)
shown_fault search bytes inventory f is refused.memory = refl

abbrev dump_fault : DumpFault → ℕ → Fault
dump_fault why line = fault.Dump why line

-- and bytes have one fault
pub one_fault : (search : Search) (bytes : List ℕ) (a b : Fault) → a ≢ fault.OutOfMemory → b ≢ fault.OutOfMemory → IsUnlisted search bytes a
    → IsUnlisted search bytes b → a ≡ b
one_fault search bytes a b some other (no_dump {why = why} {line = line} read at) (no_dump {why = also} {line = there} read_too at_too) =
    let told : dump_told why ≡ Err also = sym read ∙ read_too in
    let same : why ≡ also = cc in
    let line_is : line ≡ there = at ∙ ap (faulty_line bytes) same ∙ sym at_too in
    ap (λ w. dump_fault w line) same ∙ ap (dump_fault also) line_is
one_fault search bytes a b some other (no_dump {why = why} read at) (tables refuses) = absurd (dump_is_read refuses.memory bytes why refuses.dumped read)
one_fault search bytes a b some other (tables refuses) (no_dump {why = why} read at) = absurd (dump_is_read refuses.memory bytes why refuses.dumped read)
one_fault search bytes a b some other (tables {why = why} refuses) (tables {why = also} refuses_too) =
    ap (λ w. fault.Tables w) (one_refused search bytes why also refuses refuses_too)
one_fault search bytes a b some other refused.memory is = absurd (some refl)
one_fault search bytes a b some other is refused.memory = absurd (other refl)

-- What `decode --list` made of the bytes.

made_of_shown : (search : Search) (bytes : List ℕ) (inventory : Inventory) (before after : Seen) (made : List ℕ) → DumpShows search bytes inventory
    → ListMakes search bytes before after (Ok made) → made ≡ list_of inventory
made_of_shown search bytes inventory before after made is (listed others shows written same) =
    written ∙ ap list_of (one_shown search bytes others inventory shows is)

fault_of_shown : (search : Search) (bytes : List ℕ) (inventory : Inventory) (before after : Seen) (f : Fault) → DumpShows search bytes inventory
    → ListMakes search bytes before after (Err f) → f ≡ fault.OutOfMemory
fault_of_shown search bytes inventory before after f is (not_listed cannot same) = shown_fault search bytes inventory f is (why_unlisted search bytes f cannot)

-- of a dump of a memory whose tables have no fault memory alone is wanting
sound_fault : (search : Search) (bytes : List ℕ) (m : Memory) (f : Fault) → IsDumpOf m bytes → ((why : ScanFault) → RefusesBy search (seen m) why → ⊥)
    → IsUnlisted search bytes f → f ≡ fault.OutOfMemory
sound_fault search bytes m f dumped sound (no_dump {why = why} read line) = absurd (dump_is_read m bytes why dumped read)
sound_fault search bytes m f dumped sound (tables {why = why} refuses) =
    let same = one_memory refuses.memory m bytes refuses.dumped dumped in
    absurd (sound why (subst (λ those. RefusesBy search (seen those) why) same refuses.refuses))
sound_fault search bytes m f dumped sound refused.memory = refl

fault_of_sound : (search : Search) (bytes : List ℕ) (m : Memory) (before after : Seen) (f : Fault) → IsDumpOf m bytes
    → ((why : ScanFault) → RefusesBy search (seen m) why → ⊥) → ListMakes search bytes before after (Err f) → f ≡ fault.OutOfMemory
fault_of_sound search bytes m before after f dumped sound (not_listed cannot same) =
    sound_fault search bytes m f dumped sound (why_unlisted search bytes f cannot)

-- Such a dump is listed.
pub list_done : (Gives : Answering) (sought : Sought) (bytes : List ℕ) (m : Memory) (call : Call Gives (Listing sought)) → IsDumpOf m bytes
    → ((why : ScanFault) → RefusesBy (search_for sought) (seen m) why → ⊥) → IsFed bytes call → IsDone call
list_done Gives sought bytes m call dumped sound fed =
    let ran = call.answered.ran in
    elim (ends_as (ListMakes (search_for sought)) call.before call.after bytes ran.input ran.made call.answered.ended call.source call.source_after
    call.out call.out_after
    fed.had fed.within fed.read fed.written ran.did ran.read ran.wrote) [
      | for_want ended ↦ inr (call.answered.status ∙ ap status_of ended)
      | with_text makes ended took ↦ inl (call.answered.status ∙ ap status_of ended)
      | with_fault {why = why} makes ended ↦ inr (call.answered.status ∙ ap status_of ended
          ∙ ap status_of_fault (fault_of_sound (search_for sought) bytes m call.before call.after why dumped sound makes))
    ]

-- The list of what the memory shows.
pub list_listed : (Gives : Answering) (sought : Sought) (bytes : List ℕ) (inventory : Inventory) (call : Call Gives (Listing sought))
    → DumpShows (search_for sought) bytes inventory → IsFed bytes call → IsListed inventory call
list_listed Gives sought bytes inventory call is fed =
    let ran = call.answered.ran in
    elim (ends_as (ListMakes (search_for sought)) call.before call.after bytes ran.input ran.made call.answered.ended call.source call.source_after
    call.out call.out_after
    fed.had fed.within fed.read fed.written ran.did ran.read ran.wrote) [
      | for_want ended ↦ inr (call.answered.status ∙ ap status_of ended)
      | with_text {made = made} makes ended took ↦ inl (
        call.answered.status ∙ ap status_of ended,
        subst (λ those. TookWhole those call.out call.out_after) (made_of_shown (search_for sought) bytes inventory call.before call.after made is makes) took,
      )
      | with_fault {why = why} makes ended ↦ inr (call.answered.status ∙ ap status_of ended
          ∙ ap status_of_fault (fault_of_shown (search_for sought) bytes inventory call.before call.after why is makes))
    ]

-- a fault of the bytes comes of no text
text_of_refused : (search : Search) (bytes made : List ℕ) (before after : Seen) (f : Fault) → f ≢ fault.OutOfMemory → CannotBeListed search bytes f
    → ListMakes search bytes before after (Ok made) → ⊥
text_of_refused search bytes made before after f other cannot (listed inventory shows written same) =
    other (shown_fault search bytes inventory f shows (why_unlisted search bytes f cannot))

-- Whether a fault is want of memory.
pub data IsWant (f : Fault) : Type 0 where
  is_memory : f ≡ fault.OutOfMemory → IsWant f
  is_other : (f ≡ fault.OutOfMemory → ⊥) → IsWant f

pub is_want : (search : Search) (bytes : List ℕ) (f : Fault) → IsUnlisted search bytes f → IsWant f
is_want search bytes f (no_dump read line) = is_other (λ is. cc)
is_want search bytes f (tables refuses) = is_other (λ is. cc)
is_want search bytes f refused.memory = is_memory refl

-- which fault `decode --list` made of bytes that have one
fault_of_refused : (search : Search) (bytes : List ℕ) (before after : Seen) (f made : Fault) → f ≢ fault.OutOfMemory → CannotBeListed search bytes f
    → ListMakes search bytes before after (Err made) → (made ≡ f) ⊎ (made ≡ fault.OutOfMemory)
fault_of_refused search bytes before after f made some cannot (not_listed cannot_too same) =
    let is = why_unlisted search bytes f cannot in
    let is_too = why_unlisted search bytes made cannot_too in
    elim (is_want search bytes made is_too) [
      | is_memory same ↦ inr same
      | is_other another ↦ inl (one_fault search bytes made f another some is_too is)
    ]

-- A call of which nothing outside failed tells this fault, if its command makes no other of the bytes, and no text.
pub refused_call : (Gives : Answering) (command : Command) (Makes : List ℕ → Seen → Seen → Made → Type 0) (bytes : List ℕ) (f : Fault)
    (call : Call Gives command) → ReadsAll Makes call.before call.after call.answered.ran.input call.answered.ran.made → IsFed bytes call
    → ((made : List ℕ) → Makes bytes call.before call.after (Ok made) → ⊥)
    → ((made : Fault) → Makes bytes call.before call.after (Err made) → (made ≡ f) ⊎ (made ≡ fault.OutOfMemory)) → IsRefused f call
refused_call Gives command Makes bytes f call did fed no_text one_fault =
    let ran = call.answered.ran in
    elim (ends_as Makes call.before call.after bytes ran.input ran.made call.answered.ended call.source call.source_after call.out call.out_after
    fed.had fed.within fed.read fed.written did ran.read ran.wrote) [
      | for_want ended ↦ inr (call.answered.status ∙ ap status_of ended)
      | with_text {made = made} makes ended took ↦ absurd (no_text made makes)
      | with_fault {why = why} makes ended ↦ elim (one_fault why makes) [
        | inl same ↦ inl (
          call.answered.status ∙ ap status_of ended ∙ ap status_of_fault same,
          subst (λ those. IfErr those (λ g. Said (line_of g) call.say call.say_after)) (ended ∙ ap (λ g. Err g) same) call.answered.said,
        )
        | inr want ↦ inr (call.answered.status ∙ ap status_of ended ∙ ap status_of_fault want)
      ]
    ]

-- The first fault of the bytes, and its line.
pub list_told : (Gives : Answering) (sought : Sought) (bytes : List ℕ) (f : Fault) (call : Call Gives (Listing sought)) → f ≢ fault.OutOfMemory
    → CannotBeListed (search_for sought) bytes f → IsFed bytes call → IsRefused f call
list_told Gives sought bytes f call some cannot fed =
    refused_call Gives (Listing sought) (ListMakes (search_for sought)) bytes f call call.answered.ran.did fed
    (λ made. text_of_refused (search_for sought) bytes made call.before call.after f some cannot)
    (λ made. fault_of_refused (search_for sought) bytes call.before call.after f made some cannot)

-- A boot that is done, and then its dump listed.

never_ok : (f : Fault) → status_of_fault f ≡ status.Ok → ⊥
never_ok fault.ReadFault is = cc
never_ok fault.Usage is = cc
never_ok (fault.Description why) is = cc
never_ok (fault.Container why) is = cc
never_ok (fault.Install why) is = cc
never_ok (fault.Load load.NoScript) is = cc
never_ok (fault.Load load.ScriptLength) is = cc
never_ok (fault.Load (load.Command index cause)) is = cc
never_ok (fault.Load (load.NoRoom index)) is = cc
never_ok (fault.Dump why line) is = cc
never_ok (fault.Tables why) is = cc
never_ok (fault.NotProfile item) is = cc
never_ok fault.WriteFault is = cc
never_ok fault.OutOfMemory is = cc
never_ok fault.InputTooLong is = cc
never_ok fault.ImageTooLarge is = cc

-- A text that a boot made of a description is the dump of a memory that shows the described machine.
pub record IsBootText (description text : List ℕ) : Type 0 where
  pub machine : Machine
  pub read : Reads description machine
  pub shows : DumpShows (search_of false false) text (inventory_of machine)

boot_text : (Gives : Answering) (setting : Setting) (description text : List ℕ) (before after : Seen)
    → BootMakes Gives setting description before after (Ok text)
    → IsBootText description text
boot_text Gives setting description text before after (booted is dumped) = record {
  machine = is.machine;
  read = is.read;
  shows = record { memory = memory_of is.booted.loaded.world; dumped = dumped; shown = is.booted.shown };
}

-- what a sink took of one text is that text
same_text : (front made text : List ℕ) (out out_after : SinkSeen) → out.taken ≡ Bytes front → out_after.taken ≡ behind (Bytes front) text
    → TookWhole made out out_after → made ≡ text
same_text front made text out out_after had has took =
    let taken : out_after.taken ≡ behind out.taken made = ap (λ (s : SinkSeen). s.taken) took.took in
    let both : Bytes (front ++ made) ≡ Bytes (front ++ text) = ap (λ t. behind t made) (sym had) ∙ sym taken ∙ has in
    append_cancel_left front made text (cc)

-- a boot that ended so, of which the answer is Ok
boot_done : (Gives : Answering) (setting : Setting) (description text : List ℕ) (boot : Call Gives (Boot setting)) (ended : Result (Unit {0}) Fault)
    → boot.answered.ended ≡ ended → HasBooted description text boot → IsBootText description text
boot_done Gives setting description text boot (Err f) is has =
    absurd (never_ok f (sym (ap status_of is) ∙ sym boot.answered.status ∙ has.done))
boot_done Gives setting description text boot (Ok done) is has =
    let ran = boot.answered.ran in
    let made = done_so (BootMakes Gives setting) boot.before boot.after description ran.input ran.made done boot.source boot.source_after boot.out
    boot.out_after
    has.had ran.did ran.read (subst (λ those. Wrote ran.made those boot.out boot.out_after) is ran.wrote) in
    let same = same_text has.front made.0 text boot.out boot.out_after has.began has.took made.2 in
    boot_text Gives setting description text boot.before boot.after
    (subst (λ those. BootMakes Gives setting description boot.before boot.after (Ok those)) same made.1)

pub boot_wrote : (Gives : Answering) (setting : Setting) (description text : List ℕ) (boot : Call Gives (Boot setting)) → HasBooted description text boot
    → IsBootText description text
boot_wrote Gives setting description text boot has = boot_done Gives setting description text boot boot.answered.ended refl has

pub boot_listed : (Gives Others : Answering) (setting : Setting) (description text : List ℕ) (boot : Call Gives (Boot setting))
    (list : Call Others (Listing (One false false))) → HasBooted description text boot → IsFed text list
    → (machine : Machine) × Reads description machine × IsListed (inventory_of machine) list
boot_listed Gives Others setting description text boot list has fed =
    let is = boot_wrote Gives setting description text boot has in
    (is.machine, is.read, list_listed Others (One false false) text (inventory_of is.machine) list is.shows fed)
