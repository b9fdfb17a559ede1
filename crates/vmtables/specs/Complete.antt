-- What each command answers where nothing outside failed: it is done of a lawful input, and tells the fault of another, unless memory runs out.
use Rattle.std.specs.Prelude.{Bool, false, ◌≡◌, ◌≢◌, ◌⊎◌, ℕ, ◌<◌, ◌≤◌, List, length, map, Some, Ok, Err}
use Rattle.vt_outside.specs.Placement.{Range}
use Rattle.vt_outside.specs.Stream.{SinkSeen, SourceSeen, Rose, Bytes, behind}
use Rattle.cfg_directory.specs.declared.item.Item.{Item}
use Rattle.cfg_directory.specs.Items.{total_size}
use Rattle.vt_bytes.specs.Memory.{Memory, seen}
use Rattle.anchor_scan.specs.declared.fault.ScanFault.{ScanFault}
use Rattle.anchor_scan.specs.Scan.{RefusesBy}
use Rattle.desc_toml.specs.Reading.{Reads}
use Rattle.cfg_directory.specs.Files.{files_of}
use Rattle.image_files.specs.Items.{image_limit}
use Rattle.loader_script.specs.declared.entry.Entry.{Entry}
use Rattle.loader_script.specs.Run.{Done, Command as StopsAt, run}
use Rattle.generated_machine.specs.Generated.{generated}
use Rattle.machine_desc.specs.declared.machine.Machine.{Machine}
use Rattle.machine_desc.specs.Fields.{HasFittingFields}
use Rattle.machine_desc.specs.Rules.{IsAccepted}
use Rattle.table_describe.specs.Failing.{IsFirstFailing}
use Rattle.command_acts.specs.declared.fault.LoadFault.{LoadFault}
use Rattle.command_acts.specs.declared.fault.LoadFault.TheVariants as load
use Rattle.command_acts.specs.Script.{script_in}
use Rattle.vm_image.specs.Image.{image_items}
use Rattle.vt_words.specs.declared.command.Command.{Command}
use Rattle.vt_words.specs.declared.command.Command.TheVariants.{Boot, Build, Decode, Gen, List as Listing, Load}
use Rattle.vt_words.specs.declared.command.Sought.{Sought}
use Rattle.vt_words.specs.declared.command.Sought.TheVariants.{One}
use Rattle.vt_words.specs.declared.setting.Setting.{Setting}
use Rattle.scan_text.specs.List.{list_of}
use Rattle.table_model.specs.declared.inventory.Inventory.{Inventory}
use Rattle.table_model.specs.Inventory.{inventory_of}
use Rattle.table_model.specs.Search.{search_of}
use Rattle.vmtables.specs.Build.{CannotBeBuilt}
use Rattle.vmtables.specs.Calls.{Answered, Answering, Said, Seen, TookWhole}
use Rattle.vmtables.specs.Decode.{CannotBeListed, CannotBeTold, DumpShows, IsDescriptionOf, search_for}
use Rattle.vmtables.specs.Load.{CannotBeRead, IsToLoad}
use Rattle.vmtables.specs.Dumped.{IsDumpOf}
use Rattle.vmtables.specs.Does.{Does}
use Rattle.vmtables.specs.Outcome.{input_limit, line_of, status_of_fault}
use Rattle.vmtables.specs.declared.fault.Fault.{Fault}
use Rattle.vmtables.specs.declared.fault.Fault.TheVariants as fault
use Rattle.vmtables.specs.declared.status.Status.{Status}
use Rattle.vmtables.specs.declared.status.Status.TheVariants as status

-- A call of a command, as the contract of the top call says it: what is seen before and after, and the status that it answered.
pub record Call (Gives : Answering) (command : Command) : Type 0 where
  pub before : Seen
  pub after : Seen
  pub source : SourceSeen
  pub source_after : SourceSeen
  pub out : SinkSeen
  pub out_after : SinkSeen
  pub say : SinkSeen
  pub say_after : SinkSeen
  pub answer : Status
  pub answered : Answered (Does Gives (Some command) before after) answer source source_after out out_after say say_after

-- The source had these bytes, no more than an input may have; and no fault was counted on it or on out.
pub record IsFed {Gives : Answering} {command : Command} (bytes : List ℕ) (call : Call Gives command) : Type 0 where
  pub had : call.source.left ≡ Some bytes
  pub within : length bytes ≤ input_limit
  pub read : ¬ Rose call.source.faults call.source_after.faults
  pub written : ¬ Rose call.out.faults call.out_after.faults

-- no refusal was counted at the allocator
abbrev pub HasRoom : {Gives : Answering} {command : Command} → Call Gives command → Type 0
HasRoom call = ¬ Rose call.before.place.refusals call.after.place.refusals

-- the call is done, or memory ran out
abbrev pub IsDone : {Gives : Answering} {command : Command} → Call Gives command → Type 0
IsDone call = (call.answer ≡ status.Ok) ⊎ (call.answer ≡ status.OutOfMemory)

-- a description of a machine whose files have no more bytes than an image may have
abbrev pub DescribesFew : List ℕ → Type 0
DescribesFew bytes = (machine : Machine) × Reads bytes machine × (total_size (image_items machine) ≤ image_limit)

-- the run of the items' script with these places is done
abbrev pub RunsWhole : List Item → List ℕ → Type 0
RunsWhole items places = (script : List Entry) × (script_in items ≡ Ok script) × ((run (files_of items) script places).0 ≡ Done)

-- The load of the items ends early with these places, for this fault: they have no script, or its run on plain lists ends at a command that is
-- refused.
abbrev pub EndsEarly : List Item → List ℕ → LoadFault → Type 0
EndsEarly items places (load.Command index cause) =
    (script : List Entry) × (script_in items ≡ Ok script) × ((run (files_of items) script places).0 ≡ StopsAt index cause)
EndsEarly items places (load.NoRoom index) = ⊥
EndsEarly items places why = script_in items ≡ Err why

-- the places that were handed out, in their order
abbrev pub places_in : Seen → List ℕ
places_in after = map (λ (r : Range). r.start) after.place.handed

-- the call is done, and out took the list of the inventory; or memory ran out
abbrev pub IsListed : {Gives : Answering} {command : Command} → Inventory → Call Gives command → Type 0
IsListed inventory call = ((call.answer ≡ status.Ok) × TookWhole (list_of inventory) call.out call.out_after) ⊎ (call.answer ≡ status.OutOfMemory)

-- the call is done, and out took a description of the machine; or memory ran out
abbrev pub IsTold : {Gives : Answering} {command : Command} → Machine → Call Gives command → Type 0
IsTold machine call =
    ((call.answer ≡ status.Ok) × ((text : List ℕ) × IsDescriptionOf machine text × TookWhole text call.out call.out_after))
    ⊎ (call.answer ≡ status.OutOfMemory)

-- the call answered the status of the fault, and said its line; or memory ran out
abbrev pub IsRefused : {Gives : Answering} {command : Command} → Fault → Call Gives command → Type 0
IsRefused why call =
    ((call.answer ≡ status_of_fault why) × Said (line_of why) call.say call.say_after) ⊎ (call.answer ≡ status.OutOfMemory)

-- ---- what a command does of its input, a row a command

-- what its input must be; a load is done by the places that were handed out
abbrev pub IsLawfulInput : Command → Seen → List ℕ → Type 0
IsLawfulInput (Boot setting) after bytes = DescribesFew bytes
IsLawfulInput Build after bytes = DescribesFew bytes
IsLawfulInput (Load options) after bytes =
    (items : List Item) × IsToLoad options.install bytes items × RunsWhole items (places_in after)
IsLawfulInput (Decode legacy) after bytes =
    (inventory : Inventory) × DumpShows (search_of legacy false) bytes inventory × ((item : ℕ) → IsFirstFailing inventory item → ⊥)
IsLawfulInput (Listing sought) after bytes =
    (memory : Memory) × IsDumpOf memory bytes × ((why : ScanFault) → RefusesBy (search_for sought) (seen memory) why → ⊥)
IsLawfulInput (Gen processors) after bytes = total_size (image_items (generated processors)) ≤ image_limit

-- which faults of its input are its own; a load ends early by the places that were handed out
abbrev pub RefusesInput : Command → Seen → List ℕ → Fault → Type 0
RefusesInput (Boot setting) after bytes why = CannotBeBuilt bytes why
RefusesInput Build after bytes why = CannotBeBuilt bytes why
RefusesInput (Load options) after bytes (fault.Load why) =
    (items : List Item) × IsToLoad options.install bytes items × EndsEarly items (places_in after) why
RefusesInput (Load options) after bytes why = CannotBeRead options.install bytes why
RefusesInput (Decode legacy) after bytes why = CannotBeTold (search_of legacy false) bytes why
RefusesInput (Listing sought) after bytes why = CannotBeListed (search_for sought) bytes why
RefusesInput (Gen processors) after bytes fault.ImageTooLarge = image_limit < total_size (image_items (generated processors))
RefusesInput (Gen processors) after bytes why = ⊥

-- that no read, no write and no flush failed
abbrev pub Streamed : {Gives : Answering} (command : Command) → List ℕ → Call Gives command → Type 0
Streamed (Gen processors) bytes call = ¬ Rose call.out.faults call.out_after.faults
Streamed command bytes call = IsFed bytes call

-- and, where it asks for places, that none was refused
abbrev pub Placed : {Gives : Answering} (command : Command) → Call Gives command → Type 0
Placed (Boot setting) call = HasRoom call
Placed (Load options) call = HasRoom call
Placed (Gen processors) call = HasRoom call
Placed command call = Unit {0}

-- Each command is done of a lawful input.
abbrev pub AreDone : Answering → Type 0
AreDone Gives = (command : Command) (bytes : List ℕ) (call : Call Gives command) → Streamed command bytes call → Placed command call
    → IsLawfulInput command call.after bytes → IsDone call

-- Each command tells each fault of its input, unless memory runs out.
abbrev pub TellFaults : Answering → Type 0
TellFaults Gives = (command : Command) (bytes : List ℕ) (why : Fault) (call : Call Gives command) → Streamed command bytes call
    → why ≢ fault.OutOfMemory → RefusesInput command call.after bytes why → IsRefused why call

-- ---- which text a command writes

-- what a memory shows is listed
abbrev pub IsShownListed : Answering → Type 0
IsShownListed Gives = (sought : Sought) (bytes : List ℕ) (inventory : Inventory) (call : Call Gives (Listing sought))
    → DumpShows (search_for sought) bytes inventory → IsFed bytes call → IsListed inventory call

-- the machine is told whose inventory such a memory shows
abbrev pub IsShownTold : Answering → Type 0
IsShownTold Gives = (legacy : Bool) (bytes : List ℕ) (machine : Machine) (call : Call Gives (Decode legacy)) → IsAccepted machine → HasFittingFields machine
    → DumpShows (search_of legacy false) bytes (inventory_of machine) → IsFed bytes call → IsTold machine call

-- A call of `boot` that is done wrote this text of a description: the description is all that its source had, and the text is what its out took.
pub record HasBooted {Gives : Answering} {setting : Setting} (description text : List ℕ) (boot : Call Gives (Boot setting)) : Type 0 where
  pub done : boot.answer ≡ status.Ok
  pub had : boot.source.left ≡ Some description
  pub front : List ℕ
  pub began : boot.out.taken ≡ Bytes front
  pub took : boot.out_after.taken ≡ behind (Bytes front) text

-- What `boot` wrote of a description is listed as what the machine shows that is described.
abbrev pub IsBootListed : Answering → Answering → Type 0
IsBootListed Gives Others = (setting : Setting) (description text : List ℕ) (boot : Call Gives (Boot setting)) (list : Call Others (Listing (One false false)))
    → HasBooted description text boot → IsFed text list → (machine : Machine) × Reads description machine × IsListed (inventory_of machine) list

-- What `boot` wrote of a description is decoded: a description of the machine that is described.
abbrev pub IsBootTold : Answering → Answering → Type 0
IsBootTold Gives Others = (setting : Setting) (description text : List ℕ) (boot : Call Gives (Boot setting)) (decode : Call Others (Decode false))
    → HasBooted description text boot → IsFed text decode → (machine : Machine) × Reads description machine × IsTold machine decode

-- What `boot` wrote of a description is never refused by `decode`, neither as no dump nor for its tables, whatever the streams do.
abbrev pub IsBootNeverRefused : Answering → Answering → Type 0
IsBootNeverRefused Gives Others = (setting : Setting) (description text : List ℕ) (boot : Call Gives (Boot setting)) (decode : Call Others (Decode false))
    → HasBooted description text boot → decode.source.left ≡ Some text
    → (decode.answer ≢ status.DumpRefused) × (decode.answer ≢ status.TablesRefused)
