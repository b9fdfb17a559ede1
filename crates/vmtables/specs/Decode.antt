-- What `decode` does, by a search for the anchors that it reads from, and what it does with `--list`.
use Rattle.std.specs.Prelude.{◌≡◌, ℕ, List, Some, Ok, Err}
use Rattle.vt_bytes.specs.Memory.{Memory, seen}
use Rattle.machine_desc.specs.declared.machine.Machine.{Machine}
use Rattle.machine_desc.specs.Rules.{IsAccepted}
use Rattle.machine_desc.specs.Fields.{HasFittingFields}
use Rattle.toml.specs.Parse.{parse_document}
use Rattle.desc_toml.specs.Printed.{document_of}
use Rattle.desc_toml.specs.Reading.{Reads}
use Rattle.table_model.specs.declared.inventory.Inventory.{Inventory}
use Rattle.table_model.specs.declared.search.Search.{Search}
use Rattle.table_model.specs.Search.{any_search, search_of}
use Rattle.table_model.specs.Inventory.{ShowsBy, inventory_of}
use Rattle.memory_dump.specs.Reading.{read_so}
use Rattle.anchor_scan.specs.declared.fault.ScanFault.{ScanFault}
use Rattle.anchor_scan.specs.Scan.{RefusesBy}
use Rattle.table_describe.specs.Failing.{IsFirstFailing}
use Rattle.scan_text.specs.List.{list_of}
use Rattle.vt_words.specs.declared.command.Sought.{Sought}
use Rattle.vt_words.specs.declared.command.Sought.TheVariants.{One, Any}
use Rattle.vmtables.specs.Calls.{Made, Seen}
use Rattle.vmtables.specs.Dumped.{IsDumpOf}
use Rattle.vmtables.specs.Outcome.{faulty_line}
use Rattle.vmtables.specs.declared.fault.Fault.{Fault}
use Rattle.vmtables.specs.declared.fault.Fault.TheVariants as fault

-- the search of a list by what its options say
abbrev pub search_for : Sought → Search
search_for (One legacy smbios2) = search_of legacy smbios2
search_for Any = any_search

-- The bytes are the dump of a memory that shows the inventory, by a search.
pub record DumpShows (search : Search) (bytes : List ℕ) (inventory : Inventory) : Type 0 where
  pub memory : Memory
  pub dumped : IsDumpOf memory bytes
  pub shown : ShowsBy search memory.top (seen memory) inventory

-- The bytes are the dump of a memory whose tables have this first fault, by a search.
pub record DumpRefuses (search : Search) (bytes : List ℕ) (refused : ScanFault) : Type 0 where
  pub memory : Memory
  pub dumped : IsDumpOf memory bytes
  pub refuses : RefusesBy search (seen memory) refused

-- why nothing is listed of the bytes: they are no dump, and this is their first fault, with the number of the line at fault; or they
-- are that of a memory whose tables have this first fault; or memory ran out
abbrev pub CannotBeListed : Search → List ℕ → Fault → Type 0
CannotBeListed search bytes (fault.Dump refused line) = (read_so bytes ≡ Err refused) × (line ≡ faulty_line bytes refused)
CannotBeListed search bytes (fault.Tables refused) = DumpRefuses search bytes refused
CannotBeListed search bytes fault.OutOfMemory = Unit {0}
CannotBeListed search bytes _ = ⊥

-- What `decode --list` makes of the bytes of its input: the list of the inventory that the memory shows of which they are the dump. The
-- world, the allocator and the plan stay as they were.
pub data ListMakes (search : Search) (bytes : List ℕ) (before after : Seen) : Made → Type 0 where
  listed : (inventory : Inventory) → DumpShows search bytes inventory → {text : List ℕ} → text ≡ list_of inventory → after ≡ before
      → ListMakes search bytes before after (Ok text)
  not_listed : {why : Fault} → CannotBeListed search bytes why → after ≡ before → ListMakes search bytes before after (Err why)

-- The text is a description of the machine: the text of its document, which is read as this machine.
pub record IsDescriptionOf (machine : Machine) (text : List ℕ) : Type 0 where
  pub document : parse_document text ≡ Some (document_of machine)
  pub read : Reads text machine

-- The bytes are the dump of a memory that shows an inventory which is no machine's, and this item of it is the first that fails.
pub record DumpFails (search : Search) (bytes : List ℕ) (item : ℕ) : Type 0 where
  pub inventory : Inventory
  pub shows : DumpShows search bytes inventory
  pub fails : IsFirstFailing inventory item

-- why no machine is told of the bytes: nothing is listed of them, or the inventory that is listed is no machine's
abbrev pub CannotBeTold : Search → List ℕ → Fault → Type 0
CannotBeTold search bytes (fault.NotProfile item) = DumpFails search bytes item
CannotBeTold search bytes why = CannotBeListed search bytes why

-- What `decode` makes of the bytes of its input: a description of the accepted machine whose inventory the memory shows of which they are the
-- dump. The world, the allocator and the plan stay as they were.
pub data DecodeMakes (search : Search) (bytes : List ℕ) (before after : Seen) : Made → Type 0 where
  told : (machine : Machine) → IsAccepted machine → HasFittingFields machine → DumpShows search bytes (inventory_of machine) → {text : List ℕ}
      → IsDescriptionOf machine text
      → after ≡ before → DecodeMakes search bytes before after (Ok text)
  not_told : {why : Fault} → CannotBeTold search bytes why → after ≡ before → DecodeMakes search bytes before after (Err why)
