-- A device as a name and named values (ACPI 6.5, chapter 6, and 19.6 for the names).
use Rattle.std.specs.Prelude.{ℕ, false, List, [], ◌∷◌, codes}
use Rattle.aml_terms.specs.declared.term.Path.{Path}
use Rattle.aml_terms.specs.declared.term.Term.{Term}
use Rattle.aml_terms.specs.declared.term.Term.TheVariants.{Int, Buffer, Named, Device}
use Rattle.resource_items.specs.declared.resource_item.ResourceItem.{ResourceItem}
use Rattle.resource_items.specs.Templates.{template_of}

-- the path to what stands beside it, of one segment
abbrev pub path_to : List ℕ → Path
path_to segment = record { root = false; parents = 0; segments = segment ∷ [] }

-- a value with a name
abbrev pub name : List ℕ → Term → Term
name segment value = Named (path_to segment) value

-- a device with this name and these named values
abbrev pub device : List ℕ → List Term → Term
device segment values = Device (path_to segment) values

-- what a device is, by an id in EISA form (6.1.5), and what else it is compatible with (6.1.2)
abbrev pub hardware_id : ℕ → Term
hardware_id id = name (codes "_HID") (Int id)

abbrev pub compatible_id : ℕ → Term
compatible_id id = name (codes "_CID") (Int id)

-- its number among the devices with its id (6.1.12)
abbrev pub unique_id : ℕ → Term
unique_id number = name (codes "_UID") (Int number)

-- what it takes and hands on (6.2.2)
abbrev pub resources : List ResourceItem → Term
resources items = name (codes "_CRS") (Buffer (template_of items))

-- Ids in EISA form: three letters of 5 bits, then four hexadecimal digits, with its high byte first.
abbrev pub pci_bridge : ℕ
pci_bridge = 0x030AD041

abbrev pub pci_express_bridge : ℕ
pci_express_bridge = 0x080AD041

abbrev pub serial_port : ℕ
serial_port = 0x0105D041

abbrev pub real_time_clock : ℕ
real_time_clock = 0x000BD041

abbrev pub keyboard_controller : ℕ
keyboard_controller = 0x0303D041

abbrev pub event_timer : ℕ
event_timer = 0x0301D041
