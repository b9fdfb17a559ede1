-- The keys of a machine's description, table by table, in the order in which they are walked.
use Rattle.std.specs.Prelude.{codes, ℕ, Bool, true, false, List, [], ◌∷◌, Option, Some, None}
use Rattle.desc_schema.specs.declared.value.Value.{Value}
use Rattle.desc_schema.specs.Form.{Field, Shape, One, Table, Tables, Values, Text, Number, Flag, Uuid, Word}

abbrev pub key : ℕ → List ℕ → Shape → Option Value → Field
key number name shape default = record { number = number; name = name; shape = shape; default = default }

-- a text, and the text that stands where it is left out
abbrev pub text : ℕ → List ℕ → List ℕ → Field
text number name default = key number name (One Text) (Some (Value.Text default))

-- a text that is empty where it is left out
abbrev pub text_or_none : ℕ → List ℕ → Field
text_or_none number name = text number name []

-- a number up to the most, and the number that stands where it is left out
abbrev pub number : ℕ → List ℕ → ℕ → ℕ → Field
number n name most default = key n name (One (Number 0 most)) (Some (Value.Number default))

-- a number up to the most that must be there
abbrev pub number_given : ℕ → List ℕ → ℕ → Field
number_given n name most = key n name (One (Number 0 most)) None

-- a boolean, and the one that stands where it is left out
abbrev pub flag : ℕ → List ℕ → Bool → Field
flag n name default = key n name (One Flag) (Some (Value.Flag default))

-- a table that may be left out
abbrev pub part : ℕ → List ℕ → ℕ → Field
part number name table = key number name (Table table) (Some (Value.Count 0))

-- an array of tables, which is empty where it is left out
abbrev pub parts : ℕ → List ℕ → ℕ → Field
parts number name table = key number name (Tables table) (Some (Value.Count 0))

-- A line for each key, which begins with its number.

-- table 0: the description's version, which is 1; the top of memory, in MiB; the texts of the maker; the id of the generation; and the tables
abbrev pub root_keys : List Field
root_keys =
    key 0 (codes "version") (One (Number 1 1)) None ∷
    number_given 1 (codes "top_mib") 0xFFFFFFFF ∷
    key 2 (codes "oem_strings") (Values Text) (Some (Value.Count 0)) ∷
    key 3 (codes "generation") (One Uuid) (Some Value.Nothing) ∷
    key 4 (codes "system") (Table 1) None ∷
    part 5 (codes "firmware") 2 ∷
    part 6 (codes "chassis") 3 ∷
    parts 7 (codes "socket") 4 ∷
    parts 8 (codes "dimm") 5 ∷
    parts 9 (codes "range") 6 ∷
    parts 10 (codes "slot") 7 ∷
    part 11 (codes "acpi") 8 ∷
    part 12 (codes "power") 9 ∷
    part 13 (codes "hpet") 10 ∷
    part 14 (codes "apic") 11 ∷
    parts 15 (codes "cpu") 12 ∷
    parts 16 (codes "ioapic") 13 ∷
    parts 17 (codes "override") 14 ∷
    parts 18 (codes "nmi") 15 ∷
    part 19 (codes "numa") 16 ∷
    part 20 (codes "bridge") 17 ∷
    parts 21 (codes "uart") 20 ∷ []

-- table 1
abbrev pub system_keys : List Field
system_keys =
    text_or_none 0 (codes "manufacturer") ∷
    text_or_none 1 (codes "product") ∷
    text_or_none 2 (codes "version") ∷
    text_or_none 3 (codes "serial") ∷
    text_or_none 4 (codes "sku") ∷
    text_or_none 5 (codes "family") ∷
    key 6 (codes "uuid") (One Uuid) (Some Value.Nothing) ∷ []

-- table 2: numbers of 8 bits
abbrev pub firmware_keys : List Field
firmware_keys =
    text_or_none 0 (codes "vendor") ∷
    text_or_none 1 (codes "version") ∷
    text_or_none 2 (codes "date") ∷
    number 3 (codes "major") 0xFF 0 ∷
    number 4 (codes "minor") 0xFF 0 ∷ []

-- table 3: a type of 8 bits, which is "other" where it is left out
abbrev pub chassis_keys : List Field
chassis_keys =
    text_or_none 0 (codes "manufacturer") ∷
    text_or_none 1 (codes "version") ∷
    text_or_none 2 (codes "serial") ∷
    text_or_none 3 (codes "asset") ∷
    text_or_none 4 (codes "sku") ∷
    number 5 (codes "kind") 0xFF 1 ∷ []

-- table 4: numbers of 16 bits
abbrev pub socket_keys : List Field
socket_keys =
    text_or_none 0 (codes "designation") ∷
    text_or_none 1 (codes "manufacturer") ∷
    text_or_none 2 (codes "version") ∷
    text_or_none 3 (codes "serial") ∷
    text_or_none 4 (codes "asset") ∷
    text_or_none 5 (codes "part") ∷
    number_given 6 (codes "cores") 0xFFFF ∷
    number_given 7 (codes "threads") 0xFFFF ∷
    number 8 (codes "mhz") 0xFFFF 0 ∷ []

-- table 5: numbers of 32 and 16 bits
abbrev pub dimm_keys : List Field
dimm_keys =
    text_or_none 0 (codes "locator") ∷
    text_or_none 1 (codes "bank") ∷
    text_or_none 2 (codes "manufacturer") ∷
    text_or_none 3 (codes "serial") ∷
    text_or_none 4 (codes "asset") ∷
    text_or_none 5 (codes "part") ∷
    number_given 6 (codes "size_mib") 0xFFFFFFFF ∷
    number 7 (codes "speed") 0xFFFF 0 ∷ []

-- table 6: numbers of 32, 32 and 8 bits
abbrev pub range_keys : List Field
range_keys =
    number_given 0 (codes "base_mib") 0xFFFFFFFF ∷
    number_given 1 (codes "size_mib") 0xFFFFFFFF ∷
    number 2 (codes "node") 0xFF 0 ∷ []

-- table 7: numbers of 8 bits, and an id of 16; a type and a width are "other" where they are left out
abbrev pub slot_keys : List Field
slot_keys =
    text_or_none 0 (codes "designation") ∷
    number 1 (codes "kind") 0xFF 1 ∷
    number 2 (codes "width") 0xFF 1 ∷
    flag 3 (codes "used") false ∷
    number 4 (codes "id") 0xFFFF 0 ∷
    number 5 (codes "bus") 0xFF 0 ∷
    number 6 (codes "device") 0xFF 0 ∷
    number 7 (codes "function") 0xFF 0 ∷ []

-- table 8, whose defaults are those of QEMU's tables
abbrev pub acpi_keys : List Field
acpi_keys =
    text 0 (codes "oem_id") (codes "BOCHS") ∷
    text 1 (codes "oem_table_id") (codes "BXPC") ∷ []

-- table 9: numbers of 16 and 8 bits
abbrev pub power_keys : List Field
power_keys =
    number 0 (codes "sci") 0xFFFF 9 ∷
    number 1 (codes "profile") 0xFF 0 ∷
    number_given 2 (codes "event") 0xFFFF ∷
    number_given 3 (codes "control") 0xFFFF ∷
    number_given 4 (codes "timer") 0xFFFF ∷
    number 5 (codes "gpe") 0xFFFF 0 ∷
    number 6 (codes "gpe_len") 0xFF 0 ∷
    number 7 (codes "reset") 0xFFFF 0 ∷
    number 8 (codes "reset_value") 0xFF 0 ∷
    number 9 (codes "century") 0xFF 0 ∷
    flag 10 (codes "rtc") true ∷
    flag 11 (codes "keyboard") true ∷ []

-- table 10: numbers of 32, 32, 8 and 16 bits
abbrev pub hpet_keys : List Field
hpet_keys =
    number 0 (codes "address") 0xFFFFFFFF 0xFED00000 ∷
    number 1 (codes "block_id") 0xFFFFFFFF 0x8086A201 ∷
    number 2 (codes "number") 0xFF 0 ∷
    number 3 (codes "min_tick") 0xFFFF 100 ∷ []

-- table 11: an address of 32 bits
abbrev pub apic_keys : List Field
apic_keys =
    number 0 (codes "local") 0xFFFFFFFF 0xFEE00000 ∷
    flag 1 (codes "legacy") true ∷ []

-- table 12: numbers of 32 and 8 bits
abbrev pub cpu_keys : List Field
cpu_keys =
    number_given 0 (codes "apic") 0xFFFFFFFF ∷
    number 1 (codes "node") 0xFF 0 ∷
    flag 2 (codes "enabled") true ∷ []

-- table 13: numbers of 8, 32 and 32 bits
abbrev pub io_apic_keys : List Field
io_apic_keys =
    number_given 0 (codes "id") 0xFF ∷
    number_given 1 (codes "address") 0xFFFFFFFF ∷
    number 2 (codes "gsi") 0xFFFFFFFF 0 ∷ []

-- table 14: numbers of 8, 32 and 16 bits
abbrev pub override_keys : List Field
override_keys =
    number_given 0 (codes "irq") 0xFF ∷
    number_given 1 (codes "gsi") 0xFFFFFFFF ∷
    number 2 (codes "flags") 0xFFFF 0 ∷ []

-- table 15: a number of 32 bits that may be left out, and numbers of 16 and 8
abbrev pub nmi_keys : List Field
nmi_keys =
    key 0 (codes "cpu") (One (Number 0 0xFFFFFFFF)) (Some Value.Nothing) ∷
    number 1 (codes "flags") 0xFFFF 0 ∷
    number 2 (codes "lint") 0xFF 1 ∷ []

-- table 16: a number of 8 bits, and numbers of 8 bits
abbrev pub numa_keys : List Field
numa_keys =
    number_given 0 (codes "nodes") 0xFF ∷
    key 1 (codes "distance") (Values (Number 0 0xFF)) None ∷ []

-- table 17: numbers of 64 and 8 bits, and the tables of its windows and its routes
abbrev pub bridge_keys : List Field
bridge_keys =
    number 0 (codes "ecam") 0x7FFFFFFFFFFFFFFF 0 ∷
    number 1 (codes "last_bus") 0xFF 255 ∷
    parts 2 (codes "window") 18 ∷
    parts 3 (codes "route") 19 ∷ []

-- table 18: what the addresses are of, and numbers of 64 bits
abbrev pub window_keys : List Field
window_keys =
    key 0 (codes "kind") (One (Word (codes "io" ∷ codes "mem32" ∷ codes "mem64" ∷ []))) None ∷
    number_given 1 (codes "base") 0x7FFFFFFFFFFFFFFF ∷
    number_given 2 (codes "size") 0x7FFFFFFFFFFFFFFF ∷
    flag 3 (codes "prefetch") false ∷ []

-- table 19: numbers of 8, 8 and 32 bits
abbrev pub route_keys : List Field
route_keys =
    number_given 0 (codes "device") 0xFF ∷
    number_given 1 (codes "pin") 0xFF ∷
    number_given 2 (codes "gsi") 0xFFFFFFFF ∷ []

-- table 20: numbers of 16 and 8 bits
abbrev pub uart_keys : List Field
uart_keys =
    number_given 0 (codes "port") 0xFFFF ∷
    number_given 1 (codes "irq") 0xFF ∷ []

-- the tables by their numbers
abbrev pub schema : List (List Field)
schema =
    root_keys ∷ system_keys ∷ firmware_keys ∷ chassis_keys ∷ socket_keys ∷ dimm_keys ∷ range_keys ∷ slot_keys ∷ acpi_keys ∷ power_keys ∷ hpet_keys
    ∷ apic_keys ∷ cpu_keys ∷ io_apic_keys ∷ override_keys ∷ nmi_keys ∷ numa_keys ∷ bridge_keys ∷ window_keys ∷ route_keys ∷ uart_keys ∷ []
