-- The line that tells a fault to a person.
use Rattle.std.specs.Prelude.{codes, ℕ, List, [], ◌∷◌, ◌++◌, map, take, decimal, nat_le, ◌&&◌, ◌==◌, if◌then◌else◌}
use Rattle.desc_schema.specs.Names.{key_name}
use Rattle.desc_toml.specs.declared.fault.DescFault.{DescFault}
use Rattle.desc_toml.specs.declared.fault.DescFault.TheVariants.{NotToml, UnknownKey, MissingKey, WrongKind, OutOfRange, Broken, OutOfMemory}
use Rattle.desc_toml.specs.Keys.{schema}

-- the name of a table; a number that is no table's has none
abbrev pub table_name : ℕ → List ℕ
table_name table =
    if table == 0 then codes "root" else if table == 1 then codes "system" else if table == 2 then codes "firmware"
    else if table == 3 then codes "chassis" else if table == 4 then codes "socket" else if table == 5 then codes "dimm"
    else if table == 6 then codes "range" else if table == 7 then codes "slot" else if table == 8 then codes "acpi"
    else if table == 9 then codes "power" else if table == 10 then codes "hpet" else if table == 11 then codes "apic"
    else if table == 12 then codes "cpu" else if table == 13 then codes "ioapic" else if table == 14 then codes "override"
    else if table == 15 then codes "nmi" else if table == 16 then codes "numa" else if table == 17 then codes "bridge"
    else if table == 18 then codes "window" else if table == 19 then codes "route" else if table == 20 then codes "uart" else []

-- a byte of a key, or a question mark for one that doesn't show
abbrev pub shown_byte : ℕ → ℕ
shown_byte byte = if nat_le 0x21 byte && nat_le byte 0x7E then byte else 0x3F

-- the first 64 bytes of a key
abbrev pub shown : List ℕ → List ℕ
shown key = map shown_byte (take 64 key)

-- a cause, a table, a position and a key; a known key's name is short and shows, so that `shown` changes none of these
abbrev pub key_line : List ℕ → ℕ → ℕ → List ℕ → List ℕ
key_line cause table index key = cause ++ table_name table ++ 0x20 ∷ decimal index ++ 0x20 ∷ shown key ++ 10 ∷ []

abbrev pub line_of : DescFault → List ℕ
line_of NotToml = codes "description: not TOML" ++ 10 ∷ []
line_of (UnknownKey table index key) = key_line (codes "description: unknown key ") table index key
line_of (MissingKey table index key) = key_line (codes "description: missing key ") table index (key_name schema table key)
line_of (WrongKind table index key) = key_line (codes "description: wrong kind ") table index (key_name schema table key)
line_of (OutOfRange table index key) = key_line (codes "description: out of range ") table index (key_name schema table key)
line_of (Broken rule index) = codes "description: rule " ++ decimal rule ++ codes " index " ++ decimal index ++ 10 ∷ []
line_of OutOfMemory = codes "out of memory" ++ 10 ∷ []
