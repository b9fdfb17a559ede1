-- An entry of a loader script as 128 bytes: numbers are little-endian, names stand in fields of 56 bytes (QEMU,
-- hw/acpi/bios-linker-loader.c). Reserved bytes are zero when written, and may be anything when read.
use Rattle.std.specs.Prelude.{◌≡◌, ℕ, zero, suc, ◌%◌, ◌≤◌, ◌⊎◌, Bool, ◌&&◌, List, [], ◌∷◌, take, drop, Result, Ok, Err, nat_le, ◌==◌, if◌then◌else◌}
use Rattle.std.specs.List.{AllByRecursion}
use Rattle.vt_outside.specs.declared.name.NameFault.{NameFault}
use Rattle.vt_layout.specs.declared.row.Row.{Row}
use Rattle.vt_layout.specs.declared.row.Row.TheVariants.{Number, Named, Reserved}
use Rattle.vt_layout.specs.Rows.{IsRow, spelled}
use Rattle.vt_layout.specs.Reading.{read_number, read_name}
use Rattle.loader_script.specs.declared.entry.Entry.{Entry}
use Rattle.loader_script.specs.declared.entry.Entry.TheVariants.{Allocate, AddPointer, AddChecksum, WritePointer, Misnamed, Skipped}

-- The rows of each command, the first of which is its number: ALLOCATE, ADD_POINTER, ADD_CHECKSUM and WRITE_POINTER.
abbrev pub allocate_rows : List ℕ → ℕ → ℕ → List Row
allocate_rows file align zone = Number 4 1 ∷ Named file ∷ Number 4 align ∷ Number 1 zone ∷ Reserved 63 ∷ []

abbrev pub add_pointer_rows : List ℕ → List ℕ → ℕ → ℕ → List Row
add_pointer_rows dest src offset size = Number 4 2 ∷ Named dest ∷ Named src ∷ Number 4 offset ∷ Number 1 size ∷ Reserved 7 ∷ []

abbrev pub add_checksum_rows : List ℕ → ℕ → ℕ → ℕ → List Row
add_checksum_rows file offset start count =
    Number 4 3 ∷ Named file ∷ Number 4 offset ∷ Number 4 start ∷ Number 4 count ∷ Reserved 56 ∷ []

abbrev pub write_pointer_rows : List ℕ → List ℕ → ℕ → ℕ → ℕ → List Row
write_pointer_rows dest src dst_offset src_offset size =
    Number 4 4 ∷ Named dest ∷ Named src ∷ Number 4 dst_offset ∷ Number 4 src_offset ∷ Number 1 size ∷ Reserved 3 ∷ []

-- of a command that has nothing but its number
abbrev pub command_rows : ℕ → List Row
command_rows command = Number 4 command ∷ Reserved 124 ∷ []

abbrev pub rows_of : Entry → List Row
rows_of (Allocate file align zone) = allocate_rows file align zone
rows_of (AddPointer dest src offset size) = add_pointer_rows dest src offset size
rows_of (AddChecksum file offset start count) = add_checksum_rows file offset start count
rows_of (WritePointer dest src dst_offset src_offset size) = write_pointer_rows dest src dst_offset src_offset size
rows_of (Misnamed command) = command_rows command
rows_of (Skipped command) = command_rows command

-- The one spelling of an entry.
abbrev pub entry_bytes : Entry → List ℕ
entry_bytes entry = spelled (rows_of entry)

-- an entry whose names are names and whose numbers fit their fields, as those of each entry of the program
abbrev pub Fits : Entry → Type 0
Fits entry = AllByRecursion IsRow (rows_of entry)

-- the entry of a command with a name that was read, or a misnamed one where the field holds no file name
abbrev pub with_name : ℕ → Result (List ℕ) NameFault → (List ℕ → Entry) → Entry
with_name command (Ok name) entry = entry name
with_name command (Err fault) entry = Misnamed command

-- The entries of the commands 1 to 4, read at the rows of each.
abbrev pub allocate_of : List ℕ → Entry
allocate_of bytes =
    let rows = allocate_rows [] 0 0 in
    with_name 1 (read_name 1 rows bytes) (λ file. Allocate file (read_number 2 rows bytes) (read_number 3 rows bytes))

abbrev pub add_pointer_of : List ℕ → Entry
add_pointer_of bytes =
    let rows = add_pointer_rows [] [] 0 0 in
    with_name 2 (read_name 1 rows bytes) (λ dest. with_name 2 (read_name 2 rows bytes)
    (λ src. AddPointer dest src (read_number 3 rows bytes) (read_number 4 rows bytes)))

abbrev pub add_checksum_of : List ℕ → Entry
add_checksum_of bytes =
    let rows = add_checksum_rows [] 0 0 0 in
    with_name 3 (read_name 1 rows bytes)
    (λ file. AddChecksum file (read_number 2 rows bytes) (read_number 3 rows bytes) (read_number 4 rows bytes))

abbrev pub write_pointer_of : List ℕ → Entry
write_pointer_of bytes =
    let rows = write_pointer_rows [] [] 0 0 0 in
    with_name 4 (read_name 1 rows bytes) (λ dest. with_name 4 (read_name 2 rows bytes)
    (λ src. WritePointer dest src (read_number 3 rows bytes) (read_number 4 rows bytes) (read_number 5 rows bytes)))

-- The entry that 128 bytes are. A command of another number is skipped.
unfoldable pub entry_of : List ℕ → Entry
entry_of bytes =
    let command = read_number 0 (command_rows 0) bytes in
    if command == 1 then allocate_of bytes
    else (if command == 2 then add_pointer_of bytes
    else (if command == 3 then add_checksum_of bytes
    else (if command == 4 then write_pointer_of bytes else Skipped command)))

-- the entries of a script of so many entries
abbrev pub entries_of : ℕ → List ℕ → List Entry
entries_of zero bytes = []
entries_of (suc count) bytes = entry_of (take 128 bytes) ∷ entries_of count (drop 128 bytes)

-- a script is a whole number of entries, and has at most 1,048,576 bytes
abbrev pub is_script_length : ℕ → Bool
is_script_length size = size % 128 == 0 && nat_le size 1048576

-- an entry that can be written: its command says what it is, and its names are names
abbrev pub CanBeWritten : Entry → Type 0
CanBeWritten (Misnamed command) = ⊥
CanBeWritten (Skipped command) = (command ≡ 0) ⊎ (5 ≤ command)
CanBeWritten (Allocate file align zone) = Unit {0}
CanBeWritten (AddPointer dest src offset size) = Unit {0}
CanBeWritten (AddChecksum file offset start count) = Unit {0}
CanBeWritten (WritePointer dest src dst_offset src_offset size) = Unit {0}
