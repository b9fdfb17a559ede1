-- What the entries of a directory list, read one by one, and what the directory of items lists.
use Rattle.std.specs.Prelude.{ℕ, zero, suc, List, [], ◌∷◌, ◌++◌, length, take, drop, map, Result, Ok, Err}
use Rattle.std.specs.List.{flat_map}
use Rattle.vt_outside.specs.declared.name.NameFault.{NameFault}
use Rattle.vt_layout.specs.Reading.{read_number, read_name}
use Rattle.cfg_directory.specs.declared.item.Item.{Item}
use Rattle.cfg_directory.specs.declared.listed.Listed.{Listed}
use Rattle.cfg_directory.specs.Items.{entry_rows, entry_bytes}

-- the file that an entry's size, selector and name list; a name that is none lists nothing
abbrev pub listed_by : ℕ → ℕ → Result (List ℕ) NameFault → List Listed
listed_by size select (Ok name) = record { name = name; select = select; size = size } ∷ []
listed_by size select (Err fault) = []

-- the file that an entry lists, which is the first 64 of these bytes
abbrev pub entry_says : List ℕ → List Listed
entry_says bytes =
    let rows = entry_rows 0 0 [] in
    let entry = take 64 bytes in
    listed_by (read_number 0 rows entry) (read_number 1 rows entry) (read_name 3 rows entry)

-- the files that so many entries list, in their order
abbrev pub listed_in : ℕ → List ℕ → List Listed
listed_in zero bytes = []
listed_in (suc count) bytes = entry_says bytes ++ listed_in count (drop 64 bytes)

-- the files that the directory of items lists, and the bytes of its entries
abbrev pub listed_of : List Item → List Listed
listed_of items = map (λ (item : Item). record { name = item.name; select = item.select; size = length item.bytes }) items

abbrev pub entries_of : List Item → List ℕ
entries_of items = flat_map entry_bytes items
