-- A container of files: the directory, a byte for each file that says whether it may be written, and the files' bytes in
-- the directory's order.
use Rattle.std.specs.Prelude.{◌≡◌, ℕ, zero, suc, ◌+◌, ◌*◌, ◌≤◌, Bool, true, false, not, ◌&&◌, List, [], ◌∷◌, ◌++◌, length, take, drop, map, sum_by, Result}
use Rattle.std.specs.Prelude.{Ok, Err, nat_lt, nat_le, ◌==◌, if◌then◌else◌}
use Rattle.std.specs.List.{flat_map, list_any}
use Rattle.std.specs.Str.{bytes_eq}
use Rattle.vt_outside.specs.declared.name.NameFault.{NameFault}
use Rattle.vt_outside.specs.Readings.{◌into◌}
use Rattle.std.specs.Prelude.{Option, Some, None}
use Rattle.vt_bytes.specs.Numbers.{be}
use Rattle.vt_bytes.specs.View.{view_of}
use Rattle.vt_layout.specs.Shown.{LayoutShown}
use Rattle.vt_layout.specs.Reading.{read_number, read_name}
use Rattle.cfg_directory.specs.declared.item.Item.{Item}
use Rattle.cfg_directory.specs.declared.listed.Listed.{Listed}
use Rattle.cfg_directory.specs.declared.container.ImageFault.{ImageFault}
use Rattle.cfg_directory.specs.declared.container.ImageFault.TheVariants.{Truncated, TooMany, BadName, TwiceNamed, TwiceSelected, BadSelect, BadFlag}
use Rattle.cfg_directory.specs.declared.container.ImageFault.TheVariants.{TrailingBytes, TooLarge, OutOfMemory}
use Rattle.cfg_directory.specs.Items.{IsItems, file_limit, bytes_limit, entry_rows, directory_of}

-- the byte that says whether a file may be written
abbrev pub flag_of : Bool → ℕ
flag_of false = 0
flag_of true = 1

-- The one spelling of items that is written: reserved fields are zero, and zeros follow each name.
abbrev pub container_of : List Item → List ℕ
container_of items =
    directory_of items ++ map (λ (item : Item). flag_of item.writable) items ++ flat_map (λ (item : Item). item.bytes) items

-- The 64 bytes are an entry of the directory for an item. What stands in the reserved field, and behind the first NUL of
-- the name's field, may be anything.
pub record IsEntry (entry : List ℕ) (item : Item) : Type 0 where
  pub size : length entry ≡ 64
  pub rows : LayoutShown (view_of entry) 0 (entry_rows (length item.bytes) item.select item.name)

-- the entries of a directory, one by one
abbrev pub AreEntries : List ℕ → List Item → Type 0
AreEntries bytes [] = bytes ≡ []
AreEntries bytes (item ∷ items) = (entry : List ℕ) × (rest : List ℕ) × (bytes ≡ entry ++ rest) × IsEntry entry item × AreEntries rest items

-- The bytes are a container of the items.
pub record IsContainer (bytes : List ℕ) (items : List Item) : Type 0 where
  pub count : List ℕ
  pub entries : List ℕ
  pub spelled : bytes ≡ count ++ entries ++ map (λ (item : Item). flag_of item.writable) items ++ flat_map (λ (item : Item). item.bytes) items
  pub count_size : length count ≡ 4
  pub count_is : be count ≡ length items
  pub are_entries : AreEntries entries items
  pub lawful : IsItems items

-- What the fields of an entry at an index say, or its first fault: its name is none, or was given before; its selector is no file's, or
-- was given before.
abbrev pub listed_so : ℕ → List Listed → ℕ → ℕ → Result (List ℕ) NameFault → Result Listed ImageFault
listed_so index before size select (Err fault) = Err (BadName index)
listed_so index before size select (Ok name) =
    if list_any (λ (other : Listed). bytes_eq other.name name) before then Err (TwiceNamed index)
    else (if not (nat_le 0x20 select && nat_le select 0x3FFF) then Err (BadSelect index)
    else (if list_any (λ (other : Listed). other.select == select) before then Err (TwiceSelected index)
    else Ok (record { name = name; select = select; size = size })))

-- what an entry at an index says, by its bytes
unfoldable pub entry_so : ℕ → List Listed → List ℕ → Result Listed ImageFault
entry_so index before entry =
    let rows = entry_rows 0 0 [] in
    listed_so index before (read_number 0 rows entry) (read_number 1 rows entry) (read_name 3 rows entry)

-- what so many entries say, from an index on
unfoldable pub directory_so : ℕ → ℕ → List Listed → List ℕ → Result (List Listed) ImageFault
directory_so zero index before bytes = Ok before
directory_so (suc left) index before bytes =
    entry_so index before (take 64 bytes) into (λ listed. directory_so left (index + 1) (before ++ listed ∷ []) (drop 64 bytes))

-- what the flags say, from an index on
unfoldable pub flags_so : ℕ → List ℕ → Result (List Bool) ImageFault
flags_so index [] = Ok []
flags_so index (zero ∷ flags) = flags_so (index + 1) flags into (λ rest. Ok (false ∷ rest))
flags_so index (suc zero ∷ flags) = flags_so (index + 1) flags into (λ rest. Ok (true ∷ rest))
flags_so index (suc (suc flag) ∷ flags) = Err (BadFlag index)

-- the item of an entry
abbrev pub item_so : Listed → Bool → List ℕ → Item
item_so listed writable contents = record { name = listed.name; select = listed.select; writable = writable; bytes = contents }

-- the items, each with as many bytes as its entry says
unfoldable pub items_so : List Listed → List Bool → List ℕ → List Item
items_so [] flags contents = []
items_so (listed ∷ others) [] contents = []
items_so (listed ∷ others) (flag ∷ flags) contents =
    item_so listed flag (take listed.size contents) ∷ items_so others flags (drop listed.size contents)

-- The files' bytes are due: they are too many by what the entries say, they end too early, or something follows them.
unfoldable pub contents_so : List Listed → List Bool → List ℕ → Result (List Item) ImageFault
contents_so listed flags contents =
    let total = sum_by (λ (l : Listed). l.size) listed in
    if nat_lt bytes_limit total then Err TooLarge
    else (if nat_lt (length contents) total then Err Truncated
    else (if nat_lt total (length contents) then Err TrailingBytes else Ok (items_so listed flags contents)))

-- the flags of so many files are due, and then their bytes
unfoldable pub flagged_so : ℕ → List Listed → List ℕ → Result (List Item) ImageFault
flagged_so count listed bytes =
    if nat_lt (length bytes) count then Err Truncated
    else (flags_so 0 (take count bytes) into (λ flags. contents_so listed flags (drop count bytes)))

-- so many entries are due, and then the rest
unfoldable pub counted_so : ℕ → List ℕ → Result (List Item) ImageFault
counted_so count bytes =
    if nat_lt file_limit count then Err TooMany
    else (if nat_lt (length bytes) (64 * count) then Err Truncated
    else (directory_so count 0 [] bytes into (λ listed. flagged_so count listed (drop (64 * count) bytes))))

-- The items that the bytes are a container of, or the first refusal.
unfoldable pub read_so : List ℕ → Result (List Item) ImageFault
read_so bytes = if nat_lt (length bytes) 4 then Err Truncated else counted_so (be (take 4 bytes)) (drop 4 bytes)

-- The number of files is there and isn't too large, and so many entries are there: what is known before memory is needed.
abbrev pub HasEntries : List ℕ → Type 0
HasEntries bytes = (4 ≤ length bytes) × (be (take 4 bytes) ≤ file_limit) × (64 * be (take 4 bytes) ≤ length (drop 4 bytes))

-- the fault that an error reports, or none where memory ran out
abbrev pub reported : ImageFault → Option ImageFault
reported OutOfMemory = None
reported fault = Some fault
