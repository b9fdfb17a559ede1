-- The items of a device: its files, by name and by selector (QEMU, docs/specs/fw_cfg).
use Rattle.std.specs.Prelude.{◌≡◌, ℕ, ◌+◌, ◌≤◌, false, List, [], ◌∷◌, ◌++◌, length, map, sum_by, Option, find, ◌==◌, if◌then◌else◌}
use Rattle.std.specs.List.{flat_map, AllByRecursion}
use Rattle.std.specs.Str.{bytes_eq}
use Rattle.vt_bytes.specs.Numbers.{be_bytes}
use Rattle.vt_bytes.specs.Parts.{put_at}
use Rattle.vt_layout.specs.declared.row.Row.{Row}
use Rattle.vt_layout.specs.declared.row.Row.TheVariants.{BigEndian, Named, Reserved}
use Rattle.vt_layout.specs.Rows.{spelled}
use Rattle.cfg_directory.specs.declared.item.Item.{Item}

-- how many files there may be, and how many bytes they may have in all
abbrev pub file_limit : ℕ
file_limit = 1024

abbrev pub bytes_limit : ℕ
bytes_limit = 67108864

-- the selectors that a file may have
abbrev pub IsFileSelect : ℕ → Type 0
IsFileSelect select = (0x20 ≤ select) × (select ≤ 0x3FFF)

-- the bytes of all files
abbrev pub total_size : List Item → ℕ
total_size items = sum_by (λ (item : Item). length item.bytes) items

-- no item has this name, or this selector
abbrev pub HasNoName : List Item → List ℕ → Type 0
HasNoName items name = AllByRecursion (λ (item : Item). bytes_eq item.name name ≡ false) items

abbrev pub HasNoSelect : List Item → ℕ → Type 0
HasNoSelect items select = AllByRecursion (λ (item : Item). (item.select == select) ≡ false) items

-- names and selectors differ, and each selector is a file's
abbrev pub AreDistinct : List Item → Type 0
AreDistinct [] = Unit {0}
AreDistinct (item ∷ items) = HasNoName items item.name × HasNoSelect items item.select × IsFileSelect item.select × AreDistinct items

-- what the items of a device keep
pub record IsItems (items : List Item) : Type 0 where
  pub few : length items ≤ file_limit
  pub small : total_size items ≤ bytes_limit
  pub distinct : AreDistinct items

-- each item has the selector that follows the one before, from 0x20 on
abbrev pub AreNumberedFrom : ℕ → List Item → Type 0
AreNumberedFrom next [] = Unit {0}
AreNumberedFrom next (item ∷ items) = (item.select ≡ next) × AreNumberedFrom (next + 1) items

-- the item of a name, and of a selector
abbrev pub named : List Item → List ℕ → Option Item
named items name = find (λ (item : Item). bytes_eq item.name name) items

abbrev pub selected : List Item → ℕ → Option Item
selected items select = find (λ (item : Item). item.select == select) items

-- the items, the one of a selector with bytes put at an offset
abbrev pub with_bytes_at : List Item → ℕ → ℕ → List ℕ → List Item
with_bytes_at items select offset piece =
    map (λ (item : Item). if item.select == select then record item { bytes = put_at item.bytes offset piece } else item) items

-- the items, the one of a selector with more bytes at its end
abbrev pub with_bytes_behind : List Item → ℕ → List ℕ → List Item
with_bytes_behind items select piece =
    map (λ (item : Item). if item.select == select then record item { bytes = item.bytes ++ piece } else item) items

-- The rows of an entry of the directory: size and selector high byte first, a reserved field, and the name in 56 bytes.
abbrev pub entry_rows : ℕ → ℕ → List ℕ → List Row
entry_rows size select name = BigEndian 4 size ∷ BigEndian 2 select ∷ Reserved 2 ∷ Named name ∷ []

abbrev pub entry_bytes : Item → List ℕ
entry_bytes item = spelled (entry_rows (length item.bytes) item.select item.name)

-- The directory, item 0x0019: the number of files high byte first, and an entry for each.
abbrev pub directory_of : List Item → List ℕ
directory_of items = be_bytes 4 (length items) ++ flat_map entry_bytes items
