-- The item that has a name: what the device holds for it, and what lists and files say of it.
use Rattle.std.proofs.Common.{◌≡◌, ℕ, List, [], ◌∷◌, length, Option, Some, None}
use Rattle.std.proofs.Common.{arith, refl, sym, ap, ◌∙◌}
use Rattle.std.specs.List.{AllByRecursion}
use Rattle.std.specs.Option.{option_map, option_map_or}
use Rattle.std.specs.Str.{bytes_eq}
use Rattle.cfg_directory.specs.declared.item.Item.{Item}
use Rattle.cfg_directory.specs.declared.listed.Listed.{Listed}
use Rattle.cfg_directory.specs.Items.{IsItems, AreDistinct, IsFileSelect, named, directory_of}
use Rattle.cfg_directory.specs.Listing.{listed_of}
use Rattle.loader_script.proofs.Named.{find-map, of_found}
use Rattle.cfg_dma.specs.Device.{contents}
use Rattle.cfg_dma.proofs.Holds.{contents-directory, contents-file}
use Rattle.std.proofs.lemmas.Option.{same_Some, none-some}
use Rattle.cfg_directory.specs.Files.{files_of}
use Rattle.vt_outside.specs.File.{File}
use Rattle.loader_script.specs.Run.{file_of}
use Rattle.command_acts.proofs.ItemsWritten.{as_file, selected_named}
use Rattle.load_states.specs.LoadState.{listed_named}

-- each item has a file's selector
each_select : (items : List Item) → AreDistinct items → AllByRecursion (λ (item : Item). IsFileSelect item.select) items
each_select [] distinct = tt
each_select (item ∷ items) distinct = (distinct.2, each_select items distinct.3)

-- so has the item of a name
pub named_is_file : (items : List Item) (name : List ℕ) (item : Item) → AreDistinct items → named items name ≡ Some item → IsFileSelect item.select
named_is_file items name item distinct there =
    of_found (λ (i : Item). IsFileSelect i.select) (λ (i : Item). bytes_eq i.name name) items item there (each_select items distinct)

-- The device holds an item's bytes under its selector.
pub contents_named : (items : List Item) (name : List ℕ) (item : Item) → IsItems items → named items name ≡ Some item
    → contents items item.select ≡ item.bytes
contents_named items name item lawful is =
    let low = (named_is_file items name item lawful.distinct is).0 in
    sym (contents-file items item.select (λ no. omega arith) (λ no. omega arith) (λ no. omega arith))
    ∙ ap (λ (o : Option Item). option_map_or (λ (i : Item). i.bytes) o []) (selected_named items name item lawful.distinct is)

-- and the directory under 0x0019
pub contents_listed : (items : List Item) → contents items 0x19 ≡ directory_of items
contents_listed items = sym (contents-directory items 0x19 refl)

-- an item as the directory lists it
abbrev pub listing : Item → Listed
listing item = record { name = item.name; select = item.select; size = length item.bytes }

-- the listed file of a name is the item of that name
pub listed_as_named : (items : List Item) (name : List ℕ) → listed_named (listed_of items) name ≡ option_map listing (named items name)
listed_as_named items name = find-map listing (λ (l : Listed). bytes_eq l.name name) items

-- an item that is there is a file
pub file_of_named : (items : List Item) (name : List ℕ) (item : Item) → named items name ≡ Some item
    → file_of (files_of items) name ≡ Some (as_file item)
file_of_named items name item is = find-map as_file (λ (f : File). bytes_eq f.name name) items ∙ ap (option_map as_file) is

-- the item of a file that is there
item_found : (o : Option Item) (file : File) → option_map as_file o ≡ Some file → (item : Item) × (o ≡ Some item) × (file ≡ as_file item)
item_found None file there = absurd (none-some file there)
item_found (Some item) file there = (item, refl, sym (same_Some (as_file item) file there))

pub item_there : (items : List Item) (name : List ℕ) (file : File) → file_of (files_of items) name ≡ Some file
    → (item : Item) × (named items name ≡ Some item) × (file ≡ as_file item)
item_there items name file there =
    item_found (named items name) file (sym (find-map as_file (λ (f : File). bytes_eq f.name name) items) ∙ there)

-- no items have no name
pub none_named : (items : List Item) (name : List ℕ) → length items ≡ 0 → named items name ≡ None
none_named [] name none = refl
none_named (item ∷ items) name none = absurd (omega arith)
