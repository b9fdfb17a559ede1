-- The reads of a load are reads that its device can carry out.
use Rattle.std.proofs.Common.{◌≡◌, ℕ, ◌+◌, ◌-◌, ◌*◌, ◌<◌, ◌≤◌, ◌⊎◌, List, length, Some, min, inl, inr}
use Rattle.std.proofs.Common.{arith, refl, sym, ap, ◌∙◌}
use Rattle.std.proofs.lemmas.Bool.{cases_lt}
use Rattle.vt_bytes.specs.Memory.{IsRamRange}
use Rattle.cfg_directory.specs.declared.item.Item.{Item}
use Rattle.cfg_directory.specs.Items.{IsItems, named}
use Rattle.cfg_directory.proofs.Written.{AreNamed}
use Rattle.cfg_directory.proofs.Listings.{length-directory_of}
use Rattle.cfg_dma.specs.Device.{contents}
use Rattle.cfg_dma.specs.Reads.{CanRead, read_of}
use Rattle.cfg_dma.proofs.Holds.{contents-directory}
use Rattle.command_acts.specs.declared.placed.PlacedFile.{PlacedFile}
use Rattle.loader_script.specs.LoaderName.{loader_name}
use Rattle.load_states.specs.Guarded.{descriptor_at, buffer_at, buffer_size}
use Rattle.load_states.specs.Moves.{count_read, piece_read}
use Rattle.load_states.proofs.Frames.{descriptor_ram, buffer_ram, beside_work}
use Rattle.load_states.proofs.NamedItems.{named_is_file, contents_named}
use Rattle.load_states.proofs.Zoned.{IsZoned}

-- ---- what items hold

-- its selector fits in a control word
pub file_select_small : (items : List Item) (name : List ℕ) (item : Item) → IsItems items → named items name ≡ Some item → item.select < 65536
file_select_small items name item lawful there =
    let is_file = named_is_file items name item lawful.distinct there in
    omega (arith, is_file)

-- the directory holds four bytes, and 64 for each file
pub directory_holds : (items : List Item) → AreNamed items → length (contents items 0x19) ≡ 4 + 64 * length items
directory_holds items names = ap length (sym (contents-directory items 0x19 refl)) ∙ length-directory_of items names

-- ---- reads

-- a read that lies in its item, and goes to RAM beside the descriptor
read_can : (items : List Item) (top select offset size address : ℕ) → 0 < size → offset + size ≤ length (contents items select)
    → IsRamRange top address size → (address + size ≤ descriptor_at) ⊎ (descriptor_at + 16 ≤ address)
    → CanRead items top descriptor_at (read_of select offset size address)
read_can items top select offset size address some within ram beside = record {
  kind = refl;
  sound = refl;
  some = some;
  within = within;
  low = omega arith;
  descriptor_ram = descriptor_ram top;
  ram = ram;
  beside = beside;
}

-- a read into the buffer
buffer_can : (items : List Item) (top select offset size : ℕ) → 0 < size → size ≤ buffer_size → offset + size ≤ length (contents items select)
    → CanRead items top descriptor_at (read_of select offset size buffer_at)
buffer_can items top select offset size some fits within =
    read_can items top select offset size buffer_at some within (λ i below. buffer_ram top i (omega arith)) (inr (omega arith))

-- the number of files
pub count_can : (items : List Item) (top : ℕ) → AreNamed items → CanRead items top descriptor_at count_read
count_can items top names = buffer_can items top 0x19 0 4 (omega arith) (omega arith) (omega (arith, directory_holds items names))

-- a piece of an item that begins before the item's end
pub piece_can : (items : List Item) (top select start size piece : ℕ) → start + size ≤ length (contents items select) → buffer_size * piece < size
    → CanRead items top descriptor_at (piece_read select start size piece)
piece_can items top select start size piece within below =
    buffer_can items top select (start + buffer_size * piece) (min buffer_size (size - buffer_size * piece)) (omega arith) (omega arith) (omega arith)

-- a piece of the script
pub script_can : (items : List Item) (top : ℕ) (loader : Item) (select size piece : ℕ) → IsItems items → named items loader_name ≡ Some loader
    → select ≡ loader.select → size ≡ length loader.bytes → buffer_size * piece < size
    → CanRead items top descriptor_at (piece_read select 0 size piece)
script_can items top loader select size piece lawful there select_is size_is below =
    let held : contents items select ≡ loader.bytes = ap (contents items) select_is ∙ contents_named items loader_name loader lawful there in
    piece_can items top select 0 size piece (omega (arith, ap length held)) below

-- an address of a placed file is beside the descriptor
pub place_beside : (top : ℕ) (p : PlacedFile) (i : ℕ) → IsZoned top p → i < p.size
    → (p.place + i < descriptor_at) ⊎ (descriptor_at + 16 ≤ p.place + i)
place_beside top p i zoned within = (beside_work (p.place + i) (zoned i within).1).0

-- a placed file that isn't empty is apart from the descriptor
beside_descriptor : (top : ℕ) (p : PlacedFile) → 0 < p.size → IsZoned top p → (p.place + p.size ≤ descriptor_at) ⊎ (descriptor_at + 16 ≤ p.place)
beside_descriptor top p some zoned =
    elim (cases_lt p.place descriptor_at) as (λ _. (p.place + p.size ≤ descriptor_at) ⊎ (descriptor_at + 16 ≤ p.place)) [
      | inl below ↦
          elim (cases_lt descriptor_at (p.place + p.size)) as (λ _. (p.place + p.size ≤ descriptor_at) ⊎ (descriptor_at + 16 ≤ p.place)) [
            | inl over ↦
                let within : descriptor_at - p.place < p.size = omega arith in
                absurd (omega (arith, place_beside top p (descriptor_at - p.place) zoned within))
            | inr apart ↦ inl apart
          ]
      | inr from ↦ inr (omega (arith, place_beside top p 0 zoned some))
    ]

-- a placed file, read whole and straight to its place
pub file_can : (items : List Item) (top : ℕ) (name : List ℕ) (file : Item) (p : PlacedFile) → IsItems items → named items name ≡ Some file
    → p.size ≡ length file.bytes → 0 < p.size → IsRamRange top p.place p.size → IsZoned top p
    → CanRead items top descriptor_at (read_of file.select 0 p.size p.place)
file_can items top name file p lawful there size some ram zoned =
    read_can items top file.select 0 p.size p.place some (omega (arith, size, ap length (contents_named items name file lawful there))) ram
    (beside_descriptor top p some zoned)
