-- A fw_cfg device as contracts see it: its items and its state (QEMU, docs/specs/fw_cfg).
use Rattle.std.specs.Prelude.{◌≡◌, ℕ, ◌+◌, ◌-◌, ◌^◌, ◌<◌, ◌≤◌, ◌==◌, true, List, [], ◌∷◌, length, slice_index, min, Option, None, IfSome, IfNone}
use Rattle.std.specs.Prelude.{MatchOption, IsSomeAnd, if◌then◌else◌}
use Rattle.std.specs.List.{last_or}
use Rattle.std.specs.Option.{option_map_or}
use Rattle.vt_bytes.specs.Numbers.{le_bytes}
use Rattle.cfg_directory.specs.declared.item.Item.{Item}
use Rattle.cfg_directory.specs.Items.{IsItems, directory_of, selected}
use Rattle.cfg_dma.specs.declared.transfer.Kind.{Kind}
use Rattle.cfg_dma.specs.declared.transfer.Kind.TheVariants.{Read, Write, Skip, Nothing}
use Rattle.cfg_dma.specs.declared.transfer.Finished.{Finished}
use Rattle.cfg_dma.specs.declared.transfer.Flight.{Flight}

-- The state of a device.
pub record DeviceState : Type 0 where
  -- its files, and what they were when it began
  pub items : List Item
  pub opening : List Item
  -- the selected item, and the offset in it
  pub select : ℕ
  pub offset : ℕ
  -- the DMA address register
  pub address : ℕ
  -- the transfer in flight
  pub flight : Option Flight
  -- the transfers that are over, in order, and how many more there is room for
  pub finished : List Finished
  pub spare : ℕ

-- item 0x0000: the bytes "QEMU"
abbrev pub signature : List ℕ
signature = 0x51 ∷ 0x45 ∷ 0x4D ∷ 0x55 ∷ []

-- item 0x0001, low byte first: bit 0 says that there is the selector with the data register, and bit 1 that there is DMA
abbrev pub features : List ℕ
features = le_bytes 4 3

-- the address register reads as "QEMU CFG"
abbrev pub dma_signature : ℕ
dma_signature = 0x51454D5520434647

-- what a file holds, or nothing where there is none
abbrev pub bytes_of : List Item → ℕ → List ℕ
bytes_of items select = option_map_or (λ (item : Item). item.bytes) (selected items select) []

-- What an item holds. Item 0x0019 is the directory, and the others are files.
unfoldable pub contents : List Item → ℕ → List ℕ
contents items select =
    if select == 0x0000 then signature
    else (if select == 0x0001 then features
    else (if select == 0x0019 then directory_of items else bytes_of items select))

-- what the selected item holds
abbrev pub holds : DeviceState → List ℕ
holds d = contents d.items d.select

-- a device with an item selected, at offset 0
abbrev pub with_selected : DeviceState → ℕ → DeviceState
with_selected d select = record d { select = select; offset = 0 }

-- the byte at the offset, or 0 at the item's end
abbrev pub next_byte : DeviceState → ℕ
next_byte d = slice_index (holds d) d.offset

-- a device with its offset so many bytes further, but never past the item's end
abbrev pub advanced : DeviceState → ℕ → DeviceState
advanced d count = record d { offset = min (d.offset + count) (length (holds d)) }

-- a file has at least so many bytes
abbrev pub FitsIn : List Item → ℕ → ℕ → Type 0
FitsIn items select count = IsSomeAnd (selected items select) (λ (item : Item). count ≤ length item.bytes)

-- so many bytes from the offset on lie in the selected item, which is a file
abbrev pub LieInFile : DeviceState → ℕ → Type 0
LieInFile d count = FitsIn d.items d.select (d.offset + count)

-- a selector is that of a file that may be written
abbrev pub IsWritable : List Item → ℕ → Type 0
IsWritable items select = IsSomeAnd (selected items select) (λ (item : Item). item.writable ≡ true)

-- transfers that move bytes
abbrev pub Moves : Kind → Type 0
Moves Read = Unit {0}
Moves Write = Unit {0}
Moves Skip = ⊥
Moves Nothing = ⊥

-- What holds of a transfer in flight: it moves bytes, some are left, what is left to write fits in the item, which may be written, and
-- there is room for it among those that are over.
pub record IsInFlight (d : DeviceState) (f : Flight) : Type 0 where
  pub moves : Moves f.transfer.kind
  pub left : f.moved < f.transfer.length
  pub fits : f.transfer.kind ≡ Write → LieInFile d (f.transfer.length - f.moved)
  pub writable : f.transfer.kind ≡ Write → IsWritable d.items d.select
  pub room : 0 < d.spare

-- What each device keeps: its items are lawful, its offset isn't past the end of the selected one, and what is said above holds of a
-- transfer in flight.
pub record IsDevice (d : DeviceState) : Type 0 where
  pub items : IsItems d.items
  pub offset : d.offset ≤ length (holds d)
  pub flight : IfSome d.flight (IsInFlight d)

-- a device of which so many bytes of a transfer were moved has its item selected, and is behind these bytes
abbrev pub StandsBehind : Finished → ℕ → DeviceState → Type 0
StandsBehind transfer moved d = (d.select ≡ transfer.select) × (d.offset ≡ transfer.offset + moved)

-- A device stands where its last transfer left it, or as far as the one in flight has come, and before the first one where it began. The address
-- register is 0.
pub record StandsWhereLeft (d : DeviceState) : Type 0 where
  pub address : d.address ≡ 0
  pub moving : IfSome d.flight (λ (flight : Flight). StandsBehind flight.transfer flight.moved d)
  pub idle : IfNone d.flight (MatchOption (last_or None d.finished) ((d.select ≡ 0) × (d.offset ≡ 0)) (λ (t : Finished). StandsBehind t t.length d))

-- The device after a reset: its files are what they were when it began, item 0x0000 is selected, at offset 0, the address register is 0, no
-- transfer is in flight, and none is over; there is room for as many as before.
abbrev pub reset_device : DeviceState → DeviceState
reset_device d = record {
  items = d.opening;
  opening = d.opening;
  select = 0x0000;
  offset = 0;
  address = 0;
  flight = None;
  finished = [];
  spare = length d.finished + d.spare;
}

-- the bytes that a device keeps as its directory: no more than an offset can count
pub record KeepsDirectory (items : List Item) (directory : List ℕ) : Type 0 where
  pub is : directory ≡ directory_of items
  pub small : length directory < 2 ^ 32
