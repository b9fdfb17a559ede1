-- Writes that a firmware asks for, each behind a skip to where it begins: how both are started, and what holds of a write until it is over
-- (QEMU, docs/specs/fw_cfg, "DMA interface").
use Rattle.std.specs.Prelude.{◌≡◌, ℕ, ◌+◌, ◌*◌, ◌^◌, ◌<◌, ◌≤◌, ◌⊎◌, true, false, List, [], ◌∷◌, ◌++◌, length, take, Some, None, IsSomeAnd}
use Rattle.vt_bytes.specs.Numbers.{be}
use Rattle.vt_bytes.specs.Memory.{IsRamRange, bytes_at}
use Rattle.cfg_directory.specs.declared.item.Item.{Item}
use Rattle.cfg_directory.specs.Items.{selected, with_bytes_at}
use Rattle.cfg_dma.specs.declared.transfer.Kind.TheVariants.{Skip, Write}
use Rattle.cfg_dma.specs.declared.transfer.Finished.{Finished}
use Rattle.cfg_dma.specs.Device.{FitsIn, contents}
use Rattle.cfg_dma.specs.Transfers.{Attached}
use Rattle.cfg_dma.specs.Reads.{descriptor_bytes}

-- Control words: a skip in an item that is selected, from its start, and a write from where the device is.
abbrev pub selected_skip : ℕ → ℕ
selected_skip select = select * 0x10000 + 0x0C

abbrev pub next_write : ℕ
next_write = 0x10

-- a skip of so many bytes of an item, from its start, and a write of so many bytes to it, from an offset on
abbrev pub skip_of : ℕ → ℕ → Finished
skip_of select count = record { kind = Skip; select = select; offset = 0; length = count; address = 0; error = false }

abbrev pub write_of : ℕ → ℕ → ℕ → ℕ → Finished
write_of select offset size address =
    record { kind = Write; select = select; offset = offset; length = size; address = address; error = false }

-- A skip that a device of these items carries out whole: the item has so many bytes, and the descriptor is RAM.
pub record CanSkip (items : List Item) (top descriptor select count : ℕ) : Type 0 where
  pub names : select < 2 ^ 16
  pub within : count ≤ length (contents items select)
  pub small : count < 2 ^ 32
  pub low : descriptor + 16 ≤ 2 ^ 32
  pub descriptor_ram : IsRamRange top descriptor 16

-- A skip is over: none is in flight, the device is behind what was skipped, the control word is zero, and it is the last that finished.
pub record IsSkipped (before : List Finished) (descriptor select count : ℕ) (a : Attached) : Type 0 where
  pub idle : a.device.flight ≡ None
  pub control : be (bytes_at a.memory descriptor 4) ≡ 0
  pub selected : a.device.select ≡ select
  pub offset : a.device.offset ≡ count
  pub finished : a.device.finished ≡ before ++ skip_of select count ∷ []

-- A write that a device of these items carries out whole: the item is a file that may be written, and has so many bytes from the offset on,
-- and some; they come from RAM beside the write's descriptor, which is RAM too.
pub record CanWrite (items : List Item) (top descriptor : ℕ) (transfer : Finished) : Type 0 where
  pub kind : transfer.kind ≡ Write
  pub sound : transfer.error ≡ false
  pub some : 0 < transfer.length
  pub fits : FitsIn items transfer.select (transfer.offset + transfer.length)
  pub writable : IsSomeAnd (selected items transfer.select) (λ (item : Item). item.writable ≡ true)
  pub low : descriptor + 16 ≤ 2 ^ 32
  pub descriptor_ram : IsRamRange top descriptor 16
  pub ram : IsRamRange top transfer.address transfer.length
  pub beside : (transfer.address + transfer.length ≤ descriptor) ⊎ (descriptor + 16 ≤ transfer.address)

-- the items with bytes put into one, where a write begins
abbrev pub with_put : List Item → Finished → List ℕ → List Item
with_put items transfer bytes = with_bytes_at items transfer.select transfer.offset bytes

-- A write of these bytes that isn't over: it is in flight, some of its bytes are still to come, the items are as before it, with those bytes put
-- that were moved, memory holds all of them still, and its descriptor is the one that was written.
pub record IsWriting (items : List Item) (bytes : List ℕ) (before : List Finished) (descriptor : ℕ) (transfer : Finished) (a : Attached)
    : Type 0 where
  pub moved : ℕ
  pub flight : a.device.flight ≡ Some (record { descriptor = descriptor; transfer = transfer; moved = moved })
  pub some_left : moved < transfer.length
  pub put : a.device.items ≡ with_put items transfer (take moved bytes)
  pub still : bytes_at a.memory transfer.address transfer.length ≡ bytes
  pub written : bytes_at a.memory descriptor 16 ≡ descriptor_bytes next_write transfer.length transfer.address
  pub selected : a.device.select ≡ transfer.select
  pub offset : a.device.offset ≡ transfer.offset + moved
  pub finished : a.device.finished ≡ before

-- A write of these bytes that is over: none is in flight, the items have all of them, its control word is zero, and it is the last that
-- finished.
pub record IsWritten (items : List Item) (bytes : List ℕ) (before : List Finished) (descriptor : ℕ) (transfer : Finished) (a : Attached)
    : Type 0 where
  pub idle : a.device.flight ≡ None
  pub put : a.device.items ≡ with_put items transfer bytes
  pub control : be (bytes_at a.memory descriptor 4) ≡ 0
  pub selected : a.device.select ≡ transfer.select
  pub offset : a.device.offset ≡ transfer.offset + transfer.length
  pub finished : a.device.finished ≡ before ++ transfer ∷ []

-- a write of these bytes that is awaited
abbrev pub IsWriteAwaited : List Item → List ℕ → List Finished → ℕ → Finished → Attached → Type 0
IsWriteAwaited items bytes before descriptor transfer a =
    IsWriting items bytes before descriptor transfer a ⊎ IsWritten items bytes before descriptor transfer a
