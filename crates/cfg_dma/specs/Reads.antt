-- Reads that a firmware asks for: how one is started, and what holds of it until it is over (QEMU, docs/specs/fw_cfg, "DMA interface").
use Rattle.std.specs.Prelude.{◌≡◌, ℕ, ◌+◌, ◌*◌, ◌^◌, ◌<◌, ◌≤◌, ◌⊎◌, false, List, [], ◌∷◌, ◌++◌, length, take, Some, None}
use Rattle.vt_bytes.specs.Numbers.{be, be_bytes}
use Rattle.vt_bytes.specs.Parts.{part}
use Rattle.vt_bytes.specs.Memory.{IsRamRange, IsMemory, bytes_at, with_bytes}
use Rattle.cfg_directory.specs.declared.item.Item.{Item}
use Rattle.cfg_dma.specs.declared.transfer.Kind.TheVariants.{Read}
use Rattle.cfg_dma.specs.declared.transfer.Finished.{Finished}
use Rattle.cfg_dma.specs.Device.{DeviceState, IsDevice, contents}
use Rattle.cfg_dma.specs.Transfers.{Attached, room_of}
use Rattle.cfg_dma.specs.Events.{happens, HighWritten, LowWritten}

-- Control words: a read of an item that is selected, from its start, and a read from where the last one ended.
abbrev pub selected_read : ℕ → ℕ
selected_read select = select * 0x10000 + 0x0A

abbrev pub next_read : ℕ
next_read = 0x02

-- the bytes of a descriptor
abbrev pub descriptor_bytes : ℕ → ℕ → ℕ → List ℕ
descriptor_bytes control size address = be_bytes 4 control ++ be_bytes 4 size ++ be_bytes 8 address

-- A transfer is started: its descriptor is written into memory, and the descriptor's address into the device's register.
abbrev pub started : ℕ → ℕ → ℕ → ℕ → Attached → Attached
started descriptor control size address a =
    let written = record a { memory = with_bytes a.memory descriptor (descriptor_bytes control size address) } in
    happens (LowWritten descriptor) (happens (HighWritten 0) written)

-- a read of so many bytes of an item, from an offset on, to an address
abbrev pub read_of : ℕ → ℕ → ℕ → ℕ → Finished
read_of select offset size address =
    record { kind = Read; select = select; offset = offset; length = size; address = address; error = false }

-- the bytes that a read moves
abbrev pub moved_by : List Item → Finished → List ℕ
moved_by items transfer = part (contents items transfer.select) transfer.offset transfer.length

-- A read that a device of these items carries out whole: the item has so many bytes from the offset on, and some; they go to RAM beside the
-- read's descriptor, which is RAM too.
pub record CanRead (items : List Item) (top descriptor : ℕ) (transfer : Finished) : Type 0 where
  pub kind : transfer.kind ≡ Read
  pub sound : transfer.error ≡ false
  pub some : 0 < transfer.length
  pub within : transfer.offset + transfer.length ≤ length (contents items transfer.select)
  pub low : descriptor + 16 ≤ 2 ^ 32
  pub descriptor_ram : IsRamRange top descriptor 16
  pub ram : IsRamRange top transfer.address transfer.length
  pub beside : (transfer.address + transfer.length ≤ descriptor) ⊎ (descriptor + 16 ≤ transfer.address)

-- A control word asks a device for a read: of an item that is selected, from its start, or from where the device is.
abbrev pub AsksFor : ℕ → DeviceState → Finished → Type 0
AsksFor control d transfer =
    ((control ≡ selected_read transfer.select) × (transfer.select < 2 ^ 16) × (transfer.offset ≡ 0))
    ⊎ ((control ≡ next_read) × (transfer.select ≡ d.select) × (transfer.offset ≡ d.offset))

-- A read that isn't over: it is in flight, some of its bytes are still to come, memory holds those that were moved, and its descriptor is the
-- one that was written.
pub record IsMoving (items : List Item) (before : List Finished) (descriptor control : ℕ) (transfer : Finished) (a : Attached) : Type 0 where
  pub moved : ℕ
  pub flight : a.device.flight ≡ Some (record { descriptor = descriptor; transfer = transfer; moved = moved })
  pub some_left : moved < transfer.length
  pub held : bytes_at a.memory transfer.address moved ≡ take moved (moved_by items transfer)
  pub written : bytes_at a.memory descriptor 16 ≡ descriptor_bytes control transfer.length transfer.address
  pub selected : a.device.select ≡ transfer.select
  pub offset : a.device.offset ≡ transfer.offset + moved
  pub finished : a.device.finished ≡ before

-- A read that is over: none is in flight, memory holds all that it moved, its control word is zero, and it is the last that finished.
pub record IsOver (items : List Item) (before : List Finished) (descriptor : ℕ) (transfer : Finished) (a : Attached) : Type 0 where
  pub idle : a.device.flight ≡ None
  pub held : bytes_at a.memory transfer.address transfer.length ≡ moved_by items transfer
  pub control : be (bytes_at a.memory descriptor 4) ≡ 0
  pub selected : a.device.select ≡ transfer.select
  pub offset : a.device.offset ≡ transfer.offset + transfer.length
  pub finished : a.device.finished ≡ before ++ transfer ∷ []

-- a read that is awaited, which was asked for with a control word
abbrev pub IsAwaited : List Item → List Finished → ℕ → ℕ → Finished → Attached → Type 0
IsAwaited items before descriptor control transfer a =
    IsMoving items before descriptor control transfer a ⊎ IsOver items before descriptor transfer a

-- A device goes on with its room and its opening files, and memory with its top and its fill byte; both stay lawful.
pub record GoesOn (before after : Attached) : Type 0 where
  pub room : room_of after.device ≡ room_of before.device
  pub opening : after.device.opening ≡ before.device.opening
  pub device : IsDevice after.device
  pub memory : IsMemory after.memory
  pub top : after.memory.top ≡ before.memory.top
  pub fill : after.memory.fill ≡ before.memory.fill

-- an address is in neither of two ranges: a read's descriptor, and what it moves
abbrev pub IsBesideRead : ℕ → ℕ → Finished → Type 0
IsBesideRead address descriptor transfer =
    ((address < descriptor) ⊎ (descriptor + 16 ≤ address)) × ((address < transfer.address) ⊎ (transfer.address + transfer.length ≤ address))
