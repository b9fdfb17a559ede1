-- What an event does to a device and to the memory that it is attached to (QEMU, docs/specs/fw_cfg).
use Rattle.std.specs.Prelude.{◌≡◌, ◌<◌, ℕ, ◌+◌, ◌*◌, ◌/◌, ◌%◌, ◌^◌, None}
use Rattle.cfg_dma.specs.Device.{with_selected, advanced}
use Rattle.cfg_dma.specs.Transfers.{Attached, start, piece}

-- What may happen to a device: its registers are written or read, or it moves a piece of a transfer.
pub data Event : Type 0 where
  SelectorWritten : (select : ℕ) → Event
  ByteRead : Event
  HighWritten : (word : ℕ) → Event
  LowWritten : (word : ℕ) → Event
  Piece : (bytes : ℕ) → Event

-- a half of the address register is written
abbrev pub with_high : ℕ → ℕ → ℕ
with_high address word = word * 2 ^ 32 + address % 2 ^ 32

abbrev pub with_low : ℕ → ℕ → ℕ
with_low address word = address / 2 ^ 32 * 2 ^ 32 + word

-- The device's part of one event. Writing the lower half of the address register starts a transfer.
abbrev pub happens : Event → Attached → Attached
happens (SelectorWritten select) a = record a { device = with_selected a.device select }
happens ByteRead a = record a { device = advanced a.device 1 }
happens (HighWritten word) a = record a { device = record a.device { address = with_high a.device.address word } }
happens (LowWritten word) a = start (with_low a.device.address word) a
happens (Piece bytes) a = piece bytes a

-- When each may happen: no transfer is in flight while the selector, the data or the lower half of the address register is used, and
-- there is room for one that is started.
abbrev pub MayHappen : Event → Attached → Type 0
MayHappen (SelectorWritten select) a = a.device.flight ≡ None
MayHappen ByteRead a = a.device.flight ≡ None
MayHappen (HighWritten word) a = Unit {0}
MayHappen (LowWritten word) a = (a.device.flight ≡ None) × (0 < a.device.spare)
MayHappen (Piece bytes) a = Unit {0}
