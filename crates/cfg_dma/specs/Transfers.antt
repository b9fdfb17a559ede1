-- Transfers between a device's items and the memory that it is attached to: how one starts, moves its bytes and is over (QEMU,
-- docs/specs/fw_cfg, "DMA interface").
use Rattle.std.specs.Prelude.{ℕ, ◌+◌, ◌-◌, ◌==◌, Bool, true, false, ◌&&◌, List, [], ◌∷◌, ◌++◌, length, replicate, min, Option, Some, None, IfSome}
use Rattle.std.specs.Prelude.{nat_le, if◌then◌else◌}
use Rattle.std.specs.Option.{option_map_or}
use Rattle.vt_bytes.specs.Numbers.{be_bytes}
use Rattle.vt_bytes.specs.Parts.{part}
use Rattle.vt_bytes.specs.Memory.{Memory, IsRamRange, bytes_at, with_bytes}
use Rattle.cfg_directory.specs.declared.item.Item.{Item}
use Rattle.cfg_directory.specs.Items.{selected, with_bytes_at}
use Rattle.guest_memory.specs.RamRange.{is_ram_range}
use Rattle.cfg_dma.specs.declared.transfer.Kind.{Kind}
use Rattle.cfg_dma.specs.declared.transfer.Kind.TheVariants.{Read, Write, Skip, Nothing}
use Rattle.cfg_dma.specs.declared.transfer.Finished.{Finished}
use Rattle.cfg_dma.specs.declared.transfer.Flight.{Flight}
use Rattle.cfg_dma.specs.declared.descriptor.Descriptor.{Descriptor}
use Rattle.cfg_dma.specs.Device.{DeviceState, holds, with_selected, advanced}
use Rattle.cfg_dma.specs.Descriptor.{descriptor_in, kind_of, selects, select_of}

-- a device, and the memory that it is attached to
pub record Attached : Type 0 where
  pub device : DeviceState
  pub memory : Memory

abbrev pub attached : DeviceState → Memory → Attached
attached device memory = record { device = device; memory = memory }

-- A transfer is over: its control word becomes 0, or 1 where it failed, and it is the last that finished.
abbrev pub finish : ℕ → Finished → Attached → Attached
finish descriptor transfer a = record {
  device = record a.device { flight = None; finished = a.device.finished ++ transfer ∷ []; spare = a.device.spare - 1 };
  memory = with_bytes a.memory descriptor (be_bytes 4 (if transfer.error then 1 else 0));
}

-- so many bytes may be written from the offset on: the selected item is a file that may be written, and they fit in it
abbrev pub may_write : DeviceState → ℕ → Bool
may_write d count =
    option_map_or (λ (item : Item). item.writable && nat_le (d.offset + count) (length item.bytes)) (selected d.items d.select) false

-- A transfer that moves bytes begins: there is nothing to move, or it is in flight, or it isn't allowed.
abbrev pub begin_moving : Bool → ℕ → Finished → Attached → Attached
begin_moving allowed descriptor transfer a =
    if transfer.length == 0 then finish descriptor transfer a
    else (if allowed then
    record a { device = record a.device { flight = Some (record { descriptor = descriptor; transfer = transfer; moved = 0 }) } }
    else finish descriptor (record transfer { error = true }) a)

-- A transfer begins. Bytes are moved only within RAM, and are written only where they may be.
abbrev pub begin_as : Kind → ℕ → Finished → Attached → Attached
begin_as Read descriptor transfer a =
    begin_moving (is_ram_range a.memory.top transfer.address transfer.length) descriptor transfer a
begin_as Write descriptor transfer a =
    begin_moving (is_ram_range a.memory.top transfer.address transfer.length && may_write a.device transfer.length) descriptor transfer a
begin_as Skip descriptor transfer a = finish descriptor transfer (record a { device = advanced a.device transfer.length })
begin_as Nothing descriptor transfer a = finish descriptor transfer a

-- the transfer that a descriptor asks for
abbrev pub transfer_of : Descriptor → DeviceState → Finished
transfer_of asked d = record {
  kind = kind_of asked.control;
  select = d.select;
  offset = d.offset;
  length = asked.length;
  address = asked.address;
  error = false;
}

-- what a descriptor asks for is begun, once the item is selected that it may name
abbrev pub carry_out : ℕ → Descriptor → Attached → Attached
carry_out descriptor asked a =
    let device = if selects asked.control then with_selected a.device (select_of asked.control) else a.device in
    begin_as (kind_of asked.control) descriptor (transfer_of asked device) (record a { device = device })

-- The descriptor at an address is read and carried out, and the address register is zero again. One that isn't wholly RAM isn't
-- read.
abbrev pub start : ℕ → Attached → Attached
start descriptor a =
    let cleared = record a { device = record a.device { address = 0 } } in
    if is_ram_range a.memory.top descriptor 16 then carry_out descriptor (descriptor_in (bytes_at a.memory descriptor 16)) cleared
    else cleared

-- the next so many bytes of the item: those from the offset on, and zeros past its end
abbrev pub next_bytes : DeviceState → ℕ → List ℕ
next_bytes d count = let there = part (holds d) d.offset count in there ++ replicate (count - length there) 0

-- Bytes are moved between the item, from its offset on, and memory.
abbrev pub move_as : Kind → ℕ → ℕ → Attached → Attached
move_as Read address count a = record {
  device = advanced a.device count;
  memory = with_bytes a.memory address (next_bytes a.device count);
}
move_as Write address count a = record a {
  device = record (advanced a.device count) {
    items = with_bytes_at a.device.items a.device.select a.device.offset (bytes_at a.memory address count);
  };
}
move_as Skip address count a = a
move_as Nothing address count a = a

-- a transfer of which so many bytes were moved is over, or is in flight
abbrev pub settle : Flight → Attached → Attached
settle flight a =
    if flight.moved == flight.transfer.length then finish flight.descriptor flight.transfer a
    else record a { device = record a.device { flight = Some flight } }

-- how many of its bytes are left to move
abbrev pub left_of : Flight → ℕ
left_of flight = flight.transfer.length - flight.moved

-- its next so many bytes are moved
abbrev pub move_by : Flight → ℕ → Attached → Attached
move_by flight count a = move_as flight.transfer.kind (flight.transfer.address + flight.moved) count a

-- The next bytes of the transfer in flight are moved, so many, or as many as are left.
abbrev pub move_next : Option Flight → ℕ → Attached → Attached
move_next None bytes a = a
move_next (Some flight) bytes a =
    let count = min bytes (left_of flight) in settle (record flight { moved = flight.moved + count }) (move_by flight count a)

abbrev pub piece : ℕ → Attached → Attached
piece bytes a = move_next a.device.flight bytes a

-- pieces of these sizes, one after the other
abbrev pub pieces : List ℕ → Attached → Attached
pieces [] a = a
pieces (bytes ∷ sizes) a = pieces sizes (piece bytes a)

-- Where a transfer is in flight, its descriptor and its range of memory are RAM.
abbrev pub CanMove : Attached → Type 0
CanMove a =
    IfSome a.device.flight (λ (flight : Flight).
    IsRamRange a.memory.top flight.descriptor 16 × IsRamRange a.memory.top flight.transfer.address flight.transfer.length)

-- how many transfers there is room for in all: those that are over, and those for which there is room
abbrev pub room_of : DeviceState → ℕ
room_of d = length d.finished + d.spare
