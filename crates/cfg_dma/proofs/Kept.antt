-- What starting and moving a transfer keep: the room for transfers, the top and the fill byte of memory, and that a transfer in flight can
-- be moved.
use Rattle.std.proofs.Common.{◌≡◌, ℕ, ◌+◌, ◌-◌, ◌<◌, ◌==◌, Bool, true, ◌&&◌, [], ◌∷◌, Option, Some, None}
use Rattle.std.proofs.Common.{arith, sym, refl, subst, ◌∙◌, length-append, min}
use Rattle.std.specs.Prelude.{IfSome}
use Rattle.std.proofs.lemmas.Bool.{cond_both, and_parts}
use Rattle.vt_bytes.specs.Memory.{IsRamRange}
use Rattle.guest_memory.specs.RamRange.{is_ram_range}
use Rattle.guest_memory.proofs.RamRuns.{ram_range_from}
use Rattle.cfg_dma.specs.declared.transfer.Kind.{Kind}
use Rattle.cfg_dma.specs.declared.transfer.Kind.TheVariants.{Read, Write, Skip, Nothing}
use Rattle.cfg_dma.specs.declared.transfer.Finished.{Finished}
use Rattle.cfg_dma.specs.declared.transfer.Flight.{Flight}
use Rattle.cfg_dma.specs.declared.descriptor.Descriptor.{Descriptor}
use Rattle.cfg_dma.specs.Device.{DeviceState, IsDevice, IsInFlight, with_selected}
use Rattle.cfg_dma.specs.Descriptor.{descriptor_in, kind_of, selects, select_of}
use Rattle.cfg_dma.specs.Transfers.{Attached, CanMove, room_of, finish, begin_moving, begin_as, may_write, transfer_of, carry_out, start, move_as}
use Rattle.cfg_dma.specs.Transfers.{settle, move_next, piece}
use Rattle.cfg_dma.specs.Events.{MayHappen, Event, happens, with_low, SelectorWritten, ByteRead, HighWritten, LowWritten, Piece}
use Rattle.vt_bytes.specs.Memory.{bytes_at}

-- one is what the other became
pub record Keeps (a b : Attached) : Type 0 where
  pub can_move : CanMove b
  pub room : room_of b.device ≡ room_of a.device
  pub opening : b.device.opening ≡ a.device.opening
  pub top : b.memory.top ≡ a.memory.top
  pub fill : b.memory.fill ≡ a.memory.fill

-- ready to start: there is room, and nothing is in flight
pub record IsReady (a : Attached) : Type 0 where
  pub room : 0 < a.device.spare
  pub idle : a.device.flight ≡ None

finish_keeps : (descriptor : ℕ) (transfer : Finished) (a : Attached) → 0 < a.device.spare → Keeps a (finish descriptor transfer a)
finish_keeps descriptor transfer a room = record {
  can_move = tt;
  room = omega (arith, length-append a.device.finished (transfer ∷ []));
  opening = refl;
  top = refl;
  fill = refl;
}

-- a device that hasn't changed, with nothing in flight
idle_keeps : (a : Attached) → a.device.flight ≡ None → CanMove a
idle_keeps a idle =
    subst (λ (o : Option Flight). IfSome o (λ (flight : Flight).
    IsRamRange a.memory.top flight.descriptor 16 × IsRamRange a.memory.top flight.transfer.address flight.transfer.length)) (sym idle) tt

begin_moving_keeps : (allowed : Bool) (descriptor : ℕ) (transfer : Finished) (a : Attached) → 0 < a.device.spare → IsRamRange a.memory.top descriptor 16
    → (allowed ≡ true → IsRamRange a.memory.top transfer.address transfer.length) → Keeps a (begin_moving allowed descriptor transfer a)
begin_moving_keeps allowed descriptor transfer a room ram range =
    cond_both (transfer.length == 0) _ _ (Keeps a) (λ _. finish_keeps descriptor transfer a room) (λ _.
    cond_both allowed _ _ (Keeps a) (λ is. record { can_move = (ram, range is); room = refl; opening = refl; top = refl; fill = refl })
    (λ _. finish_keeps descriptor (record transfer { error = true }) a room))

begin_as_keeps : (kind : Kind) (descriptor : ℕ) (transfer : Finished) (a : Attached) → 0 < a.device.spare → IsRamRange a.memory.top descriptor 16
    → Keeps a (begin_as kind descriptor transfer a)
begin_as_keeps Read descriptor transfer a room ram =
    begin_moving_keeps (is_ram_range a.memory.top transfer.address transfer.length) descriptor transfer a room ram
    (ram_range_from a.memory.top transfer.address transfer.length)
begin_as_keeps Write descriptor transfer a room ram =
    let is_ram = is_ram_range a.memory.top transfer.address transfer.length in
    begin_moving_keeps (is_ram && may_write a.device transfer.length) descriptor transfer a room ram
    (λ both. ram_range_from a.memory.top transfer.address transfer.length (and_parts is_ram (may_write a.device transfer.length) both).0)
begin_as_keeps Skip descriptor transfer a room ram =
    let kept = finish_keeps descriptor transfer a room in record { can_move = tt; room = kept.room; opening = kept.opening; top = refl; fill = refl }
begin_as_keeps Nothing descriptor transfer a room ram = finish_keeps descriptor transfer a room

carry_out_keeps : (descriptor : ℕ) (asked : Descriptor) (a : Attached) → 0 < a.device.spare → IsRamRange a.memory.top descriptor 16
    → Keeps a (carry_out descriptor asked a)
carry_out_keeps descriptor asked a room ram =
    cond_both (selects asked.control) (with_selected a.device (select_of asked.control)) a.device
    (λ (d : DeviceState). Keeps a (begin_as (kind_of asked.control) descriptor (transfer_of asked d) (record a { device = d })))
    (λ _.
    let d = with_selected a.device (select_of asked.control) in
    let kept = begin_as_keeps (kind_of asked.control) descriptor (transfer_of asked d) (record a { device = d }) room ram in
    record { can_move = kept.can_move; room = kept.room; opening = kept.opening; top = kept.top; fill = kept.fill })
    (λ _. begin_as_keeps (kind_of asked.control) descriptor (transfer_of asked a.device) a room ram)

pub start_keeps : (descriptor : ℕ) (a : Attached) → IsReady a → Keeps a (start descriptor a)
start_keeps descriptor a ready =
    let cleared = record a { device = record a.device { address = 0 } } in
    cond_both (is_ram_range a.memory.top descriptor 16) _ _ (Keeps a)
    (λ is.
    let kept = carry_out_keeps descriptor (descriptor_in (bytes_at a.memory descriptor 16)) cleared ready.room (ram_range_from a.memory.top descriptor 16 is) in
    record { can_move = kept.can_move; room = kept.room; opening = kept.opening; top = kept.top; fill = kept.fill })
    (λ _. record { can_move = idle_keeps cleared ready.idle; room = refl; opening = refl; top = refl; fill = refl })

-- ---- a piece

pub record Moved (a b : Attached) : Type 0 where
  pub room : room_of b.device ≡ room_of a.device
  pub spare : b.device.spare ≡ a.device.spare
  pub opening : b.device.opening ≡ a.device.opening
  pub top : b.memory.top ≡ a.memory.top
  pub fill : b.memory.fill ≡ a.memory.fill

pub move_keeps : (kind : Kind) (address count : ℕ) (a : Attached) → Moved a (move_as kind address count a)
move_keeps Read address count a = record { room = refl; opening = refl; spare = refl; top = refl; fill = refl }
move_keeps Write address count a = record { room = refl; opening = refl; spare = refl; top = refl; fill = refl }
move_keeps Skip address count a = record { room = refl; opening = refl; spare = refl; top = refl; fill = refl }
move_keeps Nothing address count a = record { room = refl; opening = refl; spare = refl; top = refl; fill = refl }

settle_keeps : (flight : Flight) (a : Attached) → 0 < a.device.spare → IsRamRange a.memory.top flight.descriptor 16
    → IsRamRange a.memory.top flight.transfer.address flight.transfer.length → Keeps a (settle flight a)
settle_keeps flight a room ram range =
    cond_both (flight.moved == flight.transfer.length) _ _ (Keeps a) (λ _. finish_keeps flight.descriptor flight.transfer a room)
    (λ _. record { can_move = (ram, range); room = refl; opening = refl; top = refl; fill = refl })

move_next_keeps : (o : Option Flight) (bytes : ℕ) (a : Attached) → a.device.flight ≡ o → IfSome o (λ (flight : Flight). 0 < a.device.spare)
    → IfSome o (λ (flight : Flight). IsRamRange a.memory.top flight.descriptor 16 × IsRamRange a.memory.top flight.transfer.address flight.transfer.length)
    → Keeps a (move_next o bytes a)
move_next_keeps None bytes a is room can_move = record { can_move = idle_keeps a is; room = refl; opening = refl; top = refl; fill = refl }
move_next_keeps (Some flight) bytes a is room can_move =
    let count = min bytes (flight.transfer.length - flight.moved) in
    let b = move_as flight.transfer.kind (flight.transfer.address + flight.moved) count a in
    let moved = move_keeps flight.transfer.kind (flight.transfer.address + flight.moved) count a in
    let kept = settle_keeps (record flight { moved = flight.moved + count }) b (omega (arith, moved.spare, room))
    (subst (λ top. IsRamRange top flight.descriptor 16) (sym moved.top) can_move.0)
    (subst (λ top. IsRamRange top flight.transfer.address flight.transfer.length) (sym moved.top) can_move.1) in
    record { can_move = kept.can_move; room = kept.room ∙ moved.room; opening = kept.opening ∙ moved.opening; top = kept.top ∙ moved.top; fill = kept.fill ∙ moved.fill }

has_room : (o : Option Flight) (d : DeviceState) → IfSome o (IsInFlight d) → IfSome o (λ (flight : Flight). 0 < d.spare)
has_room None d is = tt
has_room (Some flight) d is = is.room

pub piece_keeps : (bytes : ℕ) (a : Attached) → IfSome a.device.flight (IsInFlight a.device) → CanMove a → Keeps a (piece bytes a)
piece_keeps bytes a is can_move = move_next_keeps a.device.flight bytes a refl (has_room a.device.flight a.device is) can_move

-- what became of a device and memory, as they are seen
pub kept_so : (a b c : Attached) → b ≡ c → Keeps a c → Keeps a b
kept_so a b c is kept = subst (Keeps a) (sym is) kept

-- ---- any event

pub event_keeps : (e : Event) (a : Attached) → IsDevice a.device → CanMove a → MayHappen e a → Keeps a (happens e a)
event_keeps (SelectorWritten select) a device can_move may = record {
  can_move = idle_keeps (happens (SelectorWritten select) a) may;
  room = refl;
  opening = refl;
  top
      = refl;
  fill = refl;
}
event_keeps ByteRead a device can_move may = record { can_move = idle_keeps (happens ByteRead a) may; room = refl; opening = refl; top = refl; fill = refl }
event_keeps (HighWritten word) a device can_move may = record { can_move = can_move; room = refl; opening = refl; top = refl; fill = refl }
event_keeps (LowWritten word) a device can_move may = start_keeps (with_low a.device.address word) a (record { room = may.1; idle = may.0 })
event_keeps (Piece bytes) a device can_move may = piece_keeps bytes a device.flight can_move
