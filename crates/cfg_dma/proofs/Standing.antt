-- Where transfers leave a device.
use Rattle.std.proofs.Common.{◌≡◌, ℕ, ◌+◌, ◌==◌, ◌&&◌, Bool, min, inl, inr, List, [], ◌∷◌, ◌++◌, Option, Some, None, arith, refl, sym, ap, subst, ◌∙◌}
use Rattle.std.specs.Prelude.{MatchOption, IfSome, IfNone}
use Rattle.std.specs.List.{last_or}
use Rattle.std.proofs.lemmas.Bool.{cond_both}
use Rattle.vt_bytes.specs.Memory.{bytes_at, with_bytes}
use Rattle.cfg_directory.specs.declared.item.Item.{Item}
use Rattle.guest_memory.specs.RamRange.{is_ram_range}
use Rattle.cfg_dma.specs.declared.transfer.Kind.{Kind}
use Rattle.cfg_dma.specs.declared.transfer.Kind.TheVariants.{Read, Write, Skip, Nothing}
use Rattle.cfg_dma.specs.declared.transfer.Finished.{Finished}
use Rattle.cfg_dma.specs.declared.transfer.Flight.{Flight}
use Rattle.cfg_dma.specs.Device.{DeviceState, StandsBehind, StandsWhereLeft, with_selected}
use Rattle.cfg_dma.specs.Descriptor.{descriptor_in, kind_of, selects, select_of}
use Rattle.cfg_dma.specs.Transfers.{Attached, begin_moving, begin_as, carry_out, transfer_of, move_as, move_next, settle, left_of, piece, may_write}
use Rattle.cfg_dma.specs.Events.{happens, HighWritten, with_low}
use Rattle.cfg_dma.specs.Reads.{IsAwaited, descriptor_bytes, started}
use Rattle.cfg_dma.specs.Writes.{IsSkipped, IsWriteAwaited, skip_of}

-- ---- the address register

-- a transfer that begins leaves it
begins_at : (address : ℕ) (allowed : Bool) (descriptor : ℕ) (transfer : Finished) (a : Attached) → a.device.address ≡ address
    → (begin_moving allowed descriptor transfer a).device.address ≡ address
begins_at address allowed descriptor transfer a is =
    cond_both (transfer.length == 0) _ _ (λ (b : Attached). b.device.address ≡ address) (λ _. is)
    (λ _. cond_both allowed _ _ (λ (b : Attached). b.device.address ≡ address) (λ _. is) (λ _. is))

begins_as : (address : ℕ) (kind : Kind) (descriptor : ℕ) (transfer : Finished) (a : Attached) → a.device.address ≡ address
    → (begin_as kind descriptor transfer a).device.address ≡ address
begins_as address Read descriptor transfer a is =
    begins_at address (is_ram_range a.memory.top transfer.address transfer.length) descriptor transfer a is
begins_as address Write descriptor transfer a is =
    begins_at address (is_ram_range a.memory.top transfer.address transfer.length && may_write a.device transfer.length) descriptor transfer a is
begins_as address Skip descriptor transfer a is = is
begins_as address Nothing descriptor transfer a is = is

-- once its transfer is started it is 0
pub started_address : (descriptor control size address : ℕ) (a : Attached) → (started descriptor control size address a).device.address ≡ 0
started_address descriptor control size address a =
    let written : Attached = happens (HighWritten 0)
    (record a { memory = with_bytes a.memory descriptor (descriptor_bytes control size address) }) in
    let cleared : Attached = record written { device = record written.device { address = 0 } } in
    let at : ℕ = with_low written.device.address descriptor in
    let asked = descriptor_in (bytes_at written.memory at 16) in
    cond_both (is_ram_range written.memory.top at 16) (carry_out at asked cleared) cleared (λ (b : Attached). b.device.address ≡ 0)
    (λ _.
    cond_both (selects asked.control) (with_selected cleared.device (select_of asked.control)) cleared.device
    (λ (d : DeviceState). (begin_as (kind_of asked.control) at (transfer_of asked d) (record cleared { device = d })).device.address ≡ 0)
    (λ _. begins_as 0 (kind_of asked.control) at _ _ refl) (λ _. begins_as 0 (kind_of asked.control) at _ _ refl))
    (λ _. refl)

-- a piece leaves it
moved_address : (kind : Kind) (address count : ℕ) (a : Attached) → (move_as kind address count a).device.address ≡ a.device.address
moved_address Read address count a = refl
moved_address Write address count a = refl
moved_address Skip address count a = refl
moved_address Nothing address count a = refl

settled_address : (flight : Flight) (a : Attached) → (settle flight a).device.address ≡ a.device.address
settled_address flight a =
    cond_both (flight.moved == flight.transfer.length) _ _ (λ (b : Attached). b.device.address ≡ a.device.address) (λ _. refl) (λ _. refl)

next_address : (o : Option Flight) (bytes : ℕ) (a : Attached) → (move_next o bytes a).device.address ≡ a.device.address
next_address None bytes a = refl
next_address (Some flight) bytes a =
    let count = min bytes (left_of flight) in
    let place = flight.transfer.address + flight.moved in
    settled_address (record flight { moved = flight.moved + count }) (move_as flight.transfer.kind place count a)
    ∙ moved_address flight.transfer.kind place count a

pub piece_address : (bytes : ℕ) (a : Attached) → (piece bytes a).device.address ≡ a.device.address
piece_address bytes a = next_address a.device.flight bytes a

-- ---- the item that is selected, and the offset

-- the last of a list
pub last_is : {A : Type 0} (first : Option A) (xs : List A) (x : A) → last_or first (xs ++ x ∷ []) ≡ Some x
last_is first [] x = refl
last_is first (y ∷ xs) x = last_is (Some y) xs x

-- as far as a transfer has come that is in flight
in_flight_stands : (d : DeviceState) (flight : Flight) → d.flight ≡ Some flight → d.select ≡ flight.transfer.select
    → d.offset ≡ flight.transfer.offset + flight.moved → d.address ≡ 0 → StandsWhereLeft d
in_flight_stands d flight is selected offset address = record {
  address = address;
  moving = subst (λ (o : Option Flight). IfSome o (λ (f : Flight). StandsBehind f.transfer f.moved d)) (sym is) (selected, offset);
  idle = subst (λ (o : Option Flight). IfNone o
      (MatchOption (last_or None d.finished) ((d.select ≡ 0) × (d.offset ≡ 0)) (λ (t : Finished). StandsBehind t t.length d))) (sym is) tt;
}

-- behind one that is over
over_stands : (d : DeviceState) (before : List Finished) (transfer : Finished) → d.flight ≡ None → d.finished ≡ before ++ transfer ∷ []
    → d.select ≡ transfer.select → d.offset ≡ transfer.offset + transfer.length → d.address ≡ 0 → StandsWhereLeft d
over_stands d before transfer idle finished selected offset address =
    let last : last_or None d.finished ≡ Some transfer = ap (last_or None) finished ∙ last_is None before transfer in
    record {
      address = address;
      moving = subst (λ (o : Option Flight). IfSome o (λ (f : Flight). StandsBehind f.transfer f.moved d)) (sym idle) tt;
      idle = subst (λ (o : Option Flight). IfNone o
          (MatchOption (last_or None d.finished) ((d.select ≡ 0) × (d.offset ≡ 0)) (λ (t : Finished). StandsBehind t t.length d))) (sym idle)
          (subst (λ (o : Option Finished). MatchOption o ((d.select ≡ 0) × (d.offset ≡ 0)) (λ (t : Finished). StandsBehind t t.length d)) (sym last)
          (selected, offset));
    }

-- so for a read, a skip and a write of a firmware
pub read_stands : (items : List Item) (before : List Finished) (descriptor control : ℕ) (transfer : Finished) (a : Attached)
    → IsAwaited items before descriptor control transfer a → a.device.address ≡ 0 → StandsWhereLeft a.device
read_stands items before descriptor control transfer a awaited address = elim awaited as (λ _. StandsWhereLeft a.device) [
  | inl moving ↦ in_flight_stands a.device _ moving.flight moving.selected moving.offset address
  | inr over ↦ over_stands a.device before transfer over.idle over.finished over.selected over.offset address
]

pub skip_stands : (before : List Finished) (descriptor select count : ℕ) (a : Attached) → IsSkipped before descriptor select count a
    → a.device.address ≡ 0 → StandsWhereLeft a.device
skip_stands before descriptor select count a skipped address =
    over_stands a.device before (skip_of select count) skipped.idle skipped.finished skipped.selected (skipped.offset ∙ omega arith) address

pub write_stands : (items : List Item) (bytes : List ℕ) (before : List Finished) (descriptor : ℕ) (transfer : Finished) (a : Attached)
    → IsWriteAwaited items bytes before descriptor transfer a → a.device.address ≡ 0 → StandsWhereLeft a.device
write_stands items bytes before descriptor transfer a awaited address = elim awaited as (λ _. StandsWhereLeft a.device) [
  | inl writing ↦ in_flight_stands a.device _ writing.flight writing.selected writing.offset address
  | inr written ↦ over_stands a.device before transfer written.idle written.finished written.selected written.offset address
]
