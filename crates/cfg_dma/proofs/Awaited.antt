-- What a piece of a transfer leaves. A read that is awaited goes on, piece by piece, until it is over.
use Rattle.std.proofs.Common.{◌⊎◌, ◌≡◌, ℕ, ◌+◌, ◌-◌, ◌≤◌, ◌<◌, List, [], ◌∷◌, ◌++◌, length, take, drop, cond, Option, Some, None}
use Rattle.std.proofs.Common.{◌==◌, min, inl, inr, arith, sym, refl, ap, ap₂, subst, ◌∙◌, length-append}
use Rattle.std.specs.Prelude.{IfSome}
use Rattle.std.proofs.lemmas.Bool.{cases_lt, cond_both, eqb-false}
use Rattle.std.proofs.lemmas.List.{places, same_lists, take_all}
use Rattle.vt_bytes.specs.Memory.{Memory, IsRam, IsRamRange, IsMemory, at, with_bytes, bytes_at}
use Rattle.vt_bytes.specs.Numbers.{be, be_bytes}
use Rattle.vt_bytes.proofs.Bytes.{length-bytes_at, bytes_at-parts, bytes_at-same}
use Rattle.vt_bytes.proofs.Memories.{bytes_with, others_with, lawful_with}
use Rattle.guest_memory.proofs.Runs.{take-pieces}
use Rattle.cfg_directory.specs.declared.item.Item.{Item}
use Rattle.cfg_directory.specs.Items.{IsItems}
use Rattle.cfg_dma.specs.declared.transfer.Finished.{Finished}
use Rattle.cfg_dma.specs.declared.transfer.Flight.{Flight}
use Rattle.cfg_dma.specs.declared.transfer.Kind.{Kind}
use Rattle.cfg_dma.specs.declared.transfer.Kind.TheVariants.{Read, Write, Skip, Nothing}
use Rattle.cfg_dma.specs.Device.{DeviceState, IsDevice, IsInFlight, LieInFile, FitsIn, contents, holds}
use Rattle.cfg_dma.specs.Transfers.{Attached, attached, left_of, finish, move_as, move_by, move_next, piece}
use Rattle.cfg_dma.specs.Reads.{CanRead, IsMoving, IsOver, IsAwaited, GoesOn, IsBesideRead, moved_by, descriptor_bytes}
use Rattle.cfg_dma.proofs.Written.{fits_less, length-contents, put_lawful}
use Rattle.cfg_dma.proofs.Moved.{next_of, memory_fits, goes_on as flight_goes_on}
use Rattle.cfg_dma.proofs.Kept.{Moved, move_keeps}
use Rattle.cfg_dma.proofs.Pieces.{with_flight, length-next_of, ends, goes_on, beside}

-- ---- memory that holds what was moved

-- within an item its next bytes are a part of those that a read moves
next_within : (bytes : List ℕ) (offset moved size count : ℕ) → offset + size ≤ length bytes → moved + count ≤ size
    → next_of bytes (offset + moved) count ≡ take count (drop moved (take size (drop offset bytes)))
next_within bytes offset moved size count within below = same_lists _ _ (grind (arith, places)) (λ i d h. grind (arith, places))

-- a read moves as many bytes as it asks for
length_moved : (bytes : List ℕ) (offset size : ℕ) → offset + size ≤ length bytes → length (take size (drop offset bytes)) ≡ size
length_moved bytes offset size within = grind (arith, places)

-- a range of RAM from one of its places on
ram_from_place : (top address moved count size : ℕ) → IsRamRange top address size → moved + count ≤ size → IsRamRange top (address + moved) count
ram_from_place top address moved count size ram within = λ i below.
    let next : address + (moved + i) ≡ address + moved + i = omega arith in subst (IsRam top) next (ram (moved + i) (omega arith))

-- bytes before those that are put stay
front_kept : (m : Memory) (address moved : ℕ) (bytes : List ℕ) → IsMemory m
    → bytes_at (with_bytes m (address + moved) bytes) address moved ≡ bytes_at m address moved
front_kept m address moved bytes lawful =
    bytes_at-same (with_bytes m (address + moved) bytes) m address moved
    (λ i below. others_with m (address + moved) bytes (address + i) lawful (inl (omega arith)))

-- memory that holds the first bytes holds more of them once the next ones are put behind
held_more : (m : Memory) (address moved count : ℕ) (all more : List ℕ) → IsMemory m → IsRamRange m.top (address + moved) count → length more ≡ count
    → bytes_at m address moved ≡ take moved all → more ≡ take count (drop moved all) → moved + count ≤ length all
    → bytes_at (with_bytes m (address + moved) more) address (moved + count) ≡ take (moved + count) all
held_more m address moved count all more lawful ram size so_far next within =
    let now = with_bytes m (address + moved) more in
    let back : bytes_at now (address + moved) count ≡ more =
    subst (λ n. bytes_at now (address + moved) n ≡ more) size
    (bytes_with m (address + moved) more lawful (subst (λ n. IsRamRange m.top (address + moved) n) (sym size) ram)) in
    bytes_at-parts now address moved count
    ∙ ap₂ (λ (front back : List ℕ). front ++ back) (front_kept m address moved more lawful ∙ so_far) (back ∙ next)
    ∙ sym (take-pieces all moved count within)

-- ---- the bytes that are moved

-- So many bytes of a read were moved: memory holds them, and the device is behind them.
record HasMoved (items : List Item) (before : List Finished) (transfer : Finished) (moved : ℕ) (a : Attached) : Type 0 where
  held : bytes_at a.memory transfer.address moved ≡ take moved (moved_by items transfer)
  selected : a.device.select ≡ transfer.select
  offset : a.device.offset ≡ transfer.offset + moved
  finished : a.device.finished ≡ before

-- more of them are moved
moved_more : (a : Attached) (before : List Finished) (descriptor : ℕ) (transfer : Finished) (moved count : ℕ) → IsMemory a.memory
    → CanRead a.device.items a.memory.top descriptor transfer → HasMoved a.device.items before transfer moved a → moved + count ≤ transfer.length
    → HasMoved a.device.items before transfer (moved + count) (move_as Read (transfer.address + moved) count a)
moved_more a before descriptor transfer moved count memory can has below =
    let bytes = contents a.device.items transfer.select in
    let more = next_of (holds a.device) a.device.offset count in
    let there : holds a.device ≡ bytes = ap (contents a.device.items) has.selected in
    let next : more ≡ take count (drop moved (moved_by a.device.items transfer)) =
    ap₂ (λ (all : List ℕ) (offset : ℕ). next_of all offset count) there has.offset
    ∙ next_within bytes transfer.offset moved transfer.length count can.within below in
    let size = length_moved bytes transfer.offset transfer.length can.within in
    let within : moved + count ≤ length (moved_by a.device.items transfer) = omega (arith, size) in
    record {
      held = held_more a.memory transfer.address moved count (moved_by a.device.items transfer) more memory
          (ram_from_place a.memory.top transfer.address moved count transfer.length can.ram below)
          (length-next_of (holds a.device) a.device.offset count) has.held next within;
      selected = has.selected;
      offset = let place = has.offset in let in_item = can.within in omega (arith, ap length there);
      finished = has.finished;
    }

-- what so many bytes of a read leave of the rest of memory
moved_beside : (a : Attached) (transfer : Finished) (moved count address : ℕ) → IsMemory a.memory → moved + count ≤ transfer.length
    → (address < transfer.address) ⊎ (transfer.address + transfer.length ≤ address)
    → at (move_as Read (transfer.address + moved) count a).memory address ≡ at a.memory address
moved_beside a transfer moved count address memory below other =
    let start = transfer.address + moved in
    let away : (address < start) ⊎ (start + count ≤ address) =
    elim other as (λ _. (address < start) ⊎ (start + count ≤ address)) [ inl l ↦ inl (omega arith) | inr l ↦ inr (omega arith) ] in
    beside Read a.device a.memory start count address memory away

-- ---- all around a transfer

-- What moving bytes keeps, whatever is in flight: the items and the offset of a device are lawful, and so is memory.
pub record IsLawful (a : Attached) : Type 0 where
  pub items : IsItems a.device.items
  pub offset : a.device.offset ≤ length (holds a.device)
  pub memory : IsMemory a.memory

move_lawful : (kind : Kind) (d : DeviceState) (m : Memory) (address count left : ℕ) → IsLawful (attached d m) → (kind ≡ Write → LieInFile d left)
    → count ≤ left → IsLawful (move_as kind address count (attached d m))
move_lawful Skip d m address count left lawful fits below = lawful
move_lawful Nothing d m address count left lawful fits below = lawful
move_lawful Read d m address count left lawful fits below = record {
  items = lawful.items;
  offset = omega arith;
  memory = lawful_with m address (next_of (holds d) d.offset count) lawful.memory;
}
move_lawful Write d m address count left lawful fits below =
    let bytes = bytes_at m address count in
    let size = length-bytes_at m address count in
    let all : FitsIn d.items d.select (d.offset + left) = fits refl in
    let fit = memory_fits d.items m d.select d.offset address count left lawful.items.distinct all below in
    record {
      items = put_lawful d.items d.select d.offset bytes lawful.items
          (fits_less d.items d.select (d.offset + length bytes) (d.offset + left) (omega arith) all);
      offset = omega (arith, length-contents d.items d.select d.offset d.select bytes fit);
      memory = lawful.memory;
    }

-- the word that says how a transfer ended
abbrev pub end_word : Finished → ℕ
end_word transfer = cond transfer.error 1 0

-- all around goes on once a transfer is over
pub over_goes_on : (a b : Attached) (descriptor : ℕ) (transfer : Finished) → IsLawful b → Moved a b → 0 < a.device.spare
    → GoesOn a (finish descriptor transfer b)
over_goes_on a b descriptor transfer lawful moved room = record {
  room = let same = moved.room in let spare = moved.spare in omega (arith, length-append b.device.finished (transfer ∷ []));
  opening = moved.opening;
  device = record { items = lawful.items; offset = lawful.offset; flight = tt };
  memory = lawful_with b.memory descriptor (be_bytes 4 (end_word transfer)) lawful.memory;
  top = moved.top;
  fill = moved.fill;
}

-- and over any piece
next_goes_on : (o : Option Flight) (bytes : ℕ) (a : Attached) → IsDevice a.device → IsMemory a.memory → IfSome o (IsInFlight a.device)
    → GoesOn a (move_next o bytes a)
next_goes_on None bytes a device memory is = record { room = refl; opening = refl; device = device; memory = memory; top = refl; fill = refl }
next_goes_on (Some flight) bytes a device memory is =
    let kind = flight.transfer.kind in
    let start = flight.transfer.address + flight.moved in
    let count = min bytes (left_of flight) in
    let b = move_by flight count a in
    let moved = move_keeps kind start count a in
    let before : IsLawful a = record { items = device.items; offset = device.offset; memory = memory } in
    let lawful = move_lawful kind a.device a.memory start count (left_of flight) before is.fits (omega arith) in
    cond_both (flight.moved + count == flight.transfer.length) _ _ (GoesOn a)
    (λ _. over_goes_on a b flight.descriptor flight.transfer lawful moved is.room) (λ unfinished.
    let on = flight_goes_on a.device b.device a.memory b.memory flight start count device.items is (omega arith) refl
    (eqb-false (flight.moved + count) flight.transfer.length unfinished) in
    record {
      room = moved.room;
      opening = moved.opening;
      device = record {
        items = lawful.items;
        offset = lawful.offset;
        flight = record { moves = on.moves; left = on.left; fits = on.fits; writable = on.writable; room = on.room };
      };
      memory = lawful.memory;
      top = moved.top;
      fill = moved.fill;
    })

pub piece_goes_on : (bytes : ℕ) (a : Attached) → IsDevice a.device → IsMemory a.memory → GoesOn a (piece bytes a)
piece_goes_on bytes a device memory = next_goes_on a.device.flight bytes a device memory device.flight

-- ---- a transfer that goes on, and one that is over

-- a transfer in flight of which so many bytes were moved
abbrev pub flight_of : ℕ → Finished → ℕ → Flight
flight_of descriptor transfer moved = record { descriptor = descriptor; transfer = transfer; moved = moved }

-- bytes are moved, and some are left
abbrev pub moved_on : Kind → ℕ → Finished → ℕ → ℕ → Attached → Attached
moved_on kind descriptor transfer moved count a =
    with_flight (move_as kind (transfer.address + moved) count a) (Some (flight_of descriptor transfer (moved + count)))

-- all that is left is moved, and the transfer is over
abbrev pub moved_whole : Kind → ℕ → Finished → ℕ → Attached → Attached
moved_whole kind descriptor transfer moved a =
    finish descriptor transfer (move_as kind (transfer.address + moved) (transfer.length - moved) a)

-- a device without a transfer leaves all as it was
pub piece_idle : (bytes : ℕ) (a : Attached) → a.device.flight ≡ None → piece bytes a ≡ a
piece_idle bytes a idle = ap (λ (o : Option Flight). move_next o bytes a) idle

-- what a piece is while fewer bytes are moved than are left
pub piece_fewer : (kind : Kind) (a : Attached) (descriptor bytes : ℕ) (transfer : Finished) (moved : ℕ) → transfer.kind ≡ kind
    → a.device.flight ≡ Some (flight_of descriptor transfer moved) → moved + bytes < transfer.length
    → piece bytes a ≡ moved_on kind descriptor transfer moved bytes a
piece_fewer kind a descriptor bytes transfer moved its is left =
    ap (λ (o : Option Flight). move_next o bytes a) is ∙ goes_on (flight_of descriptor transfer moved) bytes a (omega arith)
    ∙ ap (λ (kind : Kind). moved_on kind descriptor transfer moved bytes a) its

-- and what it is where none are left
pub piece_last : (kind : Kind) (a : Attached) (descriptor bytes : ℕ) (transfer : Finished) (moved : ℕ) → transfer.kind ≡ kind
    → a.device.flight ≡ Some (flight_of descriptor transfer moved) → moved < transfer.length → transfer.length ≤ moved + bytes
    → piece bytes a ≡ moved_whole kind descriptor transfer moved a
piece_last kind a descriptor bytes transfer moved its is some enough =
    ap (λ (o : Option Flight). move_next o bytes a) is ∙ ends (flight_of descriptor transfer moved) bytes a some (omega arith)
    ∙ ap (λ (kind : Kind). moved_whole kind descriptor transfer moved a) its

-- a control word of zero is written
pub word_cleared : (m : Memory) (descriptor word : ℕ) → IsMemory m → IsRamRange m.top descriptor 16 → word ≡ 0
    → be (bytes_at (with_bytes m descriptor (be_bytes 4 word)) descriptor 4) ≡ 0
word_cleared m descriptor word memory ram none =
    ap be (bytes_with m descriptor (be_bytes 4 word) memory (λ i below. ram i (omega arith))) ∙ ap (λ n. be (be_bytes 4 n)) none

-- memory beside a descriptor stays as bytes are written into it
pub beside_stays : (m : Memory) (descriptor : ℕ) (bytes : List ℕ) (address : ℕ) → IsMemory m → length bytes ≤ 16
    → (address < descriptor) ⊎ (descriptor + 16 ≤ address) → at (with_bytes m descriptor bytes) address ≡ at m address
beside_stays m descriptor bytes address memory few other =
    others_with m descriptor bytes address memory
    (elim other as (λ _. (address < descriptor) ⊎ (descriptor + length bytes ≤ address)) [ inl l ↦ inl l | inr l ↦ inr (omega arith) ])

pub range_stays : (m : Memory) (descriptor : ℕ) (bytes : List ℕ) (address count : ℕ) → IsMemory m → length bytes ≤ 16
    → (address + count ≤ descriptor) ⊎ (descriptor + 16 ≤ address) → bytes_at (with_bytes m descriptor bytes) address count ≡ bytes_at m address count
range_stays m descriptor bytes address count memory few apart =
    bytes_at-same (with_bytes m descriptor bytes) m address count (λ i below.
    beside_stays m descriptor bytes (address + i) memory few
    (elim apart as (λ _. (address + i < descriptor) ⊎ (descriptor + 16 ≤ address + i)) [ inl l ↦ inl (omega arith) | inr l ↦ inr (omega arith) ]))

-- ---- a read that goes on

-- what holds of a read, and of what it leaves, once a piece has moved
abbrev MovesOn : List Finished → ℕ → ℕ → Finished → Attached → Attached → Type 0
MovesOn before descriptor control transfer a b =
    IsAwaited a.device.items before descriptor control transfer b × (b.device.items ≡ a.device.items)
    × ((address : ℕ) → IsBesideRead address descriptor transfer → at b.memory address ≡ at a.memory address)

-- a descriptor of which the read moves no byte stays
descriptor_kept : (a : Attached) (descriptor : ℕ) (transfer : Finished) (moved count : ℕ) → IsMemory a.memory
    → (transfer.address + transfer.length ≤ descriptor) ⊎ (descriptor + 16 ≤ transfer.address) → moved + count ≤ transfer.length
    → bytes_at (move_as Read (transfer.address + moved) count a).memory descriptor 16 ≡ bytes_at a.memory descriptor 16
descriptor_kept a descriptor transfer moved count memory apart below =
    bytes_at-same (move_as Read (transfer.address + moved) count a).memory a.memory descriptor 16 (λ i few.
    moved_beside a transfer moved count (descriptor + i) memory below
    (elim apart as (λ _. (descriptor + i < transfer.address) ⊎ (transfer.address + transfer.length ≤ descriptor + i))
    [ inl l ↦ inr (omega arith) | inr l ↦ inl (omega arith) ]))

-- fewer bytes than are left are moved: it is awaited still
goes_on_still : (a : Attached) (before : List Finished) (descriptor control count : ℕ) (transfer : Finished) (moved : ℕ) → IsMemory a.memory
    → CanRead a.device.items a.memory.top descriptor transfer → HasMoved a.device.items before transfer moved a
    → bytes_at a.memory descriptor 16 ≡ descriptor_bytes control transfer.length transfer.address → moved + count < transfer.length
    → MovesOn before descriptor control transfer a (moved_on Read descriptor transfer moved count a)
goes_on_still a before descriptor control count transfer moved memory can has written left =
    let below : moved + count ≤ transfer.length = omega arith in
    let more = moved_more a before descriptor transfer moved count memory can has below in (
      inl (record {
        moved = moved + count;
        flight = refl;
        some_left = left;
        held = more.held;
        written = descriptor_kept a descriptor transfer moved count memory can.beside below ∙ written;
        selected = more.selected;
        offset = more.offset;
        finished = more.finished;
      }),
      refl,
      λ address other. moved_beside a transfer moved count address memory below other.1,
    )

-- ---- a read that is over

-- the read is over
is_over : (a : Attached) (before : List Finished) (descriptor : ℕ) (transfer : Finished) (moved : ℕ) → IsMemory a.memory
    → CanRead a.device.items a.memory.top descriptor transfer → HasMoved a.device.items before transfer moved a → moved < transfer.length
    → IsOver a.device.items before descriptor transfer (moved_whole Read descriptor transfer moved a)
is_over a before descriptor transfer moved memory can has some =
    let count = transfer.length - moved in
    let b = move_as Read (transfer.address + moved) count a in
    let bytes = moved_by a.device.items transfer in
    let all : moved + count ≡ transfer.length = omega arith in
    let below : moved + count ≤ transfer.length = omega arith in
    let more = moved_more a before descriptor transfer moved count memory can has below in
    let lawful = lawful_with a.memory (transfer.address + moved) (next_of (holds a.device) a.device.offset count) memory in
    let size = length_moved (contents a.device.items transfer.select) transfer.offset transfer.length can.within in
    let held : bytes_at b.memory transfer.address transfer.length ≡ bytes =
    subst (λ n. bytes_at b.memory transfer.address n ≡ take n bytes) all more.held ∙ take_all transfer.length bytes (omega arith) in
    record {
      idle = refl;
      held = range_stays b.memory descriptor (be_bytes 4 (end_word transfer)) transfer.address transfer.length lawful (omega arith) can.beside ∙ held;
      control = word_cleared b.memory descriptor (end_word transfer) lawful can.descriptor_ram (ap (λ failed. cond failed 1 0) can.sound);
      selected = more.selected;
      offset = let place = more.offset in omega (arith, place, all);
      finished = ap (λ (transfers : List Finished). transfers ++ transfer ∷ []) has.finished;
    }

-- memory beside it stays
over_beside : (a : Attached) (descriptor : ℕ) (transfer : Finished) (moved address : ℕ) → IsMemory a.memory → moved < transfer.length
    → IsBesideRead address descriptor transfer → at (moved_whole Read descriptor transfer moved a).memory address ≡ at a.memory address
over_beside a descriptor transfer moved address memory some other =
    let count = transfer.length - moved in
    let lawful = lawful_with a.memory (transfer.address + moved) (next_of (holds a.device) a.device.offset count) memory in
    beside_stays (move_as Read (transfer.address + moved) count a).memory descriptor (be_bytes 4 (end_word transfer)) address lawful (omega arith) other.0
    ∙ moved_beside a transfer moved count address memory (omega arith) other.1

-- ---- any piece

-- what was moved of a read that isn't over
moved_of : (items : List Item) (before : List Finished) (descriptor control : ℕ) (transfer : Finished) (a : Attached)
    → (moving : IsMoving items before descriptor control transfer a) → HasMoved items before transfer moving.moved a
moved_of items before descriptor control transfer a moving =
    record { held = moving.held; selected = moving.selected; offset = moving.offset; finished = moving.finished }

-- a read that isn't over, over a piece
moving_moves_on : (a : Attached) (before : List Finished) (descriptor control bytes : ℕ) (transfer : Finished) → IsMemory a.memory
    → CanRead a.device.items a.memory.top descriptor transfer → IsMoving a.device.items before descriptor control transfer a
    → MovesOn before descriptor control transfer a (piece bytes a)
moving_moves_on a before descriptor control bytes transfer memory can moving =
    let moved = moving.moved in
    let has = moved_of a.device.items before descriptor control transfer a moving in
    elim (cases_lt (moved + bytes) transfer.length) as (λ _. MovesOn before descriptor control transfer a (piece bytes a)) [
      | inl left ↦
          subst (MovesOn before descriptor control transfer a) (sym (piece_fewer Read a descriptor bytes transfer moved can.kind moving.flight left))
          (goes_on_still a before descriptor control bytes transfer moved memory can has moving.written left)
      | inr enough ↦
          subst (MovesOn before descriptor control transfer a)
          (sym (piece_last Read a descriptor bytes transfer moved can.kind moving.flight moving.some_left enough)) (
            inr (is_over a before descriptor transfer moved memory can has moving.some_left),
            refl,
            λ address other. over_beside a descriptor transfer moved address memory moving.some_left other,
          )
    ]

-- A read that is awaited stays so over any piece, until it is over, and a piece changes memory in its range and its descriptor alone.
pub read_moves_on : (a : Attached) (before : List Finished) (descriptor control bytes : ℕ) (transfer : Finished) → IsDevice a.device → IsMemory a.memory
    → CanRead a.device.items a.memory.top descriptor transfer → IsAwaited a.device.items before descriptor control transfer a
    → IsAwaited a.device.items before descriptor control transfer (piece bytes a) × GoesOn a (piece bytes a)
    × ((piece bytes a).device.items ≡ a.device.items)
    × ((address : ℕ) → IsBesideRead address descriptor transfer → at (piece bytes a).memory address ≡ at a.memory address)
read_moves_on a before descriptor control bytes transfer device memory can awaited =
    let moves : MovesOn before descriptor control transfer a (piece bytes a) =
    elim awaited as (λ _. MovesOn before descriptor control transfer a (piece bytes a)) [
      | inl moving ↦ moving_moves_on a before descriptor control bytes transfer memory can moving
      | inr over ↦
          subst (MovesOn before descriptor control transfer a) (sym (piece_idle bytes a over.idle)) (inr over, refl, λ address other. refl)
    ] in
    (moves.0, piece_goes_on bytes a device memory, moves.1, moves.2)

-- a piece of as many bytes as an awaited read asks for ends it
pub whole_piece : (a : Attached) (before : List Finished) (descriptor control bytes : ℕ) (transfer : Finished) → IsDevice a.device → IsMemory a.memory
    → CanRead a.device.items a.memory.top descriptor transfer → IsAwaited a.device.items before descriptor control transfer a → transfer.length ≤ bytes
    → IsOver a.device.items before descriptor transfer (piece bytes a)
whole_piece a before descriptor control bytes transfer device memory can awaited enough =
    elim awaited as (λ _. IsOver a.device.items before descriptor transfer (piece bytes a)) [
      | inl moving ↦
          let has = moved_of a.device.items before descriptor control transfer a moving in
          subst (IsOver a.device.items before descriptor transfer)
          (sym (piece_last Read a descriptor bytes transfer moving.moved can.kind moving.flight moving.some_left (omega arith)))
          (is_over a before descriptor transfer moving.moved memory can has moving.some_left)
      | inr over ↦ subst (IsOver a.device.items before descriptor transfer) (sym (piece_idle bytes a over.idle)) over
    ]

-- ---- another memory

-- a read is awaited as well over a memory that holds the same in its descriptor and its range
pub awaited_same : (items : List Item) (before : List Finished) (descriptor control : ℕ) (transfer : Finished) (a : Attached) (m : Memory)
    → IsAwaited items before descriptor control transfer a → m.top ≡ a.memory.top
    → ((i : ℕ) → i < 16 → at m (descriptor + i) ≡ at a.memory (descriptor + i))
    → ((i : ℕ) → i < transfer.length → at m (transfer.address + i) ≡ at a.memory (transfer.address + i))
    → IsAwaited items before descriptor control transfer (record a { memory = m })
awaited_same items before descriptor control transfer a m awaited top words range =
    let word : bytes_at m descriptor 4 ≡ bytes_at a.memory descriptor 4 = bytes_at-same m a.memory descriptor 4 (λ i few. words i (omega arith)) in
    elim awaited as (λ _. IsAwaited items before descriptor control transfer (record a { memory = m })) [
      | inl moving ↦
          let some_left = moving.some_left in
          inl (record {
            moved = moving.moved;
            flight = moving.flight;
            some_left = moving.some_left;
            held = bytes_at-same m a.memory transfer.address moving.moved (λ i below. range i (omega arith)) ∙ moving.held;
            written = bytes_at-same m a.memory descriptor 16 words ∙ moving.written;
            selected = moving.selected;
            offset = moving.offset;
            finished = moving.finished;
          })
      | inr over ↦
          inr (record {
            idle = over.idle;
            held = bytes_at-same m a.memory transfer.address transfer.length range ∙ over.held;
            control = ap be word ∙ over.control;
            selected = over.selected;
            offset = over.offset;
            finished = over.finished;
          })
    ]
