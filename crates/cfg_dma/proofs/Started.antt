-- A transfer that is asked for is started, and a read is in flight then.
use Rattle.std.proofs.Common.{◌≡◌, ℕ, ◌+◌, ◌*◌, ◌^◌, ◌≤◌, ◌<◌, ◌==◌, ◌-◌, Bool, true, false, not, cond, List, length, take, Some, None}
use Rattle.std.proofs.Common.{inl, inr, arith, sym, refl, ap, ap₂, subst, ◌∙◌}
use Rattle.std.specs.Int.RustNames.{bit_and}
use Rattle.std.specs.Int.Bits.{and_block}
use Rattle.std.proofs.lemmas.Nat.{and_le_r}
use Rattle.std.proofs.lemmas.List.{reverse-reverse}
use Rattle.std.proofs.lemmas.Bool.{cond-true, cond-false, ne_eqb}
use Rattle.vt_bytes.specs.Memory.{Memory, IsTop, IsRamRange, IsMemory, with_bytes, bytes_at}
use Rattle.vt_bytes.specs.Numbers.{le, be, le_bytes, be_bytes}
use Rattle.vt_bytes.proofs.Numbers.{le-le_bytes}
use Rattle.vt_bytes.proofs.Bytes.{take-bytes_at, bytes_at-none}
use Rattle.vt_bytes.proofs.Memories.{bytes_with, lawful_with}
use Rattle.guest_memory.specs.RamRange.{is_ram_range}
use Rattle.guest_memory.proofs.RamRuns.{ram_range_passes}
use Rattle.cfg_directory.specs.declared.item.Item.{Item}
use Rattle.cfg_dma.specs.declared.descriptor.Descriptor.{Descriptor}
use Rattle.cfg_dma.specs.declared.transfer.Finished.{Finished}
use Rattle.cfg_dma.specs.declared.transfer.Kind.{Kind}
use Rattle.cfg_dma.specs.declared.transfer.Kind.TheVariants.{Read, Write, Skip, Nothing}
use Rattle.cfg_dma.specs.Descriptor.{descriptor_in, kind_of, has_bit, selects, select_of}
use Rattle.cfg_dma.specs.Device.{DeviceState, IsDevice, IsWritable, Moves, FitsIn, contents, with_selected}
use Rattle.cfg_dma.specs.Transfers.{Attached, attached, begin_moving, begin_as, transfer_of, carry_out, start}
use Rattle.cfg_dma.specs.Events.{with_high, with_low}
use Rattle.cfg_dma.specs.Reads.{CanRead, AsksFor, IsMoving, GoesOn, next_read, descriptor_bytes, started}
use Rattle.cfg_dma.proofs.Written.{fits_less}
use Rattle.cfg_dma.proofs.Runs.{ram_below}

-- ---- the descriptor

-- numbers come back from their bytes
be_four : (n : ℕ) → n < 2 ^ 32 → be (be_bytes 4 n) ≡ n
be_four n below = ap le (reverse-reverse (le_bytes 4 n)) ∙ le-le_bytes 4 n below

be_eight : (n : ℕ) → n < 2 ^ 64 → be (be_bytes 8 n) ≡ n
be_eight n below = ap le (reverse-reverse (le_bytes 8 n)) ∙ le-le_bytes 8 n below

-- a descriptor's bytes spell it
spells : (control size address : ℕ) → control < 2 ^ 32 → size < 2 ^ 32 → address < 2 ^ 64
    → descriptor_in (descriptor_bytes control size address) ≡ record { control = control; length = size; address = address }
spells control size address first second third =
    let with_control : ℕ → Descriptor = λ n. record { control = n; length = be (be_bytes 4 size); address = be (be_bytes 8 address) } in
    let with_rest : ℕ → ℕ → Descriptor = λ n k. record { control = control; length = n; address = k } in
    ap with_control (be_four control first) ∙ ap₂ with_rest (be_four size second) (be_eight address third)

-- a control word is in memory while its descriptor is
pub word_written : (m : Memory) (descriptor control size address : ℕ) → bytes_at m descriptor 16 ≡ descriptor_bytes control size address
    → control < 2 ^ 32 → be (bytes_at m descriptor 4) ≡ control
word_written m descriptor control size address written fits =
    ap be (sym (take-bytes_at m descriptor 4 16 (omega arith)) ∙ ap (take 4) written) ∙ be_four control fits

-- ---- the control word

-- the lower bits of a control word that names an item are those of its lower half
select_bit : (select low bit : ℕ) → low < 2 ^ 16 → bit < 2 ^ 16 → bit_and (select * 0x10000 + low) bit ≡ bit_and low bit
select_bit select low bit small below =
    let none : bit_and select 0 ≡ 0 = omega (arith, and_le_r select 0) in
    let padded : bit ≡ 0 * 2 ^ 16 + bit = omega arith in
    ap (bit_and (select * 0x10000 + low)) padded ∙ and_block 16 select 0 low bit small below ∙ ap (λ n. n * 2 ^ 16 + bit_and low bit) none ∙ omega arith

low_bit : (select low bit : ℕ) → low < 2 ^ 16 → bit < 2 ^ 16 → has_bit (select * 0x10000 + low) bit ≡ has_bit low bit
low_bit select low bit small below = ap (λ n. not (n == 0)) (select_bit select low bit small below)

-- so that half says what is asked for, whatever the item
low_kind : (select low : ℕ) → low < 2 ^ 16 → kind_of (select * 0x10000 + low) ≡ kind_of low
low_kind select low small =
    let word = select * 0x10000 + low in
    let kind : Bool → Bool → Bool → Kind = λ reads writes skips. cond reads Read (cond writes Write (cond skips Skip Nothing)) in
    ap (λ reads. kind reads (has_bit word 0x10) (has_bit word 0x04)) (low_bit select low 0x02 small (omega arith))
    ∙ ap₂ (kind (has_bit low 0x02)) (low_bit select low 0x10 small (omega arith)) (low_bit select low 0x04 small (omega arith))

-- a device with another item and offset
abbrev placed : DeviceState → ℕ → ℕ → DeviceState
placed d select offset = record d { select = select; offset = offset }

-- A control word asks for a transfer: for what it does, and for its item and its offset.
pub record Asked (control : ℕ) (d : DeviceState) (transfer : Finished) : Type 0 where
  pub kind : kind_of control ≡ transfer.kind
  pub device : cond (selects control) (with_selected d (select_of control)) d ≡ placed d transfer.select transfer.offset
  pub fits : control < 2 ^ 32

-- a control word that selects an item asks for that item, from its start
pub asked_selected : (select low : ℕ) (d : DeviceState) (transfer : Finished) → select < 2 ^ 16 → low < 2 ^ 16 → selects low ≡ true
    → kind_of low ≡ transfer.kind → select ≡ transfer.select → 0 ≡ transfer.offset → Asked (select * 0x10000 + low) d transfer
asked_selected select low d transfer named small selected kind is start =
    let word = select * 0x10000 + low in
    let name : select_of word ≡ select = omega arith in
    record {
      kind = low_kind select low small ∙ kind;
      device = cond-true (selects word) _ _ (low_bit select low 0x08 small (omega arith) ∙ selected) ∙ ap₂ (placed d) (name ∙ is) start;
      fits = omega arith;
    }

-- and one that selects none asks for the item and the offset that the device is at
pub asked_next : (control : ℕ) (d : DeviceState) (transfer : Finished) → control < 2 ^ 32 → selects control ≡ false → kind_of control ≡ transfer.kind
    → d.select ≡ transfer.select → d.offset ≡ transfer.offset → Asked control d transfer
asked_next control d transfer fits none kind select offset = record {
  kind = kind;
  device = cond-false (selects control) _ _ none ∙ ap₂ (placed d) select offset;
  fits = fits;
}

-- ---- the start

-- a device where a transfer begins
abbrev pub at_start : Finished → DeviceState → DeviceState
at_start transfer d = record d { select = transfer.select; offset = transfer.offset; address = 0 }

-- the transfer that is asked for is this one
same_transfer : (transfer : Finished) (kind : Kind) → kind ≡ transfer.kind → transfer.error ≡ false
    → record transfer { kind = kind; error = false } ≡ transfer
same_transfer transfer kind asked sound =
    let with_both : Kind → Bool → Finished = λ kind error. record transfer { kind = kind; error = error } in ap₂ with_both asked (sym sound)

-- the descriptor of a transfer is carried out: the transfer begins
carried : (descriptor control : ℕ) (transfer : Finished) (d : DeviceState) (m : Memory) → transfer.error ≡ false → Asked control d transfer
    → carry_out descriptor (record { control = control; length = transfer.length; address = transfer.address }) (attached d m)
    ≡ begin_as transfer.kind descriptor transfer (attached (placed d transfer.select transfer.offset) m)
carried descriptor control transfer d m sound asks =
    let asked : Descriptor = record { control = control; length = transfer.length; address = transfer.address } in
    let after = placed d transfer.select transfer.offset in
    ap (λ (d : DeviceState). begin_as (kind_of control) descriptor (transfer_of asked d) (attached d m)) asks.device
    ∙ ap₂ (λ (kind : Kind) (t : Finished). begin_as kind descriptor t (attached after m)) asks.kind
    (same_transfer transfer (kind_of control) asks.kind sound)

-- the register holds the descriptor's address alone
place_of : (register descriptor : ℕ) → with_low (with_high register 0) descriptor ≡ descriptor
place_of register descriptor = omega arith

-- What can be started: the descriptor is RAM, and its fields can hold the transfer.
pub record CanStart (top descriptor : ℕ) (transfer : Finished) : Type 0 where
  pub ram : IsRamRange top descriptor 16
  pub length : transfer.length < 2 ^ 32
  pub address : transfer.address < 2 ^ 64
  pub sound : transfer.error ≡ false

-- a transfer that is asked for begins
pub starts : (a : Attached) (descriptor control : ℕ) (transfer : Finished) → IsMemory a.memory → CanStart a.memory.top descriptor transfer
    → Asked control (record a.device { address = 0 }) transfer
    → started descriptor control transfer.length transfer.address a
    ≡ begin_as transfer.kind descriptor transfer
    (attached (at_start transfer a.device) (with_bytes a.memory descriptor (descriptor_bytes control transfer.length transfer.address)))
starts a descriptor control transfer memory can asks =
    let bytes = descriptor_bytes control transfer.length transfer.address in
    let m = with_bytes a.memory descriptor bytes in
    let register = with_high a.device.address 0 in
    let cleared = record a.device { address = 0 } in
    let written : bytes_at m descriptor 16 ≡ bytes = bytes_with a.memory descriptor bytes memory can.ram in
    ap (λ place. start place (attached (record a.device { address = register }) m)) (place_of a.device.address descriptor)
    ∙ cond-true (is_ram_range a.memory.top descriptor 16) _ _ (ram_range_passes a.memory.top descriptor 16 can.ram)
    ∙ ap (λ (all : List ℕ). carry_out descriptor (descriptor_in all) (attached cleared m)) written
    ∙ ap (λ (asked : Descriptor). carry_out descriptor asked (attached cleared m))
    (spells control transfer.length transfer.address asks.fits can.length can.address)
    ∙ carried descriptor control transfer cleared m can.sound asks

-- ---- a transfer that moves bytes

-- A device that moves bytes: the transfer is in flight, from its item and its offset on.
abbrev pub moving : ℕ → Finished → DeviceState → DeviceState
moving descriptor transfer d = record (at_start transfer d) {
  flight = Some (record { descriptor = descriptor; transfer = transfer; moved = 0 });
}

-- a transfer that may move bytes, and some, is in flight once it begins
pub begins : (allowed : Bool) (descriptor : ℕ) (transfer : Finished) (a : Attached) → 0 < transfer.length → allowed ≡ true
    → begin_moving allowed descriptor transfer a
    ≡ record a { device = record a.device { flight = Some (record { descriptor = descriptor; transfer = transfer; moved = 0 }) } }
begins allowed descriptor transfer a some may =
    cond-false (transfer.length == 0) _ _ (ne_eqb transfer.length 0 (λ none. absurd (omega arith))) ∙ cond-true allowed _ _ may

-- the address and the length of a range of RAM are below those of a descriptor's fields
pub range_low : (top address count : ℕ) → IsTop top → 0 < count → IsRamRange top address count → address + count ≤ 0xC0000000
range_low top address count lawful some ram =
    let last : address + (count - 1) < 0xC0000000 = ram_below top (address + (count - 1)) (ram (count - 1) (omega arith)) lawful in omega arith

-- so a transfer to RAM or from there can be started
pub can_start : (top descriptor : ℕ) (transfer : Finished) → IsTop top → IsRamRange top descriptor 16 → 0 < transfer.length
    → IsRamRange top transfer.address transfer.length → transfer.error ≡ false → CanStart top descriptor transfer
can_start top descriptor transfer lawful descriptor_ram some ram sound =
    let low = range_low top transfer.address transfer.length lawful some ram in
    record { ram = descriptor_ram; length = omega arith; address = omega arith; sound = sound }

-- A transfer that moves bytes, and some, from an offset within its item on. A write fits into it, and it may be written.
pub record CanMoveBytes (items : List Item) (transfer : Finished) : Type 0 where
  pub moves : Moves transfer.kind
  pub some : 0 < transfer.length
  pub within : transfer.offset ≤ length (contents items transfer.select)
  pub fits : transfer.kind ≡ Write → FitsIn items transfer.select (transfer.offset + transfer.length)
  pub writable : transfer.kind ≡ Write → IsWritable items transfer.select

-- once it is in flight all around goes on
pub moving_goes_on : (a : Attached) (descriptor : ℕ) (transfer : Finished) (bytes : List ℕ) → IsDevice a.device → IsMemory a.memory → 0 < a.device.spare
    → CanMoveBytes a.device.items transfer → GoesOn a (attached (moving descriptor transfer a.device) (with_bytes a.memory descriptor bytes))
moving_goes_on a descriptor transfer bytes device memory room can = record {
  room = refl;
  opening = refl;
  device = record {
    items = device.items;
    offset = can.within;
    flight = record {
      moves = can.moves;
      left = can.some;
      fits = λ writes.
          fits_less a.device.items transfer.select (transfer.offset + (transfer.length - 0)) (transfer.offset + transfer.length) (omega arith)
          (can.fits writes);
      writable = can.writable;
      room = room;
    };
  };
  memory = lawful_with a.memory descriptor bytes memory;
  top = refl;
  fill = refl;
}

-- ---- a read

-- each control word of a read asks for it
asked : (control : ℕ) (d : DeviceState) (transfer : Finished) → transfer.kind ≡ Read → AsksFor control d transfer → Asked control d transfer
asked control d transfer reads asks = elim asks as (λ _. Asked control d transfer) [
  | inl first ↦
      subst (λ (word : ℕ). Asked word d transfer) (sym first.0)
      (asked_selected transfer.select 0x0A d transfer first.1 (omega arith) refl (sym reads) refl (sym first.2))
  | inr next ↦
      subst (λ (word : ℕ). Asked word d transfer) (sym next.0)
      (asked_next next_read d transfer (omega arith) refl (sym reads) (sym next.1) (sym next.2))
]

-- a read that is asked for is in flight
read_begins : (a : Attached) (descriptor control : ℕ) (transfer : Finished) → IsMemory a.memory
    → CanRead a.device.items a.memory.top descriptor transfer → AsksFor control a.device transfer
    → started descriptor control transfer.length transfer.address a
    ≡ attached (moving descriptor transfer a.device) (with_bytes a.memory descriptor (descriptor_bytes control transfer.length transfer.address))
read_begins a descriptor control transfer memory can asks =
    let b = attached (at_start transfer a.device) (with_bytes a.memory descriptor (descriptor_bytes control transfer.length transfer.address)) in
    let top = a.memory.top in
    starts a descriptor control transfer memory
    (can_start top descriptor transfer memory.top can.descriptor_ram can.some can.ram can.sound)
    (asked control (record a.device { address = 0 }) transfer can.kind asks)
    ∙ ap (λ (kind : Kind). begin_as kind descriptor transfer b) can.kind
    ∙ begins (is_ram_range top transfer.address transfer.length) descriptor transfer b can.some
    (ram_range_passes top transfer.address transfer.length can.ram)

-- A read that is asked for is in flight, and memory is changed by its descriptor alone.
pub read_is_started : (a : Attached) (before : List Finished) (descriptor control : ℕ) (transfer : Finished) → IsDevice a.device → IsMemory a.memory
    → a.device.flight ≡ None → 0 < a.device.spare → a.device.finished ≡ before → CanRead a.device.items a.memory.top descriptor transfer
    → AsksFor control a.device transfer
    → IsMoving a.device.items before descriptor control transfer (started descriptor control transfer.length transfer.address a)
    × GoesOn a (started descriptor control transfer.length transfer.address a)
    × ((started descriptor control transfer.length transfer.address a).device.items ≡ a.device.items)
    × ((started descriptor control transfer.length transfer.address a).memory
    ≡ with_bytes a.memory descriptor (descriptor_bytes control transfer.length transfer.address))
read_is_started a before descriptor control transfer device memory idle room finished can asks =
    let bytes = descriptor_bytes control transfer.length transfer.address in
    let m = with_bytes a.memory descriptor bytes in
    let within = can.within in
    subst (λ (b : Attached). IsMoving a.device.items before descriptor control transfer b × GoesOn a b × (b.device.items ≡ a.device.items) × (b.memory ≡ m))
    (sym (read_begins a descriptor control transfer memory can asks)) (
      record {
        moved = 0;
        flight = refl;
        some_left = can.some;
        held = sym (bytes_at-none m transfer.address 0 refl);
        written = bytes_with a.memory descriptor bytes memory can.descriptor_ram;
        selected = refl;
        offset = omega arith;
        finished = finished;
      },
      moving_goes_on a descriptor transfer bytes device memory room (record {
        moves = subst Moves (sym can.kind) tt;
        some = can.some;
        within = omega arith;
        fits = λ writes. let reads = can.kind in absurd (cc);
        writable = λ writes. let reads = can.kind in absurd (cc);
      }),
      refl,
      refl,
    )
