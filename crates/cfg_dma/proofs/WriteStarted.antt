-- A skip that is asked for is over at once, and a write that is asked for is in flight.
use Rattle.std.proofs.Common.{◌⊎◌, ◌≡◌, ℕ, ◌+◌, ◌≤◌, ◌<◌, true, false, ◌&&◌, List, [], ◌∷◌, ◌++◌, length, Option, Some, None}
use Rattle.std.proofs.Common.{arith, sym, refl, ap, subst, ◌∙◌}
use Rattle.std.specs.Prelude.{IsSomeAnd, nat_le}
use Rattle.std.specs.Option.{option_map_or}
use Rattle.std.proofs.lemmas.Bool.{and_from, le-leb}
use Rattle.vt_bytes.specs.Memory.{IsMemory, at, with_bytes, bytes_at}
use Rattle.vt_bytes.specs.Numbers.{be_bytes}
use Rattle.vt_bytes.proofs.Memories.{bytes_with, others_with, lawful_with}
use Rattle.guest_memory.specs.RamRange.{is_ram_range}
use Rattle.guest_memory.proofs.RamRuns.{ram_range_passes}
use Rattle.cfg_directory.specs.declared.item.Item.{Item}
use Rattle.cfg_directory.specs.Items.{selected}
use Rattle.cfg_dma.specs.declared.transfer.Finished.{Finished}
use Rattle.cfg_dma.specs.declared.transfer.Kind.{Kind}
use Rattle.cfg_dma.specs.Device.{IsDevice, Moves, advanced}
use Rattle.cfg_dma.specs.Transfers.{Attached, attached, may_write, begin_as}
use Rattle.cfg_dma.specs.Reads.{GoesOn, descriptor_bytes, started}
use Rattle.cfg_dma.specs.Writes.{CanSkip, IsSkipped, CanWrite, IsWriting, selected_skip, skip_of, next_write}
use Rattle.cfg_dma.proofs.Written.{written_none, fits_held}
use Rattle.cfg_dma.proofs.Started.{asked_selected, asked_next, at_start, starts, moving, begins, can_start, moving_goes_on}
use Rattle.cfg_dma.proofs.Awaited.{over_goes_on, word_cleared, beside_stays, range_stays}

-- ---- a skip

-- A skip that is asked for is over at once, and memory is changed in its descriptor alone.
pub skip_is_over : (a : Attached) (before : List Finished) (descriptor select count : ℕ) → IsDevice a.device → IsMemory a.memory
    → a.device.flight ≡ None → 0 < a.device.spare → a.device.finished ≡ before → CanSkip a.device.items a.memory.top descriptor select count
    → IsSkipped before descriptor select count (started descriptor (selected_skip select) count 0 a)
    × GoesOn a (started descriptor (selected_skip select) count 0 a)
    × ((started descriptor (selected_skip select) count 0 a).device.items ≡ a.device.items)
    × ((address : ℕ) → (address < descriptor) ⊎ (descriptor + 16 ≤ address)
    → at (started descriptor (selected_skip select) count 0 a).memory address ≡ at a.memory address)
skip_is_over a before descriptor select count device memory idle room finished can =
    let transfer = skip_of select count in
    let bytes = descriptor_bytes (selected_skip select) count 0 in
    let m = with_bytes a.memory descriptor bytes in
    let lawful = lawful_with a.memory descriptor bytes memory in
    let b = attached (advanced (at_start transfer a.device) count) m in
    let within = can.within in
    subst (λ (b : Attached). IsSkipped before descriptor select count b × GoesOn a b × (b.device.items ≡ a.device.items)
    × ((address : ℕ) → (address < descriptor) ⊎ (descriptor + 16 ≤ address) → at b.memory address ≡ at a.memory address))
    (sym (starts a descriptor (selected_skip select) transfer memory
    (record { ram = can.descriptor_ram; length = can.small; address = omega arith; sound = refl })
    (asked_selected select 0x0C (record a.device { address = 0 }) transfer can.names (omega arith) refl refl refl refl))) (
      record {
        idle = refl;
        control = word_cleared m descriptor 0 lawful can.descriptor_ram refl;
        selected = refl;
        offset = omega arith;
        finished = ap (λ (transfers : List Finished). transfers ++ transfer ∷ []) finished;
      },
      over_goes_on a b descriptor transfer (record { items = device.items; offset = omega arith; memory = lawful })
          (record { room = refl; spare = refl; opening = refl; top = refl; fill = refl }) room,
      refl,
      λ address other.
          beside_stays m descriptor (be_bytes 4 0) address lawful (omega arith) other ∙ others_with a.memory descriptor bytes address memory other,
    )

-- ---- a write

-- bytes may be written where they fit into a file that may be written
may_so : (o : Option Item) (count : ℕ) → IsSomeAnd o (λ (item : Item). item.writable ≡ true)
    → IsSomeAnd o (λ (item : Item). count ≤ length item.bytes)
    → option_map_or (λ (item : Item). item.writable && nat_le count (length item.bytes)) o false ≡ true
may_so None count writable fits = absurd writable
may_so (Some item) count writable fits = and_from item.writable (nat_le count (length item.bytes)) writable (le-leb count (length item.bytes) fits)

-- a write that is asked for is in flight
write_begins : (a : Attached) (descriptor : ℕ) (transfer : Finished) → IsMemory a.memory → CanWrite a.device.items a.memory.top descriptor transfer
    → transfer.select ≡ a.device.select → transfer.offset ≡ a.device.offset
    → started descriptor next_write transfer.length transfer.address a
    ≡ attached (moving descriptor transfer a.device) (with_bytes a.memory descriptor (descriptor_bytes next_write transfer.length transfer.address))
write_begins a descriptor transfer memory can select offset =
    let b = attached (at_start transfer a.device) (with_bytes a.memory descriptor (descriptor_bytes next_write transfer.length transfer.address)) in
    let top = a.memory.top in
    let is_ram = is_ram_range top transfer.address transfer.length in
    starts a descriptor next_write transfer memory (can_start top descriptor transfer memory.top can.descriptor_ram can.some can.ram can.sound)
    (asked_next next_write (record a.device { address = 0 }) transfer (omega arith) refl (sym can.kind) (sym select) (sym offset))
    ∙ ap (λ (kind : Kind). begin_as kind descriptor transfer b) can.kind
    ∙ begins (is_ram && may_write b.device transfer.length) descriptor transfer b can.some
    (and_from is_ram (may_write b.device transfer.length) (ram_range_passes top transfer.address transfer.length can.ram)
    (may_so (selected a.device.items transfer.select) (transfer.offset + transfer.length) can.writable can.fits))

-- A write that is asked for, from where the device is, is in flight, and memory is changed by its descriptor alone.
pub write_is_started : (a : Attached) (before : List Finished) (descriptor : ℕ) (transfer : Finished) → IsDevice a.device → IsMemory a.memory
    → a.device.flight ≡ None → 0 < a.device.spare → a.device.finished ≡ before → CanWrite a.device.items a.memory.top descriptor transfer
    → transfer.select ≡ a.device.select → transfer.offset ≡ a.device.offset
    → IsWriting a.device.items (bytes_at a.memory transfer.address transfer.length) before descriptor transfer
    (started descriptor next_write transfer.length transfer.address a)
    × GoesOn a (started descriptor next_write transfer.length transfer.address a)
    × ((started descriptor next_write transfer.length transfer.address a).memory
    ≡ with_bytes a.memory descriptor (descriptor_bytes next_write transfer.length transfer.address))
write_is_started a before descriptor transfer device memory idle room finished can select offset =
    let bytes = descriptor_bytes next_write transfer.length transfer.address in
    let m = with_bytes a.memory descriptor bytes in
    let moved = bytes_at a.memory transfer.address transfer.length in
    let held = fits_held a.device.items transfer.select (transfer.offset + transfer.length) device.items.distinct can.fits in
    subst (λ (b : Attached). IsWriting a.device.items moved before descriptor transfer b × GoesOn a b × (b.memory ≡ m))
    (sym (write_begins a descriptor transfer memory can select offset)) (
      record {
        moved = 0;
        flight = refl;
        some_left = can.some;
        put = sym (written_none a.device.items transfer.select transfer.offset);
        still = range_stays a.memory descriptor bytes transfer.address transfer.length memory (omega arith) can.beside;
        written = bytes_with a.memory descriptor bytes memory can.descriptor_ram;
        selected = refl;
        offset = omega arith;
        finished = finished;
      },
      moving_goes_on a descriptor transfer bytes device memory room (record {
        moves = subst Moves (sym can.kind) tt;
        some = can.some;
        within = omega arith;
        fits = λ writes. can.fits;
        writable = λ writes. can.writable;
      }),
      refl,
    )
