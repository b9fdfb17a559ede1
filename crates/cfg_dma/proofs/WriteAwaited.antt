-- A write that is awaited goes on, piece by piece, until it is over.
use Rattle.std.proofs.Common.{◌⊎◌, ◌≡◌, ℕ, ◌+◌, ◌-◌, ◌≤◌, ◌<◌, List, [], ◌∷◌, ◌++◌, length, take, map, cond, None}
use Rattle.std.specs.Prelude.{IsSomeAnd}
use Rattle.std.proofs.Common.{Option, Some, inl, inr, arith, sym, refl, ap, ap₂, subst, ◌∙◌}
use Rattle.std.proofs.lemmas.Bool.{cases_lt}
use Rattle.std.proofs.lemmas.List.{take_all, length-take}
use Rattle.vt_bytes.specs.Memory.{Memory, IsMemory, at, bytes_at}
use Rattle.vt_bytes.specs.Numbers.{be, be_bytes}
use Rattle.vt_bytes.proofs.Bytes.{length-bytes_at, take-bytes_at, bytes_at-same}
use Rattle.vt_bytes.proofs.Memories.{others_with}
use Rattle.cfg_directory.specs.declared.item.Item.{Item}
use Rattle.cfg_directory.specs.Items.{AreDistinct, selected, with_bytes_at}
use Rattle.cfg_directory.specs.Shapes.{HaveOneShape, shape_of}
use Rattle.cfg_dma.specs.declared.transfer.Finished.{Finished}
use Rattle.cfg_dma.specs.declared.transfer.Kind.TheVariants.{Write}
use Rattle.cfg_dma.specs.Device.{IsDevice, LieInFile}
use Rattle.cfg_dma.specs.Transfers.{Attached, move_as, piece}
use Rattle.cfg_dma.specs.Reads.{GoesOn}
use Rattle.cfg_dma.specs.Writes.{CanWrite, IsWriting, IsWritten, IsWriteAwaited, with_put}
use Rattle.cfg_directory.proofs.Shapes.{put_keeps_shape}
use Rattle.cfg_dma.proofs.Written.{fits_held}
use Rattle.cfg_dma.proofs.Runs.{written_more}
use Rattle.cfg_dma.proofs.Pieces.{in_flight}
use Rattle.cfg_dma.proofs.Awaited.{piece_goes_on, piece_idle, piece_fewer, piece_last, flight_of, moved_on, moved_whole, end_word, word_cleared}

-- ---- the bytes that are moved

-- more of the bytes are put
put_more : (items : List Item) (bytes : List ℕ) (before : List Finished) (descriptor count : ℕ) (transfer : Finished) (a : Attached)
    → (writing : IsWriting items bytes before descriptor transfer a) → writing.moved + count ≤ transfer.length
    → (move_as Write (transfer.address + writing.moved) count a).device.items ≡ with_put items transfer (take (writing.moved + count) bytes)
put_more items bytes before descriptor count transfer a writing below =
    let m = a.memory in
    let moved = writing.moved in
    let more = bytes_at m (transfer.address + moved) count in
    let first : (k : ℕ) → k ≤ transfer.length → bytes_at m transfer.address k ≡ take k bytes =
    λ k within. sym (take-bytes_at m transfer.address k transfer.length within) ∙ ap (take k) writing.still in
    written_more items a.device.items (with_bytes_at a.device.items a.device.select a.device.offset more) m transfer.select transfer.offset
    transfer.address moved count more refl (writing.put ∙ ap (with_put items transfer) (sym (first moved (omega arith))))
    (ap₂ (λ select offset. with_bytes_at a.device.items select offset more) writing.selected writing.offset)
    ∙ ap (with_put items transfer) (first (moved + count) below)

-- and the device is behind them
behind_more : (items : List Item) (bytes : List ℕ) (before : List Finished) (descriptor count : ℕ) (transfer : Finished) (a : Attached) → IsDevice a.device
    → transfer.kind ≡ Write → (writing : IsWriting items bytes before descriptor transfer a) → writing.moved + count ≤ transfer.length
    → (move_as Write (transfer.address + writing.moved) count a).device.offset ≡ transfer.offset + (writing.moved + count)
behind_more items bytes before descriptor count transfer a device writes writing below =
    let moved = writing.moved in
    let left = transfer.length - moved in
    let lies : LieInFile a.device left = (in_flight a (flight_of descriptor transfer moved) device writing.flight).fits writes in
    let within = fits_held a.device.items a.device.select (a.device.offset + left) device.items.distinct lies in
    let place = writing.offset in
    omega arith

-- fewer bytes than are left are moved: it is in flight still
writes_on : (a : Attached) (items : List Item) (bytes : List ℕ) (before : List Finished) (descriptor count : ℕ) (transfer : Finished) → IsDevice a.device
    → transfer.kind ≡ Write → (writing : IsWriting items bytes before descriptor transfer a) → writing.moved + count < transfer.length
    → IsWriting items bytes before descriptor transfer (moved_on Write descriptor transfer writing.moved count a)
writes_on a items bytes before descriptor count transfer device writes writing left = record {
  moved = writing.moved + count;
  flight = refl;
  some_left = left;
  put = put_more items bytes before descriptor count transfer a writing (omega arith);
  still = writing.still;
  written = writing.written;
  selected = writing.selected;
  offset = behind_more items bytes before descriptor count transfer a device writes writing (omega arith);
  finished = writing.finished;
}

-- all that are left are moved: it is over
is_written : (a : Attached) (items : List Item) (bytes : List ℕ) (before : List Finished) (descriptor : ℕ) (transfer : Finished) → IsDevice a.device
    → IsMemory a.memory → CanWrite items a.memory.top descriptor transfer → (writing : IsWriting items bytes before descriptor transfer a)
    → IsWritten items bytes before descriptor transfer (moved_whole Write descriptor transfer writing.moved a)
is_written a items bytes before descriptor transfer device memory can writing =
    let moved = writing.moved in
    let count = transfer.length - moved in
    let some = writing.some_left in
    let all : moved + count ≡ transfer.length = omega arith in
    let size : length bytes ≡ transfer.length = ap length (sym writing.still) ∙ length-bytes_at a.memory transfer.address transfer.length in
    record {
      idle = refl;
      put = put_more items bytes before descriptor count transfer a writing (omega arith)
          ∙ ap (with_put items transfer) (take_all (moved + count) bytes (omega arith));
      control = word_cleared a.memory descriptor (end_word transfer) memory can.descriptor_ram (ap (λ failed. cond failed 1 0) can.sound);
      selected = writing.selected;
      offset = behind_more items bytes before descriptor count transfer a device can.kind writing (omega arith)
          ∙ ap (λ n. transfer.offset + n) all;
      finished = ap (λ (transfers : List Finished). transfers ++ transfer ∷ []) writing.finished;
    }

-- ---- any piece

-- what holds of a write, and of memory, once a piece has moved
abbrev MovesOn : List Item → List ℕ → List Finished → ℕ → Finished → Attached → Attached → Type 0
MovesOn items bytes before descriptor transfer a b =
    IsWriteAwaited items bytes before descriptor transfer b
    × ((address : ℕ) → (address < descriptor) ⊎ (descriptor + 4 ≤ address) → at b.memory address ≡ at a.memory address)

-- a write that isn't over, over a piece
writing_moves_on : (a : Attached) (items : List Item) (bytes : List ℕ) (before : List Finished) (descriptor count : ℕ) (transfer : Finished)
    → IsDevice a.device → IsMemory a.memory → CanWrite items a.memory.top descriptor transfer → IsWriting items bytes before descriptor transfer a
    → MovesOn items bytes before descriptor transfer a (piece count a)
writing_moves_on a items bytes before descriptor count transfer device memory can writing =
    let moved = writing.moved in
    elim (cases_lt (moved + count) transfer.length) as (λ _. MovesOn items bytes before descriptor transfer a (piece count a)) [
      | inl left ↦
          subst (MovesOn items bytes before descriptor transfer a)
          (sym (piece_fewer Write a descriptor count transfer moved can.kind writing.flight left)) (
            inl (writes_on a items bytes before descriptor count transfer device can.kind writing left),
            λ address other. refl,
          )
      | inr enough ↦
          subst (MovesOn items bytes before descriptor transfer a)
          (sym (piece_last Write a descriptor count transfer moved can.kind writing.flight writing.some_left enough)) (
            inr (is_written a items bytes before descriptor transfer device memory can writing),
            λ address other. others_with a.memory descriptor (be_bytes 4 (end_word transfer)) address memory other,
          )
    ]

-- A write that is awaited stays so over any piece, until it is over, and a piece changes no byte of memory but those of its control word.
pub write_moves_on : (a : Attached) (items : List Item) (bytes : List ℕ) (before : List Finished) (descriptor count : ℕ) (transfer : Finished)
    → IsDevice a.device → IsMemory a.memory → CanWrite items a.memory.top descriptor transfer → IsWriteAwaited items bytes before descriptor transfer a
    → IsWriteAwaited items bytes before descriptor transfer (piece count a) × GoesOn a (piece count a)
    × ((address : ℕ) → (address < descriptor) ⊎ (descriptor + 4 ≤ address) → at (piece count a).memory address ≡ at a.memory address)
write_moves_on a items bytes before descriptor count transfer device memory can awaited =
    let moves : MovesOn items bytes before descriptor transfer a (piece count a) =
    elim awaited as (λ _. MovesOn items bytes before descriptor transfer a (piece count a)) [
      | inl writing ↦ writing_moves_on a items bytes before descriptor count transfer device memory can writing
      | inr written ↦
          subst (MovesOn items bytes before descriptor transfer a) (sym (piece_idle count a written.idle)) (inr written, λ address other. refl)
    ] in
    (moves.0, piece_goes_on count a device memory, moves.1)

-- ---- another memory

-- a write is awaited as well over a memory that holds the same in its descriptor and its range
pub write_awaited_same : (items : List Item) (bytes : List ℕ) (before : List Finished) (descriptor : ℕ) (transfer : Finished) (a : Attached) (m : Memory)
    → IsWriteAwaited items bytes before descriptor transfer a → ((i : ℕ) → i < 16 → at m (descriptor + i) ≡ at a.memory (descriptor + i))
    → ((i : ℕ) → i < transfer.length → at m (transfer.address + i) ≡ at a.memory (transfer.address + i))
    → IsWriteAwaited items bytes before descriptor transfer (record a { memory = m })
write_awaited_same items bytes before descriptor transfer a m awaited words range =
    elim awaited as (λ _. IsWriteAwaited items bytes before descriptor transfer (record a { memory = m })) [
      | inl writing ↦ inl (record {
        moved = writing.moved;
        flight = writing.flight;
        some_left = writing.some_left;
        put = writing.put;
        still = bytes_at-same m a.memory transfer.address transfer.length range ∙ writing.still;
        written = bytes_at-same m a.memory descriptor 16 words ∙ writing.written;
        selected = writing.selected;
        offset = writing.offset;
        finished = writing.finished;
      })
      | inr written ↦ inr (record {
        idle = written.idle;
        put = written.put;
        control = ap be (bytes_at-same m a.memory descriptor 4 (λ i few. words i (omega arith))) ∙ written.control;
        selected = written.selected;
        offset = written.offset;
        finished = written.finished;
      })
    ]

-- ---- the shape of the items

-- where so many bytes fit fewer do
fewer_fit : (o : Option Item) (fewer many : ℕ) → fewer ≤ many → IsSomeAnd o (λ (item : Item). many ≤ length item.bytes)
    → IsSomeAnd o (λ (item : Item). fewer ≤ length item.bytes)
fewer_fit None fewer many below fits = fits
fewer_fit (Some item) fewer many below fits = omega (arith, below, fits)

-- a write leaves the shape of the items as it was
pub written_items : (items : List Item) (bytes : List ℕ) (before : List Finished) (top descriptor : ℕ) (transfer : Finished) (a : Attached)
    → AreDistinct items → CanWrite items top descriptor transfer → length bytes ≡ transfer.length
    → IsWriteAwaited items bytes before descriptor transfer a → HaveOneShape items a.device.items
written_items items bytes before top descriptor transfer a distinct can size awaited =
    let keeps : (piece : List ℕ) → length piece ≤ transfer.length → HaveOneShape items (with_put items transfer piece) = λ piece few.
    put_keeps_shape items transfer.select transfer.offset piece
    (fewer_fit (selected items transfer.select) (transfer.offset + length piece) (transfer.offset + transfer.length) (omega (arith, few)) can.fits)
    distinct in
    elim awaited as (λ _. HaveOneShape items a.device.items) [
      | inl writing ↦ ap (map shape_of) writing.put ∙ keeps (take writing.moved bytes) (omega (arith, length-take writing.moved bytes))
      | inr written ↦ ap (map shape_of) written.put ∙ keeps bytes (omega arith)
    ]

-- behind a piece as long as any a write that is awaited is over
pub whole_write : (a : Attached) (items : List Item) (bytes : List ℕ) (before : List Finished) (descriptor count : ℕ) (transfer : Finished)
    → transfer.kind ≡ Write → transfer.length ≤ count → IsWriteAwaited items bytes before descriptor transfer a → (piece count a).device.flight ≡ None
whole_write a items bytes before descriptor count transfer writes long awaited = elim awaited as (λ _. (piece count a).device.flight ≡ None) [
  | inl writing ↦
      ap (λ (b : Attached). b.device.flight)
      (piece_last Write a descriptor count transfer writing.moved writes writing.flight writing.some_left (omega (arith, long)))
  | inr written ↦ ap (λ (b : Attached). b.device.flight) (piece_idle count a written.idle) ∙ written.idle
]
