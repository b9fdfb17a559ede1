-- What moving bytes leaves of a device and of memory.
use Rattle.std.proofs.Common.{◌≡◌, ◌≢◌, ℕ, ◌+◌, ◌-◌, ◌≤◌, List, ◌++◌, length, take, drop, replicate, Option, None, min}
use Rattle.std.proofs.Common.{arith, sym, refl, ap, ap₂, subst, ◌∙◌}
use Rattle.std.specs.Prelude.{IfSome}
use Rattle.std.proofs.lemmas.List.{places, same_lists, length-replicate}
use Rattle.vt_bytes.specs.Memory.{Memory, IsRamRange, IsMemory, with_bytes, bytes_at}
use Rattle.vt_bytes.proofs.Bytes.{length-bytes_at}
use Rattle.cfg_directory.specs.declared.item.Item.{Item}
use Rattle.cfg_directory.specs.Items.{IsItems, AreDistinct, with_bytes_at, directory_of}
use Rattle.cfg_dma.specs.declared.transfer.Kind.{Kind}
use Rattle.cfg_dma.specs.declared.transfer.Kind.TheVariants.{Read, Write, Skip, Nothing}
use Rattle.cfg_dma.specs.declared.transfer.Finished.{Finished}
use Rattle.cfg_dma.specs.declared.transfer.Flight.{Flight}
use Rattle.cfg_dma.specs.Device.{DeviceState, IsDevice, IsInFlight, IsWritable, KeepsDirectory, LieInFile, FitsIn, holds, advanced}
use Rattle.cfg_dma.specs.Transfers.{Attached, attached, move_as}
use Rattle.cfg_directory.specs.Restored.{AreKept, restored}
use Rattle.cfg_directory.proofs.Restored.{write_fits_and_goes}
use Rattle.cfg_dma.proofs.Written.{Fit, fit_from, fits_less, fits_written, fits_held, directory_written, writable_written}
use Rattle.cfg_dma.proofs.Runs.{one_more}

-- ---- bytes that are read

-- the next so many of some bytes, and zeros past their end
abbrev pub next_of : List ℕ → ℕ → ℕ → List ℕ
next_of bytes offset count = let there = take count (drop offset bytes) in there ++ replicate (count - length there) 0

first_bytes : (bytes : List ℕ) (offset count r : ℕ) → r ≡ min (length (take (length bytes - offset) (drop offset bytes))) count
    → take r (take (length bytes - offset) (drop offset bytes)) ≡ take count (drop offset bytes)
first_bytes bytes offset count r is = same_lists _ _ (grind (arith, places)) (λ k d h. grind (arith, places))

pub read_is : (m now after : Memory) (address offset count r : ℕ) (bytes : List ℕ) → IsMemory m → IsRamRange m.top address count
    → r ≡ min (length (take (length bytes - offset) (drop offset bytes))) count
    → now ≡ with_bytes m address (take r (take (length bytes - offset) (drop offset bytes)))
    → after ≡ with_bytes now (address + r) (replicate (count - r) 0) → after ≡ with_bytes m address (next_of bytes offset count)
read_is m now after address offset count r bytes lawful ram is first second =
    let there = take count (drop offset bytes) in
    let same = first_bytes bytes offset count r is in
    let size : length there ≡ r = ap length (sym same) ∙ grind (arith, places) in
    one_more m now after address there (replicate (count - r) 0) r count lawful ram size (omega (arith, length-replicate {A = ℕ} (count - r) 0))
    (first ∙ ap (with_bytes m address) same) second
    ∙ ap (λ k. with_bytes m address (there ++ replicate (count - k) 0)) (sym size)

-- ---- bytes that are written

-- bytes of memory fit where so many fit
pub memory_fits : (items : List Item) (m : Memory) (select offset address count left : ℕ) → AreDistinct items → FitsIn items select (offset + left)
    → count ≤ left → Fit items select offset (bytes_at m address count)
memory_fits items m select offset address count left distinct fits below =
    fit_from items select offset left (bytes_at m address count) distinct fits (omega (arith, length-bytes_at m address count))

-- what a write leaves of the bytes that are put back at a reset
taken_back : (items : List Item) (kept : List (List ℕ)) (select offset at count : ℕ) (m : Memory) → IsItems items → AreKept items kept
    → FitsIn items select (offset + count) → IsWritable items select
    → AreKept (with_bytes_at items select offset (bytes_at m at count)) kept
    × (restored (with_bytes_at items select offset (bytes_at m at count)) kept ≡ restored items kept)
taken_back items kept select offset at count m lawful are fits writable =
    let size : offset + length (bytes_at m at count) ≡ offset + count = omega (arith, length-bytes_at m at count) in
    write_fits_and_goes items kept select offset (bytes_at m at count) (subst (FitsIn items select) (sym size) fits) writable lawful.distinct are

pub written_device : (items now : List Item) (kept : List (List ℕ)) (directory : List ℕ) (select offset address count at spare : ℕ) (flight : Option Flight) (finished : List Finished)
    (m : Memory) → IsItems items → IsItems now → KeepsDirectory items directory → AreKept items kept → FitsIn items select (offset + count)
    → IsWritable items select
    → now ≡ with_bytes_at items select offset (bytes_at m at count) → flight ≡ None
    → (KeepsDirectory now directory × AreKept now kept)
    × IsDevice (record { items = now; opening = restored now kept; select = select; offset = offset + count; address = address; flight = flight; finished = finished; spare = spare })
written_device items now kept directory select offset address count at spare flight finished m lawful after keeps are fits writable is idle =
    let fit = memory_fits items m select offset at count count lawful.distinct fits (omega arith) in
    let fits_now : FitsIn now select (offset + count) =
    subst (λ (is : List Item). FitsIn is select (offset + count)) (sym is)
    (fits_written items select offset (offset + count) (bytes_at m at count) fit fits) in (
      (
        record {
          is = keeps.is ∙ sym (ap directory_of is ∙ directory_written items select offset (bytes_at m at count) fit);
          small = keeps.small;
        },
        subst (λ (is : List Item). AreKept is kept) (sym is) (taken_back items kept select offset at count m lawful are fits writable).0,
      ),
      record {
        items = after;
        offset = fits_held now select (offset + count) after.distinct fits_now;
        flight = subst (λ (o : Option Flight). IfSome o (IsInFlight (record {
          items = now;
          opening = restored now kept;
          select = select;
          offset = offset + count;
          address = address;
          flight = flight;
          finished = finished;
          spare = spare;
        })))
            (sym idle) tt;
      },
    )

pub written_is : (d : DeviceState) (now : List Item) (kept : List (List ℕ)) (m : Memory) (at count : ℕ) → IsItems d.items
    → d.opening ≡ restored d.items kept → AreKept d.items kept → LieInFile d count → IsWritable d.items d.select
    → now ≡ with_bytes_at d.items d.select d.offset (bytes_at m at count)
    → record d { items = now; opening = restored now kept; offset = d.offset + count }
    ≡ record (advanced d count) { items = with_bytes_at d.items d.select d.offset (bytes_at m at count) }
written_is d now kept m at count lawful opening are fits writable is =
    let within = fits_held d.items d.select (d.offset + count) lawful.distinct fits in
    let end : d.offset + count ≡ min (d.offset + count) (length (holds d)) = omega arith in
    let back : restored now kept ≡ d.opening =
    ap (λ (items : List Item). restored items kept) is ∙ (taken_back d.items kept d.select d.offset at count m lawful are fits writable).1 ∙ sym opening in
    ap₂ (λ (items : List Item) (opening : List Item). record d { items = items; opening = opening; offset = d.offset + count }) is back
    ∙ ap (λ offset. record d { items = with_bytes_at d.items d.select d.offset (bytes_at m at count); offset = offset }) end

-- a file that a write goes to stays one that may be written
pub still_writable : (kind : Kind) (d : DeviceState) (m : Memory) (address count : ℕ) → (kind ≡ Write → IsWritable d.items d.select)
    → kind ≡ Write → IsWritable (move_as kind address count (attached d m)).device.items (move_as kind address count (attached d m)).device.select
still_writable Read d m address count may is = absurd (cc)
still_writable Skip d m address count may is = absurd (cc)
still_writable Nothing d m address count may is = absurd (cc)
still_writable Write d m address count may is = writable_written d.items d.select d.offset (bytes_at m address count) (may refl)

-- ---- a transfer that goes on

pub same_room : (kind : Kind) (d : DeviceState) (m : Memory) (address count : ℕ) → (move_as kind address count (attached d m)).device.spare ≡ d.spare
same_room Read d m address count = refl
same_room Write d m address count = refl
same_room Skip d m address count = refl
same_room Nothing d m address count = refl

pub same_top : (kind : Kind) (d : DeviceState) (m : Memory) (address count : ℕ) → (move_as kind address count (attached d m)).memory.top ≡ m.top
same_top Read d m address count = refl
same_top Write d m address count = refl
same_top Skip d m address count = refl
same_top Nothing d m address count = refl

-- what is left to write fits still
pub still_fits : (kind : Kind) (d : DeviceState) (m : Memory) (address count left : ℕ) → IsItems d.items → (kind ≡ Write → LieInFile d left) → count ≤ left
    → kind ≡ Write → LieInFile (move_as kind address count (attached d m)).device (left - count)
still_fits Read d m address count left lawful fits below is = absurd (cc)
still_fits Skip d m address count left lawful fits below is = absurd (cc)
still_fits Nothing d m address count left lawful fits below is = absurd (cc)
still_fits Write d m address count left lawful fits below is =
    let all : FitsIn d.items d.select (d.offset + left) = fits refl in
    fits_less (with_bytes_at d.items d.select d.offset (bytes_at m address count)) d.select (min (d.offset + count) (length (holds d)) + (left - count))
    (d.offset + left) (omega arith)
    (fits_written d.items d.select d.offset (d.offset + left) (bytes_at m address count)
    (memory_fits d.items m d.select d.offset address count left lawful.distinct all below) all)

pub goes_on : (d now : DeviceState) (m m' : Memory) (flight : Flight) (address count : ℕ) → IsItems d.items → IsInFlight d flight
    → count ≤ flight.transfer.length - flight.moved → attached now m' ≡ move_as flight.transfer.kind address count (attached d m)
    → flight.moved + count ≢ flight.transfer.length → IsInFlight now (record flight { moved = flight.moved + count })
goes_on d now m m' flight address count lawful is below after unfinished =
    let device : now ≡ (move_as flight.transfer.kind address count (attached d m)).device = ap (λ (a : Attached). a.device) after in
    let left = flight.transfer.length - flight.moved in
    let rest : left - count ≡ flight.transfer.length - (flight.moved + count) = omega arith in
    record {
      moves = is.moves;
      left = let l = is.left in omega arith;
      fits = λ writes.
          subst (λ (d : DeviceState). LieInFile d (flight.transfer.length - (flight.moved + count))) (sym device)
          (subst (λ k. LieInFile (move_as flight.transfer.kind address count (attached d m)).device k) rest
          (still_fits flight.transfer.kind d m address count left lawful is.fits below writes));
      writable = λ writes.
          subst (λ (d : DeviceState). IsWritable d.items d.select) (sym device)
          (still_writable flight.transfer.kind d m address count is.writable writes);
      room = let r = is.room in omega (arith, ap (λ (d : DeviceState). d.spare) device, same_room flight.transfer.kind d m address count);
    }
