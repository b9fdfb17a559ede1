-- Two pieces of a transfer are one.
use Rattle.std.proofs.Common.{◌⊎◌, ◌≡◌, ℕ, ◌+◌, ◌≤◌, ◌<◌, ◌==◌, List, [], ◌∷◌, ◌++◌, length, Option, Some, None, min, sum}
use Rattle.std.proofs.Common.{arith, inl, inr, sym, refl, ap, ap₂, subst, ◌∙◌, add-zero}
use Rattle.std.specs.Prelude.{IfSome, IsSome}
use Rattle.std.proofs.lemmas.Bool.{cond-true, cond-false, eq-eqb, ne_eqb, cases_lt, false≢true}
use Rattle.std.proofs.lemmas.List.{places, same_lists}
use Rattle.vt_bytes.specs.Memory.{Memory, IsRam, IsRamRange, IsMemory, at, with_bytes, bytes_at}
use Rattle.cfg_directory.specs.declared.item.Item.{Item}
use Rattle.cfg_directory.specs.Items.{IsItems, with_bytes_at}
use Rattle.cfg_dma.specs.declared.transfer.Kind.{Kind}
use Rattle.cfg_dma.specs.declared.transfer.Kind.TheVariants.{Read, Write, Skip, Nothing}
use Rattle.cfg_dma.specs.declared.transfer.Flight.{Flight}
use Rattle.cfg_dma.specs.Device.{DeviceState, IsDevice, IsInFlight, LieInFile, FitsIn, holds}
use Rattle.cfg_dma.specs.Transfers.{Attached, CanMove, attached, left_of, move_by, finish, move_as, settle, move_next, piece, pieces}
use Rattle.cfg_dma.proofs.Written.{written_none, fits_held, length-contents}
use Rattle.vt_bytes.proofs.Memories.{with_none, others_with}
use Rattle.std.proofs.lemmas.List.Sums.{sum_by-cons}
use Rattle.cfg_dma.proofs.Moved.{next_of, memory_fits}
use Rattle.cfg_dma.proofs.Runs.{one_more, written_more}

-- ---- bytes that are moved in two pieces

-- the bytes of an item from an offset on, in two parts
next_twice : (bytes : List ℕ) (offset k n : ℕ) → offset ≤ length bytes
    → next_of bytes offset k ++ next_of bytes (min (offset + k) (length bytes)) n ≡ next_of bytes offset (k + n)
next_twice bytes offset k n within = same_lists _ _ (grind (arith, places)) (λ i d h. grind (arith, places))

-- the next bytes are as many as were asked for
pub length-next_of : (bytes : List ℕ) (offset k : ℕ) → length (next_of bytes offset k) ≡ k
length-next_of bytes offset k = grind (arith, places)

end_twice : (offset k n end : ℕ) → min (min (offset + k) end + n) end ≡ min (offset + (k + n)) end
end_twice offset k n end = omega arith

-- the same with something else in flight
abbrev pub with_flight : Attached → Option Flight → Attached
with_flight a flight = attached (record a.device { flight = flight }) a.memory

-- what two pieces of a range move is what one moves
pub record IsMovable (kind : Kind) (d : DeviceState) (m : Memory) (address left : ℕ) : Type 0 where
  pub items : IsItems d.items
  pub offset : d.offset ≤ length (holds d)
  pub memory : IsMemory m
  pub ram : IsRamRange m.top address left
  pub fits : kind ≡ Write → LieInFile d left

move_twice : (kind : Kind) (d : DeviceState) (m : Memory) (address left k n : ℕ) (flight : Option Flight) → IsMovable kind d m address left → k + n ≤ left
    → move_as kind (address + k) n (with_flight (move_as kind address k (attached d m)) flight)
    ≡ with_flight (move_as kind address (k + n) (attached d m)) flight
move_twice Skip d m address left k n flight is within = refl
move_twice Nothing d m address left k n flight is within = refl
move_twice Read d m address left k n flight is within =
    let first = next_of (holds d) d.offset k in
    let second = next_of (holds d) (min (d.offset + k) (length (holds d))) n in
    let memory : with_bytes (with_bytes m address first) (address + k) second ≡ with_bytes m address (next_of (holds d) d.offset (k + n)) =
    one_more m (with_bytes m address first) (with_bytes (with_bytes m address first) (address + k) second) address first second k left is.memory is.ram
    (length-next_of (holds d) d.offset k) (omega (arith, length-next_of (holds d) (min (d.offset + k) (length (holds d))) n)) refl refl
    ∙ ap (with_bytes m address) (next_twice (holds d) d.offset k n is.offset) in
    ap₂ (λ (offset : ℕ) (memory : Memory). attached (record d { offset = offset; flight = flight }) memory)
    (end_twice d.offset k n (length (holds d))) memory
move_twice Write d m address left k n flight is within =
    let fits : FitsIn d.items d.select (d.offset + left) = is.fits refl in
    let held = fits_held d.items d.select (d.offset + left) is.items.distinct fits in
    let end = length (holds d) in
    let first = with_bytes_at d.items d.select d.offset (bytes_at m address k) in
    let place : min (d.offset + k) end ≡ d.offset + k = omega arith in
    let more = bytes_at m (address + k) n in
    let items : with_bytes_at first d.select (min (d.offset + k) end) more ≡ with_bytes_at d.items d.select d.offset (bytes_at m address (k + n)) =
    ap (λ offset. with_bytes_at first d.select offset more) place
    ∙ written_more d.items first (with_bytes_at first d.select (d.offset + k) more) m d.select d.offset address k n more refl refl refl in
    let size = length-contents d.items d.select d.offset d.select (bytes_at m address k)
    (memory_fits d.items m d.select d.offset address k left is.items.distinct fits (omega arith)) in
    let offset = ap (min (min (d.offset + k) end + n)) size ∙ end_twice d.offset k n end in
    ap₂ (λ (items : List Item) (offset : ℕ). attached (record d { items = items; offset = offset; flight = flight }) m) items offset

-- no bytes move nothing
move_none : (kind : Kind) (d : DeviceState) (m : Memory) (address : ℕ) → d.offset ≤ length (holds d) → move_as kind address 0 (attached d m) ≡ attached d m
unfolding bytes_at
move_none Skip d m address within = refl
move_none Nothing d m address within = refl
move_none Read d m address within =
    let offset : min (d.offset + 0) (length (holds d)) ≡ d.offset = omega arith in
    ap₂ (λ (offset : ℕ) (memory : Memory). attached (record d { offset = offset }) memory) offset (with_none m address)
move_none Write d m address within =
    let offset : min (d.offset + 0) (length (holds d)) ≡ d.offset = omega arith in
    ap₂ (λ (items : List Item) (offset : ℕ). attached (record d { items = items; offset = offset }) m) (written_none d.items d.select d.offset) offset

-- ---- a transfer

-- what holds of the transfer in flight
pub in_flight : (a : Attached) (flight : Flight) → IsDevice a.device → a.device.flight ≡ Some flight → IsInFlight a.device flight
in_flight a flight device is = subst (λ (o : Option Flight). IfSome o (IsInFlight a.device)) is device.flight

-- all that are left are moved, and it is over
pub ends : (flight : Flight) (bytes : ℕ) (a : Attached) → flight.moved < flight.transfer.length → left_of flight ≤ bytes
    → move_next (Some flight) bytes a ≡ finish flight.descriptor flight.transfer (move_by flight (left_of flight) a)
ends flight bytes a some enough =
    let count : min bytes (left_of flight) ≡ left_of flight = omega arith in
    let all : flight.moved + left_of flight ≡ flight.transfer.length = omega arith in
    ap (λ count. settle (record flight { moved = flight.moved + count }) (move_by flight count a)) count
    ∙ cond-true (flight.moved + left_of flight == flight.transfer.length) _ _ (eq-eqb (flight.moved + left_of flight) flight.transfer.length all)

-- fewer are moved, and it is in flight
pub goes_on : (flight : Flight) (bytes : ℕ) (a : Attached) → bytes < left_of flight
    → move_next (Some flight) bytes a ≡ with_flight (move_by flight bytes a) (Some (record flight { moved = flight.moved + bytes }))
goes_on flight bytes a fewer =
    let count : min bytes (left_of flight) ≡ bytes = omega arith in
    ap (λ count. settle (record flight { moved = flight.moved + count }) (move_by flight count a)) count
    ∙ cond-false (flight.moved + bytes == flight.transfer.length) _ _
    (ne_eqb (flight.moved + bytes) flight.transfer.length (λ same. absurd (omega (arith, same))))

flight_twice : (flight : Flight) (k n : ℕ) (d : DeviceState) (m : Memory)
    → IsMovable flight.transfer.kind d m (flight.transfer.address + flight.moved) (left_of flight) → flight.moved < flight.transfer.length
    → piece n (move_next (Some flight) k (attached d m)) ≡ move_next (Some flight) (k + n) (attached d m)
flight_twice flight k n d m is some =
    let a = attached d m in
    elim (cases_lt k (left_of flight)) as (λ _. piece n (move_next (Some flight) k a) ≡ move_next (Some flight) (k + n) a) [
      | inr enough ↦ ap (piece n) (ends flight k a some enough) ∙ sym (ends flight (k + n) a some (omega arith))
      | inl fewer ↦
          let kind = flight.transfer.kind in
          let start = flight.transfer.address + flight.moved in
          let on = record flight { moved = flight.moved + k } in
          let count = min n (left_of on) in
          let place : flight.transfer.address + (flight.moved + k) ≡ start + k = omega arith in
          let all : flight.moved + k + count ≡ flight.moved + min (k + n) (left_of flight) = omega arith in
          let sizes : k + count ≡ min (k + n) (left_of flight) = omega arith in
          let last = λ (moved : ℕ). record flight { moved = moved } in
          ap (piece n) (goes_on flight k a fewer)
          ∙ ap (λ place. settle (last (flight.moved + k + count)) (move_as kind place count (with_flight (move_by flight k a) (Some on)))) place
          ∙ ap (settle (last (flight.moved + k + count))) (move_twice kind d m start (left_of flight) k count (Some on) is (omega arith))
          ∙ ap₂ (λ moved size. settle (last moved) (move_by flight size a)) all sizes
    ]

ram_left : (m : Memory) (flight : Flight) → IsRamRange m.top flight.transfer.address flight.transfer.length
    → IsRamRange m.top (flight.transfer.address + flight.moved) (left_of flight)
ram_left m flight ram = λ i below.
    let next : flight.transfer.address + (flight.moved + i) ≡ flight.transfer.address + flight.moved + i = omega arith in
    subst (IsRam m.top) next (ram (flight.moved + i) (omega arith))

next_twice_of : (o : Option Flight) (k n : ℕ) (d : DeviceState) (m : Memory) → IsItems d.items → d.offset ≤ length (holds d) → IsMemory m → d.flight ≡ o
    → IfSome o (IsInFlight d)
    → IfSome o (λ (flight : Flight). IsRamRange m.top flight.descriptor 16 × IsRamRange m.top flight.transfer.address flight.transfer.length)
    → piece n (move_next o k (attached d m)) ≡ move_next o (k + n) (attached d m)
next_twice_of None k n d m items offset lawful is in_flight can_move = ap (λ (o : Option Flight). move_next o n (attached d m)) is
next_twice_of (Some flight) k n d m items offset lawful is in_flight can_move =
    flight_twice flight k n d m (record {
      items = items;
      offset = offset;
      memory = lawful;
      ram = ram_left m flight can_move.1;
      fits = in_flight.fits;
    }) in_flight.left

next_none_of : (o : Option Flight) (d : DeviceState) (m : Memory) → d.offset ≤ length (holds d) → d.flight ≡ o → IfSome o (IsInFlight d)
    → move_next o 0 (attached d m) ≡ attached d m
next_none_of None d m offset is in_flight = refl
next_none_of (Some flight) d m offset is in_flight =
    goes_on flight 0 (attached d m) (let l = in_flight.left in omega arith)
    ∙ ap (λ (a : Attached). with_flight a (Some (record flight { moved = flight.moved + 0 })))
    (move_none flight.transfer.kind d m (flight.transfer.address + flight.moved) offset)
    ∙ ap (λ moved. with_flight (attached d m) (Some (record flight { moved = moved }))) (add-zero flight.moved)
    ∙ ap (λ (o : Option Flight). with_flight (attached d m) o) (sym is)

-- pieces behind one, as one
behind : (sizes : List ℕ) (k : ℕ) (a : Attached) → IsDevice a.device → IsMemory a.memory → CanMove a → pieces sizes (piece k a) ≡ piece (k + sum sizes) a
behind [] k a device memory can_move = ap (λ k. piece k a) (sym (add-zero k))
behind (bytes ∷ sizes) k a device memory can_move =
    let sizes_in : k + bytes + sum sizes ≡ k + sum (bytes ∷ sizes) = omega (arith, sum_by-cons (λ (n : ℕ). n) bytes sizes) in
    ap (pieces sizes) (next_twice_of a.device.flight k bytes a.device a.memory device.items device.offset memory refl device.flight can_move)
    ∙ behind sizes (k + bytes) a device memory can_move ∙ ap (λ k. piece k a) sizes_in

pub pieces_are_one : (a : Attached) (sizes : List ℕ) → IsDevice a.device → IsMemory a.memory → CanMove a → pieces sizes a ≡ piece (sum sizes) a
pieces_are_one a [] device memory can_move = sym (next_none_of a.device.flight a.device a.memory device.offset refl device.flight)
pieces_are_one a (bytes ∷ sizes) device memory can_move =
    let sizes_in : bytes + sum sizes ≡ sum (bytes ∷ sizes) = omega (arith, sum_by-cons (λ (n : ℕ). n) bytes sizes) in
    behind sizes bytes a device memory can_move ∙ ap (λ k. piece k a) sizes_in

-- ---- a whole transfer

pub transfer_ends : (a : Attached) (flight : Flight) (sizes : List ℕ) → IsDevice a.device → IsMemory a.memory → CanMove a → a.device.flight ≡ Some flight
    → left_of flight ≤ sum sizes → pieces sizes a ≡ finish flight.descriptor flight.transfer (move_by flight (left_of flight) a)
transfer_ends a flight sizes device memory can_move is enough =
    let some = in_flight a flight device is in
    pieces_are_one a sizes device memory can_move ∙ ap (λ (o : Option Flight). move_next o (sum sizes) a) is ∙ ends flight (sum sizes) a some.left enough

-- bytes beside those that are moved stay
pub beside : (kind : Kind) (d : DeviceState) (m : Memory) (start count address : ℕ) → IsMemory m → (address < start) ⊎ (start + count ≤ address)
    → at (move_as kind start count (attached d m)).memory address ≡ at m address
beside Write d m start count address lawful other = refl
beside Skip d m start count address lawful other = refl
beside Nothing d m start count address lawful other = refl
beside Read d m start count address lawful other =
    let moved = next_of (holds d) d.offset count in
    let behind : start + length moved ≡ start + count = ap (λ n. start + n) (length-next_of (holds d) d.offset count) in
    others_with m start moved address lawful (subst (λ end. (address < start) ⊎ (end ≤ address)) (sym behind) other)

pub keeps_to_range : (a : Attached) (flight : Flight) (bytes address : ℕ) → IsDevice a.device → IsMemory a.memory → a.device.flight ≡ Some flight
    → IsSome (piece bytes a).device.flight
    → (address < flight.transfer.address) ⊎ (flight.transfer.address + flight.transfer.length ≤ address)
    → at (piece bytes a).memory address ≡ at a.memory address
keeps_to_range a flight bytes address device memory is busy other =
    let some = in_flight a flight device is in
    let moved : piece bytes a ≡ move_next (Some flight) bytes a = ap (λ (o : Option Flight). move_next o bytes a) is in
    elim (cases_lt bytes (left_of flight)) as (λ _. at (piece bytes a).memory address ≡ at a.memory address) [
      | inr enough ↦
          let over = moved ∙ ends flight bytes a some.left enough in
          absurd (false≢true (subst (λ (b : Attached). IsSome b.device.flight) over busy))
      | inl fewer ↦
          let on = moved ∙ goes_on flight bytes a fewer in
          let start = flight.transfer.address + flight.moved in
          let away : (address < start) ⊎ (start + bytes ≤ address) =
          elim other as (λ _. (address < start) ⊎ (start + bytes ≤ address)) [ inl l ↦ inl (omega arith) | inr l ↦ inr (omega arith) ] in
          ap (λ (b : Attached). at b.memory address) on ∙ beside flight.transfer.kind a.device a.memory start bytes address memory away
    ]
