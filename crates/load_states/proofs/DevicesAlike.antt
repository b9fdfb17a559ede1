-- What happens to one device over two memories: it goes on in the same way, where these hold the same bytes in the places that it reads.
use Rattle.std.proofs.Common.{◌≡◌, ℕ, ◌+◌, ◌-◌, ◌≤◌, ◌==◌, Bool, true, false, ◌&&◌, if◌then◌else◌, List, [], ◌∷◌, ◌++◌}
use Rattle.std.proofs.Common.{Option, Some, None, min, arith, refl, sym, ap, subst, ◌∙◌}
use Rattle.vt_bytes.specs.Memory.{Memory, IsMemory, IsRamRange, bytes_at, with_bytes}
use Rattle.vt_bytes.proofs.Memories.{bytes_with}
use Rattle.guest_memory.specs.RamRange.{is_ram_range}
use Rattle.cfg_directory.specs.Items.{with_bytes_at}
use Rattle.cfg_dma.specs.declared.transfer.Finished.{Finished}
use Rattle.cfg_dma.specs.declared.transfer.Flight.{Flight}
use Rattle.cfg_dma.specs.declared.transfer.Kind.{Kind}
use Rattle.cfg_dma.specs.declared.transfer.Kind.TheVariants.{Read, Write, Skip, Nothing}
use Rattle.cfg_dma.specs.Descriptor.{descriptor_in, kind_of, selects, select_of}
use Rattle.cfg_dma.specs.Device.{DeviceState, advanced, with_selected}
use Rattle.cfg_dma.specs.Transfers.{Attached, attached, begin_moving, begin_as, transfer_of, carry_out, start, finish, may_write, move_as}
use Rattle.cfg_dma.specs.Transfers.{move_next, move_by, left_of}
use Rattle.cfg_dma.specs.Transfers.{settle, piece}
use Rattle.cfg_dma.specs.Events.{with_high, with_low}
use Rattle.cfg_dma.specs.Reads.{started, descriptor_bytes}

-- one device, whatever memory it is attached to
abbrev pub OneDevice : Attached → Attached → Type 0
OneDevice a b = b.device ≡ a.device

-- a choice between two
one_of_two : (c : Bool) (a b x y : Attached) → OneDevice a x → OneDevice b y → OneDevice (if c then a else b) (if c then x else y)
one_of_two true a b x y first second = first
one_of_two false a b x y first second = second

-- ---- a transfer that begins

abbrev over : ℕ → Finished → DeviceState → Memory → Attached
over descriptor transfer d m = finish descriptor transfer (attached d m)

abbrev flying : ℕ → Finished → DeviceState → Memory → Attached
flying descriptor transfer d m =
    attached (record d { flight = Some (record { descriptor = descriptor; transfer = transfer; moved = 0 }) }) m

moving_begins : (allowed : Bool) (descriptor : ℕ) (transfer : Finished) (d : DeviceState) (m n : Memory)
    → OneDevice (begin_moving allowed descriptor transfer (attached d m)) (begin_moving allowed descriptor transfer (attached d n))
moving_begins allowed descriptor transfer d m n =
    let failed = record transfer { error = true } in
    one_of_two (transfer.length == 0) (over descriptor transfer d m)
    (if allowed then flying descriptor transfer d m else over descriptor failed d m) (over descriptor transfer d n)
    (if allowed then flying descriptor transfer d n else over descriptor failed d n) refl
    (one_of_two allowed (flying descriptor transfer d m) (over descriptor failed d m) (flying descriptor transfer d n) (over descriptor failed d n) refl refl)

-- what a descriptor asks for begins
begins : (kind : Kind) (descriptor : ℕ) (transfer : Finished) (d : DeviceState) (m n : Memory) → n.top ≡ m.top
    → OneDevice (begin_as kind descriptor transfer (attached d m)) (begin_as kind descriptor transfer (attached d n))
begins Read descriptor transfer d m n top =
    subst (λ t. OneDevice (begin_as Read descriptor transfer (attached d m))
    (begin_moving (is_ram_range t transfer.address transfer.length) descriptor transfer (attached d n))) (sym top)
    (moving_begins (is_ram_range m.top transfer.address transfer.length) descriptor transfer d m n)
begins Write descriptor transfer d m n top =
    subst (λ t. OneDevice (begin_as Write descriptor transfer (attached d m))
    (begin_moving (is_ram_range t transfer.address transfer.length && may_write d transfer.length) descriptor transfer (attached d n))) (sym top)
    (moving_begins (is_ram_range m.top transfer.address transfer.length && may_write d transfer.length) descriptor transfer d m n)
begins Skip descriptor transfer d m n top = refl
begins Nothing descriptor transfer d m n top = refl

-- and so does what a descriptor in memory asks for, where both hold the same there
carry : Bool → ℕ → List ℕ → DeviceState → Memory → Attached
carry ok descriptor bytes d m = if ok then carry_out descriptor (descriptor_in bytes) (attached d m) else attached d m

carries : (ok : Bool) (descriptor : ℕ) (bytes : List ℕ) (d : DeviceState) (m n : Memory) → n.top ≡ m.top
    → OneDevice (carry ok descriptor bytes d m) (carry ok descriptor bytes d n)
unfolding carry
carries ok descriptor bytes d m n top =
    let asked = descriptor_in bytes in
    let device = if selects asked.control then with_selected d (select_of asked.control) else d in
    one_of_two ok (carry_out descriptor asked (attached d m)) (attached d m) (carry_out descriptor asked (attached d n)) (attached d n)
    (begins (kind_of asked.control) descriptor (transfer_of asked device) device m n top) refl

starts : (descriptor : ℕ) (d : DeviceState) (m n : Memory) → n.top ≡ m.top → bytes_at n descriptor 16 ≡ bytes_at m descriptor 16
    → OneDevice (start descriptor (attached d m)) (start descriptor (attached d n))
unfolding carry
starts descriptor d m n top same =
    let cleared = record d { address = 0 } in
    let first = carry (is_ram_range m.top descriptor 16) descriptor (bytes_at m descriptor 16) cleared m in
    subst (λ bytes. OneDevice first (carry (is_ram_range n.top descriptor 16) descriptor bytes cleared n)) (sym same)
    (subst (λ t. OneDevice first (carry (is_ram_range t descriptor 16) descriptor (bytes_at m descriptor 16) cleared n)) (sym top)
    (carries (is_ram_range m.top descriptor 16) descriptor (bytes_at m descriptor 16) cleared m n top))

-- the register holds the descriptor's address alone
register_holds : (register descriptor : ℕ) → with_low (with_high register 0) descriptor ≡ descriptor
register_holds register descriptor = omega arith

-- A transfer is started: its descriptor is written first, so both memories hold it.
pub one_started : (descriptor control size address : ℕ) (d : DeviceState) (m n : Memory) → IsMemory m → IsMemory n → n.top ≡ m.top
    → IsRamRange m.top descriptor 16
    → OneDevice (started descriptor control size address (attached d m)) (started descriptor control size address (attached d n))
one_started descriptor control size address d m n memory other top ram =
    let bytes = descriptor_bytes control size address in
    let there = record d { address = with_high d.address 0 } in
    let in_one = with_bytes m descriptor bytes in
    let in_other = with_bytes n descriptor bytes in
    let written : bytes_at in_one descriptor 16 ≡ bytes = bytes_with m descriptor bytes memory ram in
    let also : bytes_at in_other descriptor 16 ≡ bytes =
    bytes_with n descriptor bytes other (subst (λ t. IsRamRange t descriptor 16) (sym top) ram) in
    subst (λ at. OneDevice (start at (attached there in_one)) (start at (attached there in_other))) (sym (register_holds d.address descriptor))
    (starts descriptor there in_one in_other top (also ∙ sym written))

-- ---- a piece of a transfer

-- Both memories hold the same bytes where a write in flight goes on.
pub record HoldOneNumber (d : DeviceState) (m n : Memory) : Type 0 where
  pub bytes : (f : Flight) → d.flight ≡ Some f → f.transfer.kind ≡ Write → (count : ℕ) → count ≤ left_of f
      → bytes_at n (f.transfer.address + f.moved) count ≡ bytes_at m (f.transfer.address + f.moved) count

moves : (kind : Kind) (address count : ℕ) (d : DeviceState) (m n : Memory) → (kind ≡ Write → bytes_at n address count ≡ bytes_at m address count)
    → OneDevice (move_as kind address count (attached d m)) (move_as kind address count (attached d n))
moves Read address count d m n same = refl
moves Write address count d m n same =
    ap (λ bytes. record (advanced d count) { items = with_bytes_at d.items d.select d.offset bytes }) (same refl)
moves Skip address count d m n same = refl
moves Nothing address count d m n same = refl

settles : (f : Flight) (a b : Attached) → OneDevice a b → OneDevice (settle f a) (settle f b)
settles f a b same =
    one_of_two (f.moved == f.transfer.length) (finish f.descriptor f.transfer a) (record a { device = record a.device { flight = Some f } })
    (finish f.descriptor f.transfer b) (record b { device = record b.device { flight = Some f } })
    (ap (λ (d : DeviceState). record d { flight = None; finished = d.finished ++ f.transfer ∷ []; spare = d.spare - 1 }) same)
    (ap (λ (d : DeviceState). record d { flight = Some f }) same)

next_moves : (o : Option Flight) (bytes : ℕ) (d : DeviceState) (m n : Memory)
    → ((f : Flight) → o ≡ Some f → f.transfer.kind ≡ Write → (count : ℕ) → count ≤ left_of f
    → bytes_at n (f.transfer.address + f.moved) count ≡ bytes_at m (f.transfer.address + f.moved) count)
    → OneDevice (move_next o bytes (attached d m)) (move_next o bytes (attached d n))
next_moves None bytes d m n same = refl
next_moves (Some f) bytes d m n same =
    let count = min bytes (left_of f) in
    settles (record f { moved = f.moved + count }) (move_by f count (attached d m)) (move_by f count (attached d n))
    (moves f.transfer.kind (f.transfer.address + f.moved) count d m n (λ writes. same f refl writes count (omega arith)))

pub one_piece : (bytes : ℕ) (d : DeviceState) (m n : Memory) → HoldOneNumber d m n
    → OneDevice (piece bytes (attached d m)) (piece bytes (attached d n))
one_piece bytes d m n same = next_moves d.flight bytes d m n same.bytes
