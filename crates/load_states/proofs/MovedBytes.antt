-- How far the transfer in flight is: after a piece, and once it is started.
use Rattle.std.proofs.Common.{◌≡◌, ℕ, ◌+◌, ◌-◌, ◌==◌, Bool, true, false, if◌then◌else◌, ◌&&◌, min, Option, None, Some, refl, sym, ap, subst, ◌∙◌}
use Rattle.std.specs.Prelude.{IfSome}
use Rattle.vt_bytes.specs.Memory.{bytes_at, with_bytes}
use Rattle.guest_memory.specs.RamRange.{is_ram_range}
use Rattle.cfg_dma.specs.declared.transfer.Finished.{Finished}
use Rattle.cfg_dma.specs.declared.transfer.Flight.{Flight}
use Rattle.cfg_dma.specs.declared.transfer.Kind.{Kind}
use Rattle.cfg_dma.specs.declared.transfer.Kind.TheVariants.{Read, Write, Skip, Nothing}
use Rattle.cfg_dma.specs.Descriptor.{descriptor_in, kind_of, selects, select_of}
use Rattle.cfg_dma.specs.Device.{with_selected}
use Rattle.cfg_dma.specs.Transfers.{Attached, attached, begin_moving, begin_as, transfer_of, carry_out, start, finish, may_write, move_next}
use Rattle.cfg_dma.specs.Transfers.{move_by, left_of, piece}
use Rattle.cfg_dma.specs.Events.{with_high, with_low}
use Rattle.cfg_dma.specs.Reads.{started, descriptor_bytes}
use Rattle.load_states.specs.Pace.{moved_in, advanced_by}

-- ---- a piece

settled : (c : Bool) (a b : Attached) (now : ℕ) → moved_in a.device.flight ≡ None → moved_in b.device.flight ≡ Some now
    → moved_in (if c then a else b).device.flight ≡ (if c then None else Some now)
settled true a b now over on = over
settled false a b now over on = on

next_paced : (o : Option Flight) (total bytes : ℕ) (a : Attached) → a.device.flight ≡ o → IfSome o (λ (f : Flight). f.transfer.length ≡ total)
    → moved_in (move_next o bytes a).device.flight ≡ advanced_by total bytes (moved_in o)
next_paced None total bytes a is long = ap moved_in is
next_paced (Some f) total bytes a is long =
    let count = min bytes (left_of f) in
    let g : Flight = record f { moved = f.moved + count } in
    let b : Attached = move_by f count a in
    settled (g.moved == g.transfer.length) (finish g.descriptor g.transfer b) (record b { device = record b.device { flight = Some g } }) g.moved refl refl
    ∙ ap (λ (n : ℕ). let now = f.moved + min bytes (n - f.moved) in if now == n then (let o : Option ℕ = None in o) else Some now) long

-- so many bytes more are moved
pub piece_paced : (total bytes : ℕ) (a : Attached) → IfSome a.device.flight (λ (f : Flight). f.transfer.length ≡ total)
    → moved_in (piece bytes a).device.flight ≡ advanced_by total bytes (moved_in a.device.flight)
piece_paced total bytes a long = next_paced a.device.flight total bytes a refl long

-- ---- a start

-- nothing was moved of what is in flight
abbrev pub IsFresh : Attached → Type 0
IsFresh a = IfSome a.device.flight (λ (f : Flight). f.moved ≡ 0)

fresh_choice : (c : Bool) (a b : Attached) → IsFresh a → IsFresh b → IsFresh (if c then a else b)
fresh_choice true a b first second = first
fresh_choice false a b first second = second

moving_fresh : (allowed : Bool) (descriptor : ℕ) (transfer : Finished) (a : Attached) → IsFresh (begin_moving allowed descriptor transfer a)
moving_fresh allowed descriptor transfer a =
    let flying : Attached =
    record a { device = record a.device { flight = Some (record { descriptor = descriptor; transfer = transfer; moved = 0 }) } } in
    fresh_choice (transfer.length == 0) (finish descriptor transfer a)
    (if allowed then flying else finish descriptor (record transfer { error = true }) a) tt
    (fresh_choice allowed flying (finish descriptor (record transfer { error = true }) a) refl tt)

begun_fresh : (kind : Kind) (descriptor : ℕ) (transfer : Finished) (a : Attached) → IsFresh (begin_as kind descriptor transfer a)
begun_fresh Read descriptor transfer a = moving_fresh (is_ram_range a.memory.top transfer.address transfer.length) descriptor transfer a
begun_fresh Write descriptor transfer a =
    moving_fresh (is_ram_range a.memory.top transfer.address transfer.length && may_write a.device transfer.length) descriptor transfer a
begun_fresh Skip descriptor transfer a = tt
begun_fresh Nothing descriptor transfer a = tt

start_fresh : (descriptor : ℕ) (a : Attached) → a.device.flight ≡ None → IsFresh (start descriptor a)
start_fresh descriptor a idle =
    let cleared : Attached = record a { device = record a.device { address = 0 } } in
    let asked = descriptor_in (bytes_at a.memory descriptor 16) in
    let device = if selects asked.control then with_selected cleared.device (select_of asked.control) else cleared.device in
    fresh_choice (is_ram_range a.memory.top descriptor 16) (carry_out descriptor asked cleared) cleared
    (begun_fresh (kind_of asked.control) descriptor (transfer_of asked device) (record cleared { device = device }))
    (subst (λ (o : Option Flight). IfSome o (λ f. f.moved ≡ 0)) (sym idle) tt)

-- of what is started
pub started_fresh : (descriptor control size address : ℕ) (a : Attached) → a.device.flight ≡ None → IsFresh (started descriptor control size address a)
started_fresh descriptor control size address a idle =
    start_fresh (with_low (with_high a.device.address 0) descriptor)
    (attached (record a.device { address = with_high a.device.address 0 }) (with_bytes a.memory descriptor (descriptor_bytes control size address))) idle

-- so it is in flight with nothing moved
pub fresh_flight : (a : Attached) (f : Flight) → IsFresh a → a.device.flight ≡ Some f → moved_in a.device.flight ≡ Some 0
fresh_flight a f fresh is =
    let none : f.moved ≡ 0 = subst (λ (o : Option Flight). IfSome o (λ g. g.moved ≡ 0)) is fresh in ap moved_in is ∙ ap Some none
