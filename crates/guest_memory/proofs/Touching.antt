-- What is touched by a write, and by one change after another.
use Rattle.std.proofs.Common.{◌≡◌, ℕ, ◌+◌, ◌<◌, ◌≤◌, List, Bool, sym, subst}
use Rattle.guest_memory.specs.Touched.{TouchesOnly, touched_at}
use Rattle.guest_memory.proofs.Touches.{touches_range, touches_then, touches_weaker}

-- so many bytes are written, each at an address that has a property
pub touches_put : (Has : ℕ → Type 0) (top address count : ℕ) (before now : List Bool) → now ≡ touched_at top address count before
    → ((place : ℕ) → (address ≤ place) × (place < address + count) → Has place) → TouchesOnly Has top before now
touches_put Has top address count before now is has =
    subst (λ (touched : List Bool). TouchesOnly Has top before touched) (sym is)
    (touches_weaker (λ place. (address ≤ place) × (place < address + count)) Has top before (touched_at top address count before) has
    (touches_range top address count before))

-- More is touched, behind a change that leaves the top, and at addresses that have the property too.
pub touches_more : (Has Also : ℕ → Type 0) (top top_between : ℕ) (before between now : List Bool) → TouchesOnly Has top before between
    → top_between ≡ top → ((place : ℕ) → Also place → Has place) → TouchesOnly Also top_between between now → TouchesOnly Has top before now
touches_more Has Also top top_between before between now first same has second =
    touches_then Has top before between now first
    (touches_weaker Also Has top between now has (subst (λ (t : ℕ). TouchesOnly Also t between now) same second))
