-- The places with other contents, and what they end as, once a `&mut` into a part of a frame has ended.
use Rattle.std.specs.Prelude.{ℕ, List, Option}
use Rattle.std.specs.Borrow.{Fml, MutBor, Array, Lends, u8}
use Rattle.raw_frames.specs.Windows.{with_window}
use Rattle.raw_frames.specs.declared.places.Places.{Places}
use Rattle.raw_frames.specs.contracts.places.Places.{the_row}

-- the places with other contents
abbrev pub with_slots : Places → List (Option (List ℕ)) → Places
with_slots places slots = record places { slots = slots }

abbrev pub lends_part : MutBor Places → ℕ → ℕ → ℕ → MutBor (List ℕ) → Fml
lends_part places index at len lent = Lends the_row (Array u8 0) places lent (λ bytes. with_slots places.now (with_window places.now.slots index at len bytes))
