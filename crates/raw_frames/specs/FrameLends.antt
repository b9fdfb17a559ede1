-- What the frames end as, once a `&mut` into one has ended.
use Rattle.std.specs.Prelude.{ℕ, List, Option}
use Rattle.std.specs.Borrow.{Fml, MutBor, Array, Lends, u8}
use Rattle.raw_frames.specs.Windows.{with_window}
use Rattle.raw_frames.specs.contracts.frames.Frames.{the_row}

abbrev pub lends_window : MutBor (List (Option (List ℕ))) → ℕ → ℕ → ℕ → MutBor (List ℕ) → Fml
lends_window s index place len r = Lends the_row (Array u8 0) s r (with_window s.now index place len)
