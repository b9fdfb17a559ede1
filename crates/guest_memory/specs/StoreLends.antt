-- What a store ends as, once what it lent to be changed has come back.
use Rattle.std.specs.Prelude.{ℕ, List}
use Rattle.std.specs.Borrow.{Fml, MutBor, Array, Lends, u8}
use Rattle.guest_memory.specs.Store.{Stored, with_part}
use Rattle.guest_memory.specs.contracts.store.Store.{the_row}

abbrev pub lends_part : MutBor Stored → ℕ → ℕ → ℕ → MutBor (List ℕ) → Fml
lends_part s index place len r = Lends the_row (Array u8 0) s r (with_part s.now index place len)

-- no bytes were lent
abbrev pub lends_nothing : MutBor Stored → MutBor (List ℕ) → Fml
lends_nothing s r = Lends the_row (Array u8 0) s r (λ bytes. s.now)
