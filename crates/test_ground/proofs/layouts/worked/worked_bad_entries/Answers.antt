use Rattle.std.proofs.Common.{◌-◌, ◌≤◌, ℕ, [], arith, refl, inl, inr, take}
use Rattle.vt_layout.specs.View.{bytes_in, view_of}
use Rattle.vt_layout.specs.BadEntries.{FirstBad}
use Rattle.test_ground.specs.Worked.{types, entries, entries_bytes}
use Rattle.test_ground.proofs.layouts.worked.worked_bad_entries.Goals as goal

-- the two processors stand in front of what is bad behind them
processors : (count : ℕ) → 17 ≤ count → FirstBad types (view_of entries_bytes) 0 17 (count - 8 - 9) [] 17
    → FirstBad types (view_of entries_bytes) 0 0 count (take 2 entries) 17
unfolding bytes_in
processors count within bad = (
  8,
  record { typed = refl; long_enough = omega arith; shown = (refl, (refl, (refl, (refl, (refl, tt))))) },
  omega (arith, within),
  (
    9,
    record { typed = refl; long_enough = omega arith; shown = (refl, (refl, (refl, (refl, (refl, tt))))) },
    omega (arith, within),
    bad,
  ),
)

pub returns : goal.returns
unfolding bytes_in
returns c = record {
  runs_past = processors 19 (omega arith) (refl, omega arith, inr (0x7F, 3, refl, refl, inr (omega arith)));
  one_byte = processors 18 (omega arith) (refl, omega arith, inl (omega arith));
  too_short = (refl, omega arith, inr (0, 7, refl, refl, inl (omega arith)));
}
