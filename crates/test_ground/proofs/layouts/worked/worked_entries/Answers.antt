use Rattle.std.proofs.Common.{arith, refl}
use Rattle.vt_layout.specs.View.{bytes_in}
use Rattle.test_ground.proofs.layouts.worked.worked_entries.Goals as goal

pub returns : goal.returns
unfolding bytes_in
returns c = (
  8,
  record { typed = refl; long_enough = omega arith; shown = (refl, (refl, (refl, (refl, (refl, tt))))) },
  omega arith,
  (
    9,
    record { typed = refl; long_enough = omega arith; shown = (refl, (refl, (refl, (refl, (refl, tt))))) },
    omega arith,
    (3, record { typed = (refl, omega arith); long_enough = refl; shown = (refl, (refl, tt)) }, omega arith, refl),
  ),
)
