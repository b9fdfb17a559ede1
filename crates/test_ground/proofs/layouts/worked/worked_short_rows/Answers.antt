use Rattle.std.proofs.Common.{arith, refl}
use Rattle.vt_layout.specs.View.{bytes_in}
use Rattle.test_ground.proofs.layouts.worked.worked_short_rows.Goals as goal

pub returns-clause-short : goal.returns-clause-short
unfolding bytes_in
returns-clause-short c = (
  (λ within. refl, λ past. absurd (omega (arith, past))),
  ((λ within. absurd (omega (arith, within)), λ past. refl), ((λ within. absurd (omega (arith, within)), λ past. refl), tt)),
)

pub returns-clause-whole : goal.returns-clause-whole
unfolding bytes_in
returns-clause-whole c = (
  (λ within. refl, λ past. absurd (omega (arith, past))),
  ((λ within. refl, λ past. absurd (omega (arith, past))), ((λ within. refl, λ past. absurd (omega (arith, past))), tt)),
)
