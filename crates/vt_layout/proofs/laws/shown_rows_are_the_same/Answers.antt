use Rattle.vt_layout.proofs.Same.{same_rows}
use Rattle.vt_layout.proofs.laws.shown_rows_are_the_same.Goals as goal

pub returns : goal.returns
returns c = same_rows
