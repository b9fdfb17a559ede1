use Rattle.vt_layout.proofs.Filled.{same_filled}
use Rattle.vt_layout.proofs.laws.filled_rows_are_the_same.Goals as goal

pub returns : goal.returns
returns c = same_filled
