use Rattle.vt_layout.proofs.Spelled.{spelled_shown}
use Rattle.vt_layout.proofs.laws.spelled_rows_are_shown.Goals as goal

pub returns : goal.returns
returns c = spelled_shown
