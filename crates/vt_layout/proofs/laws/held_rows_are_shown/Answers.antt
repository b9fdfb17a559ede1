use Rattle.vt_layout.proofs.Shows.{shown_rows}
use Rattle.vt_layout.proofs.laws.held_rows_are_shown.Goals as goal

pub returns : goal.returns
returns c = shown_rows
