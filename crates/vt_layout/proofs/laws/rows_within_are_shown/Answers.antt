use Rattle.vt_layout.proofs.Filled.{shown_within, filled_within}
use Rattle.vt_layout.proofs.laws.rows_within_are_shown.Goals as goal

pub returns : goal.returns
returns c view start end address fillings rows same within =
    (shown_within view start end address fillings rows within, filled_within view start end address fillings rows same within)
