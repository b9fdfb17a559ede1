use Rattle.vt_layout.proofs.InView.{bytes_as_rows}
use Rattle.vt_layout.proofs.laws.bytes_of_a_view_are_rows.Goals as goal

pub returns : goal.returns
returns c = bytes_as_rows
