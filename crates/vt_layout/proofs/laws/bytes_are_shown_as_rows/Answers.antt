use Rattle.vt_layout.proofs.AsRows.{bytes_shown, bytes_shaped}
use Rattle.vt_layout.proofs.laws.bytes_are_shown_as_rows.Goals as goal

pub returns-clause-shown : goal.returns-clause-shown
returns-clause-shown c = bytes_shown

pub returns-clause-shaped : goal.returns-clause-shaped
returns-clause-shaped c = bytes_shaped
