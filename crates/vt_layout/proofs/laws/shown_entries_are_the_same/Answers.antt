use Rattle.vt_layout.proofs.Entries.{same_entries}
use Rattle.vt_layout.proofs.laws.shown_entries_are_the_same.Goals as goal

pub returns : goal.returns
returns c = same_entries
