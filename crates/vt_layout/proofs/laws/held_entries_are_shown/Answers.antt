use Rattle.vt_layout.proofs.Entries.{shown_entries}
use Rattle.vt_layout.proofs.laws.held_entries_are_shown.Goals as goal

pub returns : goal.returns
returns c = shown_entries
