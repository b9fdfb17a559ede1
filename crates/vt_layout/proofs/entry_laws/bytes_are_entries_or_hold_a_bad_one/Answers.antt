use Rattle.vt_layout.proofs.BadEntries.{entries_or_bad, never_both, one_bad, entry_stands}
use Rattle.vt_layout.proofs.entry_laws.bytes_are_entries_or_hold_a_bad_one.Goals as goal

pub returns : goal.returns
returns c = record { either = entries_or_bad; not_both = never_both; one_bad = one_bad; stands = entry_stands }
