use Rattle.std.proofs.Common.{◌-◌, ◌≤◌}
use Rattle.acpi_decode.proofs.ReadEntries.{AreRead}
use Rattle.acpi_decode.proofs.entries.read_entries.Given as goal

abbrev pub invariant-loop-place : goal.invariant-loop-place
invariant-loop-place g l = record {
  from : l.front ≤ l.place;
  within : l.place ≤ l.total;
  read : AreRead g.R.EntryReader.types g.R.EntryReader.entry (g.V.MemView.seen l.view) l.table l.front l.place l.total l.list;
}

abbrev pub decreases-loop-place : goal.decreases-loop-place
decreases-loop-place g l = l.total - l.place
