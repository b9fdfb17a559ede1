use Rattle.blob_holes.proofs.RowsKept.{layout_kept, layout_appended}
use Rattle.blob_holes.proofs.laws.rows_at_its_end_are_appended.Goals as goal

pub returns : goal.returns
returns c = record { kept = layout_kept; appended = layout_appended }
