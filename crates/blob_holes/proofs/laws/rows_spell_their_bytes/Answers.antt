use Rattle.blob_holes.proofs.Spelled.{one_row, spells-append}
use Rattle.blob_holes.proofs.laws.rows_spell_their_bytes.Goals as goal

pub returns : goal.returns
returns c = record { one = one_row; behind = spells-append }
