-- Rows without sums fit any layout.
use Rattle.std.proofs.Common.{ℕ, ◌+◌, List, [], ◌∷◌}
use Rattle.std.specs.List.{AllByRecursion}
use Rattle.vt_layout.specs.declared.row.Row.{Row}
use Rattle.vt_layout.specs.declared.row.Row.TheVariants.{Sum}
use Rattle.vt_layout.specs.Rows.{width_of}
use Rattle.blob_holes.specs.Rows.{free_behind, IsSum, IsUnsummed, SumsFit}

fits : (total free offset : ℕ) (row : Row) → IsUnsummed row → IsSum total free offset row
fits total free offset (Sum covers) plain = absurd plain
fits total free offset row plain = tt

pub sums_fit : (total free offset : ℕ) (rows : List Row) → AllByRecursion IsUnsummed rows → SumsFit total free offset rows
sums_fit total free offset [] plain = tt
sums_fit total free offset (row ∷ rows) plain =
    (fits total free offset row plain.0, sums_fit total (free_behind free row) (offset + width_of row) rows plain.1)
