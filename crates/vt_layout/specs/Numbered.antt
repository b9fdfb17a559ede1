-- Rows with the numbers of their strings (DMTF DSP0134, version 3.0.0, 6.1.3).
use Rattle.std.specs.Prelude.{ℕ, List, [], ◌∷◌, drop, slice_index_or}
use Rattle.vt_layout.specs.declared.row.Row.{Row}
use Rattle.vt_layout.specs.declared.row.Row.TheVariants.{StringNumber}

-- Rows with numbers of strings put in, in order. Where there are too few, those that are there stay.
abbrev pub numbered : List ℕ → List Row → List Row
numbered numbers [] = []
numbered numbers (StringNumber number ∷ rows) = StringNumber (slice_index_or numbers 0 number) ∷ numbered (drop 1 numbers) rows
numbered numbers (row ∷ rows) = row ∷ numbered numbers rows
