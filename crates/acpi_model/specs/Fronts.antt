-- The front of a layout that ends with the last field wholly inside so many bytes, where a field has one row or more.
use Rattle.std.specs.Prelude.{ℕ, ◌+◌, nat_le, List, [], ◌∷◌, take, drop, if◌then◌else◌}
use Rattle.vt_layout.specs.declared.row.Row.{Row}
use Rattle.vt_layout.specs.Rows.{size}

-- How many rows it has. The counts are those of the rows of each field, in order, and the first begins at a place. Behind a field that ends
-- past so many bytes there is none.
abbrev pub rows_inside : List ℕ → ℕ → ℕ → List Row → ℕ
rows_inside [] place total rows = 0
rows_inside (count ∷ counts) place total rows =
    if nat_le (place + size (take count rows)) total
    then count + rows_inside counts (place + size (take count rows)) total (drop count rows) else 0
