-- Bytes that stand for rows: those of rows that have no holes.
use Rattle.std.specs.Prelude.{◌≡◌, ℕ, List, length}
use Rattle.std.specs.List.{AllByRecursion}
use Rattle.vt_layout.specs.declared.row.Row.{Row}
use Rattle.vt_layout.specs.declared.row.Row.TheVariants.{Bytes}
use Rattle.vt_layout.specs.Rows.{spelled, IsRow, IsPlain}

-- Plain rows, neither pointers nor sums, whose values fit them, are written as these bytes.
pub record Spells (rows : List Row) (bytes : List ℕ) : Type 0 where
  pub plain : AllByRecursion IsPlain rows
  pub fit : AllByRecursion IsRow rows
  pub written : spelled rows ≡ bytes

-- the one row that spells bytes, however many they are
abbrev pub bytes_row : List ℕ → Row
bytes_row bytes = Bytes (length bytes) bytes
