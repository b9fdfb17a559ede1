-- Bytes with one entry more behind them.
use Rattle.std.specs.Prelude.{ℕ, List, ◌++◌}
use Rattle.vt_layout.specs.declared.row.Row.{Row}
use Rattle.vt_layout.specs.Entries.{Entry, entry_rows}
use Rattle.blob_holes.specs.Plain.{Spells}

-- whatever rows the bytes spelled before, they spell those and the rows of an entry
abbrev pub IsEntryPut : List ℕ → List ℕ → Entry → Type 0
IsEntryPut before after entry = (rows : List Row) → Spells rows before → Spells (rows ++ entry_rows entry) after
