-- A file to which a layout was appended.
use Rattle.std.specs.Prelude.{◌≡◌, ℕ, ◌+◌, List, ◌++◌, length}
use Rattle.vt_layout.specs.declared.row.Row.{Row}
use Rattle.vt_layout.specs.Rows.{size}
use Rattle.vt_layout.specs.Shown.{LayoutHeld}
use Rattle.blob_holes.specs.declared.part.Part.{Part}
use Rattle.blob_holes.specs.Blob.{BlobState, next_place, aligned}
use Rattle.blob_holes.specs.Grown.{Extends, IsLinkable}
use Rattle.blob_holes.specs.Held.{WhereHeld}
use Rattle.blob_holes.specs.Rows.{with_rows}
use Rattle.blob_holes.specs.Parts.{StandFor}

-- The rows of a layout were appended to a file, at the next multiple of so many bytes: it is exactly that file, and has so many
-- bytes; it has only grown, and can be linked as before; and wherever a view holds it with its holes filled, it holds the rows as
-- they were written.
pub record IsAppended (align : ℕ) (before after : BlobState) (rows : List Row) : Type 0 where
  pub file_is : after ≡ with_rows (aligned align before) rows
  pub size_is : length after.bytes ≡ next_place align before + size rows
  pub grown : Extends before after
  pub linkable : IsLinkable before → IsLinkable after
  pub held : WhereHeld after (λ view address place_of. LayoutHeld view place_of (address + next_place align before) rows)

-- The same of rows and parts behind them: whatever rows stand for the parts, these stand behind the others.
abbrev pub IsAppendedWith : ℕ → BlobState → BlobState → List Row → List Part → Type 0
IsAppendedWith align before after rows parts = (more : List Row) → StandFor parts more → IsAppended align before after (rows ++ more)
