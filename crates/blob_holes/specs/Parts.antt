-- Parts of a layout behind its rows: bytes, and dwords with a pointer's hole.
use Rattle.std.specs.Prelude.{◌≡◌, List, [], ◌∷◌, ◌++◌, map}
use Rattle.vt_layout.specs.declared.row.Row.{Row}
use Rattle.vt_layout.specs.declared.row.Row.TheVariants.{Pointer as PointerRow}
use Rattle.blob_holes.specs.declared.part.Part.{Part}
use Rattle.blob_holes.specs.declared.part.Part.TheVariants.{Bytes, Pointer}
use Rattle.blob_holes.specs.Plain.{Spells, bytes_row}

-- the one row that a part stands as
abbrev pub part_row : Part → Row
part_row (Bytes bytes) = bytes_row bytes.now
part_row (Pointer target offset) = PointerRow 4 target offset

abbrev pub part_rows : List Part → List Row
part_rows parts = map part_row parts

-- Rows stand for parts: for bytes any plain rows that spell them, for a pointer its row of 4 bytes.
abbrev pub StandFor : List Part → List Row → Type 0
StandFor [] rows = rows ≡ []
StandFor (Bytes bytes ∷ parts) rows =
    (front rest : List Row) × (rows ≡ front ++ rest) × Spells front bytes.now × StandFor parts rest
StandFor (Pointer target offset ∷ parts) rows = (rest : List Row) × (rows ≡ PointerRow 4 target offset ∷ rest) × StandFor parts rest
