-- A DSDT that was appended stands there.
use Rattle.std.proofs.Common.{List, [], ◌∷◌, sym, subst}
use Rattle.std.specs.List.{AllByRecursion}
use Rattle.vt_bytes.proofs.Each.{each_append, each_weaker}
use Rattle.vt_layout.specs.declared.row.Row.{Row}
use Rattle.vt_layout.specs.declared.row.Row.TheVariants.{Sum}
use Rattle.vt_layout.specs.Rows.{IsRow, IsPlain}
use Rattle.acpi_records.specs.declared.header.Head.{Head}
use Rattle.acpi_model.specs.Found.{IsBlockRow, dsdt_rows}
use Rattle.acpi_model.proofs.Dsdts.{held_dsdt}
use Rattle.blob_holes.specs.declared.part.Part.{Part}
use Rattle.blob_holes.specs.declared.part.Part.TheVariants.{Bytes, Pointer}
use Rattle.blob_holes.specs.Blob.{BlobState}
use Rattle.blob_holes.specs.Appended.{IsAppended}
use Rattle.blob_holes.specs.Parts.{StandFor}
use Rattle.acpi_append.specs.DsdtPut.{IsDsdtPut}
use Rattle.acpi_append.proofs.Puts.{put_where_held}

-- rows that stand for parts have no checksum
plain_block : (row : Row) → IsPlain row → IsBlockRow row
plain_block (Sum covers) plain = absurd plain
plain_block row plain = tt

pub stand_block : (parts : List Part) (rows : List Row) → StandFor parts rows → AllByRecursion IsBlockRow rows
stand_block [] rows stand = subst (AllByRecursion IsBlockRow) (sym stand) tt
stand_block (Bytes bytes ∷ parts) rows stand =
    subst (AllByRecursion IsBlockRow) (sym stand.2)
    (each_append IsBlockRow stand.0 stand.1 (each_weaker IsPlain IsBlockRow plain_block stand.0 stand.3.plain) (stand_block parts stand.1 stand.4))
stand_block (Pointer target offset ∷ parts) rows stand =
    subst (AllByRecursion IsBlockRow) (sym stand.1) (tt, stand_block parts stand.0 stand.2)

pub dsdt_put : (before after : BlobState) (head : Head) (block : List Row) → AllByRecursion IsRow (dsdt_rows head block)
    → AllByRecursion IsBlockRow block → IsAppended 16 before after (dsdt_rows head block) → IsDsdtPut before after head block
dsdt_put before after head block are body is =
    put_where_held before after (dsdt_rows head block) _ is
    (λ view address place_of held terms either spelled. held_dsdt view place_of address head block terms are body held either spelled)
