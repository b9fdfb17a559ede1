-- A FACS that was appended stands there.
use Rattle.std.specs.List.{AllByRecursion}
use Rattle.vt_layout.specs.Rows.{IsRow}
use Rattle.acpi_records.specs.declared.facs.Facs.{Facs}
use Rattle.acpi_records.specs.Facs.{facs_rows, IsFacs}
use Rattle.acpi_records.proofs.FacsStands.{held_facs}
use Rattle.blob_holes.specs.Blob.{BlobState}
use Rattle.blob_holes.specs.Appended.{IsAppended}
use Rattle.acpi_append.specs.FacsPut.{IsFacsPut}
use Rattle.acpi_append.proofs.Puts.{put_where_held}

pub facs_put : (before after : BlobState) (facs : Facs) → AllByRecursion IsRow (facs_rows facs) → IsAppended 16 before after (facs_rows facs)
    → IsFacsPut before after facs
facs_put before after facs are is =
    put_where_held before after (facs_rows facs) (λ view address place_of. IsFacs view address facs) is
    (λ view address place_of held. held_facs view place_of address facs are held)
