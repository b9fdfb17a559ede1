-- A file of tables with a FACS at its end (ACPI 6.5, 5.2.10), which no XSDT names.
use Rattle.acpi_records.specs.declared.facs.Facs.{Facs}
use Rattle.acpi_records.specs.Facs.{facs_rows, IsFacs}
use Rattle.blob_holes.specs.Blob.{BlobState, aligned}
use Rattle.blob_holes.specs.Rows.{with_rows}
use Rattle.acpi_append.specs.Tables.{IsPut}

abbrev pub with_facs : BlobState → Facs → BlobState
with_facs blob facs = with_rows (aligned 16 blob) (facs_rows facs)

-- it was appended, and stands there
abbrev pub IsFacsPut : BlobState → BlobState → Facs → Type 0
IsFacsPut before after facs = IsPut before after (facs_rows facs) (λ view address place_of. IsFacs view address facs)
