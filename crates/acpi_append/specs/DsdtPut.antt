-- A file of tables with a DSDT at its end (ACPI 6.5, 5.2.11.1), which no XSDT names.
use Rattle.std.specs.Prelude.{List}
use Rattle.vt_layout.specs.declared.row.Row.{Row}
use Rattle.vt_layout.specs.Rows.{linked, spelled}
use Rattle.aml_terms.specs.declared.term.Term.{Term}
use Rattle.aml_terms.specs.Trees.{views}
use Rattle.aml_terms.specs.Grammar.{Aml}
use Rattle.acpi_records.specs.declared.header.Head.{Head}
use Rattle.acpi_model.specs.declared.dsdt.Dsdt.TheVariants.{Terms}
use Rattle.acpi_model.specs.Found.{IsDsdt, IsSpelledIn, dsdt_rows}
use Rattle.blob_holes.specs.Blob.{BlobState, aligned}
use Rattle.blob_holes.specs.Rows.{with_rows}
use Rattle.acpi_append.specs.Tables.{IsPut}

-- with these rows as its definition block
abbrev pub with_dsdt : BlobState → Head → List Row → BlobState
with_dsdt blob head block = with_rows (aligned 16 blob) (dsdt_rows head block)

-- It was appended, and stands there, as whatever terms its definition block spells once its pointers have their targets' places added.
abbrev pub IsDsdtPut : BlobState → BlobState → Head → List Row → Type 0
IsDsdtPut before after head block =
    IsPut before after (dsdt_rows head block) (λ view address place_of.
    (terms : List Term) → IsSpelledIn view block → Aml (views terms) (spelled (linked place_of block)) → IsDsdt view address (Terms head terms))
