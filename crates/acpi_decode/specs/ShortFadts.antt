-- An FADT that is read from as many bytes as it has, by where its fields end.
use Rattle.std.specs.Prelude.{ℕ, ◌+◌, nat_le, List, [], ◌∷◌, take, drop, if◌then◌else◌}
use Rattle.vt_bytes.specs.View.{View}
use Rattle.vt_layout.specs.declared.row.Row.{Row}
use Rattle.vt_layout.specs.Rows.{size}
use Rattle.acpi_model.specs.declared.acpi.Table.{Table}
use Rattle.acpi_model.specs.FadtKind.{fadt_kind, fadt_shape, fadt_rows_in}
use Rattle.acpi_decode.specs.Seen.{bytes_from}
use Rattle.acpi_decode.specs.Read.{rows_from, table_of_rows}

-- the rows behind the header that lie wholly inside so many bytes
abbrev pub fadt_front : ℕ → List Row
fadt_front total = take (fadt_rows_in total) fadt_shape

-- the FADT of so many bytes at an address, with its pointers
abbrev pub fadt_at : View → ℕ → ℕ → Table
fadt_at view address total =
    table_of_rows fadt_kind (rows_from (fadt_front total) (bytes_from view address (36 + size (fadt_front total)))) []

-- where fields end, from the first one on, where the counts are those of their rows
abbrev pub ends_of : ℕ → List ℕ → List Row → List ℕ
ends_of place [] rows = []
ends_of place (count ∷ counts) rows = (place + size (take count rows)) ∷ ends_of (place + size (take count rows)) counts (drop count rows)

-- the last of some ends, in order, up to the first that is greater than a length, and another number where there is none
abbrev pub front_end : List ℕ → ℕ → ℕ → ℕ
front_end [] length end = end
front_end (next ∷ ends) length end = if nat_le next length then front_end ends length next else end
