-- A machine's tables are few and have few bytes, by the sizes of what stands behind their headers.
use Rattle.std.proofs.Common.{◌≡◌, ◌+◌, ◌*◌, ◌≤◌, List, [], ◌∷◌, length, arith}
use Rattle.vt_layout.specs.Rows.{size}
use Rattle.machine_desc.specs.declared.machine.Machine.{Machine}
use Rattle.machine_desc.specs.declared.machine.Acpi.{Acpi}
use Rattle.machine_desc.specs.Rules.{IsAccepted}
use Rattle.acpi_records.specs.Header.{FitsHead}
use Rattle.acpi_model.specs.declared.acpi.Table.{Table}
use Rattle.acpi_model.specs.Kinds.{rows_behind}
use Rattle.acpi_model.specs.Xsdt.{most_entries}
use Rattle.acpi_model.specs.Acpi.{layout_of, rows_of, bytes_behind, parts_of, tables_of}
use Rattle.acpi_model.proofs.Parts.{length-present}
use Rattle.blob_holes.specs.Blob.{BlobState}
use Rattle.vm_image.specs.Image.{tables_begin}
use Rattle.vm_image.specs.AcpiHeld.{most_bytes, tables_limit, AreFew}
use Rattle.vm_image.proofs.Begin.{may_begin}
use Rattle.acpi_model.proofs.MachineTables.{machine_bytes}

-- each table takes 24 bytes in front of it and in the XSDT, 36 for its header, and those behind it
pub most_by_sizes : (tables : List Table) → most_bytes tables ≡ length tables * 60 + bytes_behind tables
most_by_sizes [] = omega arith
most_by_sizes (table ∷ tables) =
    let first : size (rows_of table) ≡ 36 + size (rows_behind (layout_of table)) = omega arith in
    omega (arith, first, most_by_sizes tables)

-- so tables are few that have few bytes behind their headers
pub few_by_sizes : (begin : BlobState) (tables : List Table) → length tables ≤ most_entries
    → length begin.bytes + length tables * 60 + bytes_behind tables ≤ tables_limit → AreFew begin tables
few_by_sizes begin tables number bytes = record { number = number; bytes = omega (arith, bytes, most_by_sizes tables) }

-- those of an accepted machine, which are as many as its parts at most
pub tables_few : (m : Machine) (acpi : Acpi) → IsAccepted m → FitsHead acpi → AreFew (tables_begin m acpi) (tables_of m acpi)
tables_few m acpi accepted fits =
    let number = length-present (parts_of m acpi) in
    few_by_sizes (tables_begin m acpi) (tables_of m acpi) (omega (arith, number))
    (omega (arith, number, (may_begin m acpi accepted fits).few, machine_bytes m acpi accepted))
