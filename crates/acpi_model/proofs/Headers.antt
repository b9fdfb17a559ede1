-- Headers whose values fit their rows.
use Rattle.std.proofs.Common.{◌≡◌, ℕ, ◌-◌, ◌^◌, ◌<◌, ◌≤◌, List, length, replicate, arith, refl, length-append}
use Rattle.std.proofs.lemmas.List.{length-replicate}
use Rattle.std.specs.List.{AllByRecursion}
use Rattle.vt_layout.specs.Rows.{IsRow}
use Rattle.machine_desc.specs.declared.machine.Acpi.{Acpi}
use Rattle.acpi_records.specs.declared.header.Head.{Head}
use Rattle.acpi_records.specs.Header.{header_rows, IsFittingHead, FitsHead, padded, head_of}

-- a padded text fills its field
pub length-padded : (count : ℕ) (text : List ℕ) → length text ≤ count → length (padded count text) ≡ count
length-padded count text short = omega (arith, length-append text (replicate (count - length text) 0x20), length-replicate {A = ℕ} (count - length text) 0x20)

-- the header of a maker's tables fits
pub head_fits : (acpi : Acpi) (revision : ℕ) → FitsHead acpi → revision < 2 ^ 8 → IsFittingHead (head_of acpi revision)
head_fits acpi revision fits few = record {
  revision = few;
  oem_id = length-padded 6 acpi.oem_id fits.oem_id;
  oem_table_id = length-padded 8 acpi.oem_table_id fits.oem_table_id;
  oem_revision = omega arith;
  creator_id = refl;
  creator_revision = omega arith;
}

-- so do the rows of a header
pub header_fits : (signature : List ℕ) (total : ℕ) (h : Head) → length signature ≡ 4 → total < 2 ^ 32 → IsFittingHead h
    → AllByRecursion IsRow (header_rows signature total h)
header_fits signature total h four few fits = (
  four,
  (
    (omega arith, omega arith),
    (
      (omega arith, omega (arith, fits.revision)),
      (
        tt,
        (
          fits.oem_id,
          (
            fits.oem_table_id,
            ((omega arith, omega (arith, fits.oem_revision)), (fits.creator_id, ((omega arith, omega (arith, fits.creator_revision)), tt))),
          ),
        ),
      ),
    ),
  ),
)
