-- Any bytes can be the rows of the entries of a MADT, and of those of an SRAT.
use Rattle.std.specs.Prelude.{◌≡◌, ℕ, ◌==◌, List, []}
use Rattle.std.specs.List.{AllByRecursion}
use Rattle.std.proofs.Common.{refl, subst}
use Rattle.vt_layout.specs.declared.row.Row.{Row}
use Rattle.vt_layout.specs.Rows.{shape}
use Rattle.vt_layout.specs.Reading.{IsReadable}
use Rattle.vt_layout.specs.Fields.{field_rows}
use Rattle.vt_layout.specs.BadEntries.{AreReadable}
use Rattle.acpi_records.specs.MadtEntries.{madt_types, local_apic_fields, local_apic_made, io_apic_fields, io_apic_made, override_fields, override_made}
use Rattle.acpi_records.specs.MadtEntries.{local_nmi_fields, local_nmi_made, x2apic_fields, x2apic_made, x2apic_nmi_fields, x2apic_nmi_made}
use Rattle.acpi_records.specs.SratEntries.{srat_types, apic_affinity_fields, apic_affinity_made, memory_affinity_fields, memory_affinity_made}
use Rattle.acpi_records.specs.SratEntries.{x2apic_affinity_fields, x2apic_affinity_made}
use Rattle.acpi_decode.specs.Blank.{IsBlank, IsBlankOrNone, blank_shape, blank_one}

madt_blank : (kind : ℕ) → IsBlankOrNone (madt_types kind)
madt_blank kind =
    blank_one (kind == 0) _ _ (blank_shape (field_rows (local_apic_fields (local_apic_made []))) refl)
    (blank_one (kind == 1) _ _ (blank_shape (field_rows (io_apic_fields (io_apic_made []))) refl)
    (blank_one (kind == 2) _ _ (blank_shape (field_rows (override_fields (override_made []))) refl)
    (blank_one (kind == 4) _ _ (blank_shape (field_rows (local_nmi_fields (local_nmi_made []))) refl)
    (blank_one (kind == 9) _ _ (blank_shape (field_rows (x2apic_fields (x2apic_made []))) refl)
    (blank_one (kind == 10) _ _ (blank_shape (field_rows (x2apic_nmi_fields (x2apic_nmi_made []))) refl) tt)))))

srat_blank : (kind : ℕ) → IsBlankOrNone (srat_types kind)
srat_blank kind =
    blank_one (kind == 0) _ _ (blank_shape (field_rows (apic_affinity_fields (apic_affinity_made []))) refl)
    (blank_one (kind == 1) _ _ (blank_shape (field_rows (memory_affinity_fields (memory_affinity_made []))) refl)
    (blank_one (kind == 2) _ _ (blank_shape (field_rows (x2apic_affinity_fields (x2apic_affinity_made []))) refl) tt))

parts_of : (rows : List Row) → IsBlank rows → (shape rows ≡ rows) × AllByRecursion IsReadable rows
parts_of rows is = (is.blank, is.readable)

pub madt_readable : AreReadable madt_types
madt_readable kind rows is = parts_of rows (subst IsBlankOrNone is (madt_blank kind))

pub srat_readable : AreReadable srat_types
srat_readable kind rows is = parts_of rows (subst IsBlankOrNone is (srat_blank kind))
