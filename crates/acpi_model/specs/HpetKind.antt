-- The HPET table (IA-PC HPET 1.0a, 3.2.4) as a kind.
use Rattle.std.specs.Prelude.{Option, Some, None, codes}
use Rattle.acpi_records.specs.declared.hpet.HpetTable.{HpetTable}
use Rattle.acpi_records.specs.Hpet.{hpet_fields, hpet_made}
use Rattle.acpi_model.specs.declared.acpi.Table.{Table}
use Rattle.acpi_model.specs.declared.acpi.Table.TheVariants.{Hpet}
use Rattle.acpi_model.specs.Kinds.{Kind, TableLayout, kind_with, layout_with}

abbrev pub hpet_kind : Kind
hpet_kind = kind_with (codes "HPET") hpet_fields hpet_made Hpet

abbrev pub hpet_layout : HpetTable → TableLayout
hpet_layout t = layout_with hpet_kind t.head (hpet_fields t)

-- a table as one of this kind
abbrev pub as_hpet : Table → Option HpetTable
as_hpet (Hpet t) = Some t
as_hpet table = None
