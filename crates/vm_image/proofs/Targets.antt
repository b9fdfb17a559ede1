-- The pointers of the files of ACPI tables lead to the file of the tables, and the one of the DSDT to that of the id of the generation.
use Rattle.std.proofs.Common.{◌≡◌, ◌⊎◌, inl, ℕ, ◌+◌, List, [], ◌∷◌, map, length, Option, IsSome}
use Rattle.std.specs.List.{AllByRecursion}
use Rattle.vt_bytes.proofs.Each.{each_append}
use Rattle.vt_layout.specs.declared.row.Row.{Row}
use Rattle.vt_layout.specs.declared.row.Row.TheVariants.{Pointer}
use Rattle.vt_layout.specs.Rows.{width_of}
use Rattle.machine_desc.specs.declared.machine.Acpi.{Acpi}
use Rattle.acpi_model.specs.declared.acpi.Table.{Table}
use Rattle.acpi_model.specs.Header.{head_of, padded}
use Rattle.acpi_model.specs.Xsdt.{xsdt_rows}
use Rattle.acpi_model.specs.Rsdp.{rsdp_rows}
use Rattle.acpi_model.specs.Acpi.{rows_of, IsWritable}
use Rattle.blob_holes.specs.declared.hole.PointerHole.{PointerHole}
use Rattle.blob_holes.specs.Blob.{BlobState, aligned}
use Rattle.blob_holes.specs.Rows.{pointer_of, pointer_holes}
use Rattle.acpi_model.specs.Kinds.{tables_name}
use Rattle.acpi_append.specs.Tables.{Leads, table_pointer, with_table}
use Rattle.acpi_append.proofs.Leading.{table_leads, xsdt_leads, rsdp_leads as rows_lead}
use Rattle.dsdt_terms.specs.Dsdt.{generation_file}
use Rattle.image_files.specs.Files.{whole}
use Rattle.vm_image.specs.Image.{with_tables, places_in, xsdt_place, acpi_files}

-- a hole that leads there, or to the file of the id of a generation, where there is one
abbrev pub HoleLeads : Option ℕ → PointerHole → Type 0
HoleLeads generation hole = (hole.target ≡ tables_name) ⊎ ((hole.target ≡ generation_file) × IsSome generation)

module _ (generation : Option ℕ) where
  -- the hole of a row that leads to the tables' file, if it has one
  hole_leads : (at : ℕ) (row : Row) → Leads row → AllByRecursion (HoleLeads generation) (pointer_of at row)
  hole_leads at (Pointer width target offset) leads = (inl leads, tt)
  hole_leads at row leads = tt

  -- and those of rows
  holes_lead : (at : ℕ) (rows : List Row) → AllByRecursion Leads rows → AllByRecursion (HoleLeads generation) (pointer_holes at rows)
  holes_lead at [] lead = tt
  holes_lead at (row ∷ rows) lead =
      each_append (HoleLeads generation) (pointer_of at row) (pointer_holes (at + width_of row) rows) (hole_leads at row lead.0)
      (holes_lead (at + width_of row) rows lead.1)

  -- each pointer of a file still leads there with tables behind it
  file_leads : (file : BlobState) (tables : List Table) → AllByRecursion IsWritable tables → AllByRecursion (HoleLeads generation) file.pointers
      → AllByRecursion (HoleLeads generation) (with_tables file tables).pointers
  file_leads file [] writable lead = lead
  file_leads file (table ∷ tables) writable lead =
      file_leads (with_table file table) tables writable.1
      (each_append (HoleLeads generation) file.pointers (pointer_holes (length (aligned 16 file).bytes) (rows_of table)) lead
      (holes_lead (length (aligned 16 file).bytes) (rows_of table) (table_leads table writable.0)))

  -- each pointer of the tables' file leads to it, where each of what it begins with does
  pub tables_lead : (maker : Acpi) (begin : BlobState) (tables : List Table) → AllByRecursion (HoleLeads generation) begin.pointers
      → AllByRecursion IsWritable tables
      → AllByRecursion (HoleLeads generation) (acpi_files maker begin tables).tables.pointers
  tables_lead maker begin tables lead writable =
      each_append (HoleLeads generation) (with_tables begin tables).pointers
      (pointer_holes (length (aligned 16 (with_tables begin tables)).bytes) (xsdt_rows (head_of maker 1) (map table_pointer (places_in begin tables))))
      (file_leads begin tables writable lead)
      (holes_lead (length (aligned 16 (with_tables begin tables)).bytes) (xsdt_rows (head_of maker 1) (map table_pointer (places_in begin tables)))
      (xsdt_leads (head_of maker 1) (places_in begin tables)))

  -- so does each of the RSDP's
  pub rsdp_leads : (maker : Acpi) (begin : BlobState) (tables : List Table)
      → AllByRecursion (HoleLeads generation) (acpi_files maker begin tables).rsdp.pointers
  rsdp_leads maker begin tables =
      holes_lead (length (aligned 16 (whole [])).bytes) (rsdp_rows (padded 6 maker.oem_id) (table_pointer (xsdt_place begin tables)))
      (rows_lead (padded 6 maker.oem_id) (xsdt_place begin tables))
