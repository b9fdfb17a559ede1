-- The image of a machine: its files with their holes, in the order in which they are placed.
use Rattle.std.specs.Prelude.{ℕ, true, false, List, [], ◌∷◌, ◌++◌, length, replicate, codes, Option, Some, None}
use Rattle.loader_script.specs.declared.entry.Entry.{Entry}
use Rattle.loader_script.specs.declared.entry.Entry.TheVariants.{WritePointer}
use Rattle.cfg_directory.specs.declared.item.Item.{Item}
use Rattle.machine_desc.specs.declared.machine.Machine.{Machine}
use Rattle.machine_desc.specs.declared.machine.Acpi.{Acpi}
use Rattle.machine_desc.specs.Uuids.{uuid_bytes}
use Rattle.machine_desc.specs.declared.acpi_parts.Power.{Power}
use Rattle.blob_holes.specs.Blob.{BlobState, next_place}
use Rattle.blob_holes.specs.Rows.{with_rows}
use Rattle.acpi_model.specs.Kinds.{tables_name as acpi_tables_name}
use Rattle.acpi_records.specs.Facs.{initial_facs}
use Rattle.acpi_append.specs.FacsPut.{with_facs}
use Rattle.acpi_append.specs.DsdtPut.{with_dsdt}
use Rattle.dsdt_terms.specs.Dsdt.{dsdt_body, generation_file, id_offset}
use Rattle.acpi_append.specs.Tables.{with_table, with_xsdt, with_rsdp}
use Rattle.smbios_build.specs.Spelling.{structures_bytes}
use Rattle.acpi_model.specs.declared.acpi.Table.{Table}
use Rattle.acpi_model.specs.Header.{head_of, padded}
use Rattle.acpi_model.specs.Acpi.{tables_of}
use Rattle.smbios_model.specs.Anchor.{anchor_rows, anchor_of}
use Rattle.smbios_model.specs.MachineStructures.{structures_of}
use Rattle.vt_layout.specs.declared.row.Row.TheVariants.{Pointer}
use Rattle.zone_alloc.specs.declared.zone.Zone.{Zone}
use Rattle.zone_alloc.specs.declared.zone.Zone.TheVariants.{High, Fseg}
use Rattle.cfg_directory.specs.SmbiosNames.{anchor_name, structures_name}
use Rattle.image_files.specs.Files.{ImageFile, whole}
use Rattle.image_files.specs.Script.{script_of}
use Rattle.image_files.specs.Items.{items_of}

abbrev pub rsdp_name : List ℕ
rsdp_name = codes "etc/acpi/rsdp"

-- a file that a guest can't write in fw_cfg, and for which a place is asked in a zone
abbrev pub placed_file : List ℕ → BlobState → Zone → ℕ → ImageFile
placed_file name blob zone align = record { name = name; blob = blob; placing = Some (record { zone = zone; align = align }); writable = false }

-- the files of the ACPI tables with their holes: the RSDP, and the tables that it leads to
pub record AcpiImage : Type 0 where
  pub rsdp : BlobState
  pub tables : BlobState

-- a file of tables with more of them, one after the other
abbrev pub with_tables : BlobState → List Table → BlobState
with_tables file [] = file
with_tables file (table ∷ tables) = with_tables (with_table file table) tables

-- where each of them stands in the file
abbrev pub places_in : BlobState → List Table → List ℕ
places_in file [] = []
places_in file (table ∷ tables) = next_place 16 file ∷ places_in (with_table file table) tables

-- where the XSDT stands behind the tables that it names, and behind what the file begins with
abbrev pub xsdt_place : BlobState → List Table → ℕ
xsdt_place begin tables = next_place 16 (with_tables begin tables)

-- the files of a maker's ACPI tables, where that of the tables begins with what no XSDT names
abbrev pub acpi_files : Acpi → BlobState → List Table → AcpiImage
acpi_files acpi begin tables = record {
  rsdp = with_rsdp (whole []) (padded 6 acpi.oem_id) (xsdt_place begin tables);
  tables = with_xsdt (with_tables begin tables) (head_of acpi 1) (places_in begin tables);
}

-- What a machine's file of tables begins with, in front of those that its XSDT names: with the FACS and the DSDT, where it has power
-- management.
abbrev pub begin_of : Machine → Acpi → Option Power → BlobState
begin_of m acpi None = whole []
begin_of m acpi (Some power) = with_dsdt (with_facs (whole []) initial_facs) (head_of acpi 2) (dsdt_body m)

abbrev pub tables_begin : Machine → Acpi → BlobState
tables_begin m acpi = begin_of m acpi m.power

-- The tables of each kind go to high memory, and what leads to them to the F segment, where a guest looks for it (ACPI 6.5, 5.2.5.1;
-- DSP0134, 5.2.2).
abbrev pub acpi_placed : AcpiImage → List ImageFile
acpi_placed files = placed_file acpi_tables_name files.tables High 64 ∷ placed_file rsdp_name files.rsdp Fseg 16 ∷ []

-- the files of a machine's ACPI tables, where it has some
abbrev pub acpi_part : Machine → Option Acpi → List ImageFile
acpi_part m None = []
acpi_part m (Some acpi) = acpi_placed (acpi_files acpi (tables_begin m acpi) (tables_of m acpi))

-- the file of a machine's structures
abbrev pub structures_file : Machine → List ℕ
structures_file m = structures_bytes (structures_of m)

-- the file of the anchor of structures that have so many bytes
abbrev pub anchor_blob : ℕ → BlobState
anchor_blob size = with_rows (whole []) (anchor_rows (anchor_of size) (Pointer 8 structures_name 0))

-- the files of structures and of their anchor
abbrev pub smbios_placed : List ℕ → List ImageFile
smbios_placed structures =
    placed_file structures_name (whole structures) High 16 ∷ placed_file anchor_name (anchor_blob (length structures)) Fseg 16 ∷ []

-- The file of the id of a generation (QEMU, docs/specs/vmgenid.rst): a page that holds the id, and else zeros.
abbrev pub id_bytes : ℕ → List ℕ
id_bytes id = replicate id_offset 0 ++ uuid_bytes id ++ replicate 4040 0

-- The file that the firmware writes, so that the host learns where the id is: 8 zeros until then. It has no place in memory.
abbrev pub address_name : List ℕ
address_name = codes "etc/vmgenid_addr"

abbrev pub address_file : ImageFile
address_file = record { name = address_name; blob = whole (replicate 8 0); placing = None; writable = true }

-- the files of the id of a generation, where there is one
abbrev pub generation_part : Option ℕ → List ImageFile
generation_part None = []
generation_part (Some id) = placed_file generation_file (whole (id_bytes id)) High 4096 ∷ address_file ∷ []

-- and the command, behind all that link, that tells the host where the id is
abbrev pub write_address : Entry
write_address = WritePointer address_name generation_file 0 id_offset 8

abbrev pub telling : Option ℕ → List Entry
telling None = []
telling (Some id) = write_address ∷ []

-- the files of a machine: those of each part that it has
abbrev pub image_files : Machine → List ImageFile
image_files m = acpi_part m m.acpi ++ (smbios_placed (structures_file m) ++ generation_part m.generation)

-- their script, and what fw_cfg holds
abbrev pub image_script : Machine → List Entry
image_script m = script_of (image_files m) (telling m.generation)

abbrev pub image_items : Machine → List Item
image_items m = items_of (image_files m) (telling m.generation)
