-- What is known of the files of a machine's ACPI tables, and of a view that holds them filled.
use Rattle.std.specs.Prelude.{◌≡◌, ℕ, ◌+◌, ◌*◌, ◌<◌, ◌≤◌, List, [], ◌∷◌, length, map, Option, IfSome}
use Rattle.vt_bytes.specs.View.{View}
use Rattle.vt_layout.specs.Rows.{size}
use Rattle.vt_layout.specs.Shown.{LayoutHeld}
use Rattle.machine_desc.specs.declared.machine.Machine.{Machine}
use Rattle.machine_desc.specs.declared.machine.Acpi.{Acpi}
use Rattle.acpi_records.specs.declared.header.Head.{Head}
use Rattle.acpi_model.specs.declared.acpi.Table.{Table}
use Rattle.acpi_model.specs.Header.{padded, head_of}
use Rattle.acpi_model.specs.Xsdt.{IsXsdt, most_entries}
use Rattle.acpi_model.specs.Rsdp.{rsdp_rows}
use Rattle.acpi_model.specs.Acpi.{rows_of, linked_table, AreAt, tables_of}
use Rattle.blob_holes.specs.Blob.{BlobState, IsBlob}
use Rattle.blob_holes.specs.Grown.{Extends, IsLinkable}
use Rattle.blob_holes.specs.Held.{HoldsFilled, WhereHeld}
use Rattle.acpi_model.specs.Kinds.{tables_name}
use Rattle.acpi_append.specs.Tables.{table_pointer}
use Rattle.vm_image.specs.Image.{AcpiImage, with_tables, places_in, xsdt_place, acpi_files, tables_begin}

-- the most bytes that tables take, with zeros in front of each and its entry in the XSDT
abbrev pub most_bytes : List Table → ℕ
most_bytes [] = 0
most_bytes (table ∷ tables) = 24 + size (rows_of table) + most_bytes tables

-- how many those may be, with what their file begins with: 448 KiB
abbrev pub tables_limit : ℕ
tables_limit = 0x70000

-- so few tables that one XSDT names them, and that there is room for them behind what their file begins with
pub record AreFew (begin : BlobState) (tables : List Table) : Type 0 where
  pub number : length tables ≤ most_entries
  pub bytes : length begin.bytes + most_bytes tables ≤ tables_limit

-- Tables were appended to a file: it has only grown, can be linked, has few more bytes, and wherever it stands filled each table
-- stands at its place.
pub record AreAppended (begin : BlobState) (tables : List Table) (places : List ℕ) (file : BlobState) : Type 0 where
  pub file_is : file ≡ with_tables begin tables
  pub places_are : places ≡ places_in begin tables
  pub grown : Extends begin file
  pub linkable : IsLinkable file
  pub few : length file.bytes + 8 * length places ≤ length begin.bytes + most_bytes tables
  pub stand : WhereHeld file (λ view address place_of. AreAt view (map (λ place. address + place) places)
      (map (linked_table place_of) tables))

-- The XSDT stands at the address and names the tables.
pub record HoldsTables (view : View) (place_of : List ℕ → ℕ) (xsdt : ℕ) (head : Head) (tables : List Table) : Type 0 where
  pub addresses : List ℕ
  pub listed : IsXsdt view xsdt head addresses
  pub stand : AreAt view addresses (map (linked_table place_of) tables)

-- A file of tables has only grown from what it begins with, so that what was shown of that is shown still. It can be linked, has some
-- bytes and few, and wherever it stands filled the XSDT stands at its place.
pub record IsTablesFile (begin : BlobState) (head : Head) (tables : List Table) (file : BlobState) : Type 0 where
  pub grown : Extends begin file
  pub linkable : IsLinkable file
  pub some : 0 < length file.bytes
  pub few : length file.bytes ≤ 52 + (length begin.bytes + most_bytes tables)
  pub behind : xsdt_place begin tables ≤ length file.bytes
  pub held : (view : View) (address : ℕ) (place_of : List ℕ → ℕ) → HoldsFilled view address file place_of → place_of tables_name ≡ address
      → 0 < address → HoldsTables view place_of (xsdt_place begin tables + address) head tables

-- Both files are so, and wherever the RSDP's stands filled it leads to the XSDT.
pub record IsAcpiImage (acpi : Acpi) (begin : BlobState) (tables : List Table) (files : AcpiImage) : Type 0 where
  pub tables_file : IsTablesFile begin (head_of acpi 1) tables files.tables
  pub tables_blob : IsBlob files.tables
  pub rsdp_blob : IsBlob files.rsdp
  pub rsdp_linkable : IsLinkable files.rsdp
  pub rsdp_size : length files.rsdp.bytes ≡ 36
  pub rsdp_held : (view : View) (address : ℕ) (place_of : List ℕ → ℕ) → HoldsFilled view address files.rsdp place_of
      → LayoutHeld view place_of address (rsdp_rows (padded 6 acpi.oem_id) (table_pointer (xsdt_place begin tables)))

-- all is known of the files of the ACPI tables, where there are some
abbrev pub AreAcpiKnown : Machine → Option Acpi → Type 0
AreAcpiKnown m maker =
    IfSome maker (λ acpi. IsAcpiImage acpi (tables_begin m acpi) (tables_of m acpi) (acpi_files acpi (tables_begin m acpi) (tables_of m acpi)))
