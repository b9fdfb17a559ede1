-- The header of ACPI tables, and a table as a header and the rows behind it (ACPI 6.5, 5.2.6).
use Rattle.std.specs.Prelude.{◌≡◌, ℕ, ◌+◌, ◌-◌, ◌^◌, ◌<◌, ◌≤◌, List, [], ◌∷◌, ◌++◌, length, drop, replicate, slice_set, codes}
use Rattle.vt_bytes.specs.View.{View}
use Rattle.vt_layout.specs.declared.row.Row.{Row}
use Rattle.vt_layout.specs.declared.row.Row.TheVariants.{Number, Bytes, Sum}
use Rattle.vt_layout.specs.declared.value.Value.{Value}
use Rattle.vt_layout.specs.Rows.{size}
use Rattle.vt_layout.specs.Shown.{LayoutShown}
use Rattle.vt_layout.specs.Values.{value_at, byte_of, dword_of, four_of, six_of, eight_of}
use Rattle.vt_layout.specs.Fields.{Field, byte, dword, four, six, eight, reserved, field_rows}
use Rattle.machine_desc.specs.declared.machine.Acpi.{Acpi}
use Rattle.acpi_records.specs.declared.header.Head.{Head}

-- the fields of a header, with zeros for its signature, its length and its checksum
abbrev pub head_fields : Head → List Field
head_fields h =
    four (replicate 4 0) ∷ dword 0 ∷ byte h.revision ∷ reserved 1 ∷ six h.oem_id ∷ eight h.oem_table_id ∷ dword h.oem_revision
    ∷ four h.creator_id ∷ dword h.creator_revision ∷ []

abbrev pub head_made : List Value → Head
head_made values = record {
  revision = byte_of (value_at 2 values);
  oem_id = six_of (value_at 4 values);
  oem_table_id = eight_of (value_at 5 values);
  oem_revision = dword_of (value_at 6 values);
  creator_id = four_of (value_at 7 values);
  creator_revision = dword_of (value_at 8 values);
}

-- the rows of a record of a table behind its header
abbrev pub body_rows : List Field → List Row
body_rows fields = drop 9 (field_rows fields)

-- rows of a record of a table with its signature, its length and its checksum, which is over so many bytes
abbrev pub framed : List ℕ → ℕ → List Row → List Row
framed signature total rows = slice_set (slice_set (slice_set rows 0 (Bytes 4 signature)) 1 (Number 4 total)) 3 (Sum total)

-- the header of a table of so many bytes
abbrev pub header_rows : List ℕ → ℕ → Head → List Row
header_rows signature total h = framed signature total (field_rows (head_fields h))

-- a table as it is written: nothing follows the rows behind its header
abbrev pub table_rows : List ℕ → Head → List Row → List Row
table_rows signature h body = header_rows signature (36 + size body) h ++ body

-- A table of so many bytes stands at the address, with this header and these rows behind it. What follows them is ignored.
pub record IsTable (view : View) (address : ℕ) (signature : List ℕ) (h : Head) (total : ℕ) (body : List Row) : Type 0 where
  pub long_enough : 36 + size body ≤ total
  pub shown : LayoutShown view address (header_rows signature total h ++ body)

-- a header whose values fit its rows
pub record IsFittingHead (h : Head) : Type 0 where
  pub revision : h.revision < 2 ^ 8
  pub oem_id : length h.oem_id ≡ 6
  pub oem_table_id : length h.oem_table_id ≡ 8
  pub oem_revision : h.oem_revision < 2 ^ 32
  pub creator_id : length h.creator_id ≡ 4
  pub creator_revision : h.creator_revision < 2 ^ 32

-- a text in a field that is padded with spaces
abbrev pub padded : ℕ → List ℕ → List ℕ
padded size text = text ++ replicate (size - length text) 0x20

-- the identifiers fit the fields of a header
pub record FitsHead (acpi : Acpi) : Type 0 where
  pub oem_id : length acpi.oem_id ≤ 6
  pub oem_table_id : length acpi.oem_table_id ≤ 8

-- the header of a machine's tables, made by VMTB
abbrev pub head_of : Acpi → ℕ → Head
head_of acpi revision = record {
  revision = revision;
  oem_id = padded 6 acpi.oem_id;
  oem_table_id = padded 8 acpi.oem_table_id;
  oem_revision = 1;
  creator_id = codes "VMTB";
  creator_revision = 1;
}
