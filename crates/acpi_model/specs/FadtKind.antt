-- The FADT (ACPI 6.5, 5.2.9) as a table with four pointers.
use Rattle.std.specs.Prelude.{ℕ, ◌+◌, ◌*◌, min, nat_le, List, ◌++◌, [], ◌∷◌, length, take, drop, replicate, Option, Some, None, get_or}
use Rattle.std.specs.Prelude.{slice_set, codes, if◌then◌else◌}
use Rattle.vt_layout.specs.declared.row.Row.{Row}
use Rattle.vt_layout.specs.declared.row.Row.TheVariants.{Reserved}
use Rattle.vt_layout.specs.Rows.{size, shape}
use Rattle.vt_layout.specs.Values.{values_of}
use Rattle.acpi_records.specs.declared.fadt.Fadt.{Fadt}
use Rattle.acpi_records.specs.declared.header.Head.{Head}
use Rattle.acpi_records.specs.Header.{header_rows, body_rows}
use Rattle.acpi_records.specs.Fadt.{fadt_fields, fadt_made}
use Rattle.acpi_model.specs.declared.link.Link.{Link}
use Rattle.acpi_model.specs.declared.link.FadtLinks.{FadtLinks}
use Rattle.acpi_model.specs.declared.link.Link.TheVariants.{Address}
use Rattle.acpi_model.specs.declared.acpi.Table.{Table}
use Rattle.acpi_model.specs.declared.acpi.Table.TheVariants.{Fadt as FadtVariant}
use Rattle.acpi_model.specs.Kinds.{Kind, TableLayout}
use Rattle.acpi_model.specs.declared.form.Form.{Form}
use Rattle.acpi_model.specs.Form.{xsdt_form}
use Rattle.acpi_model.specs.Fronts.{rows_inside}
use Rattle.acpi_model.specs.MachineFadt.{register_at}
use Rattle.acpi_model.specs.Links.{link_row, link_of, linked_link}

-- The rows of the pointers: FIRMWARE_CTRL and DSDT have 4 bytes, X_FIRMWARE_CTRL and X_DSDT 8.
abbrev pub link_rows : FadtLinks → List Row
link_rows links =
    link_row 4 links.firmware_ctrl ∷ link_row 4 links.dsdt ∷ link_row 8 links.x_firmware_ctrl ∷ link_row 8 links.x_dsdt ∷ []

-- They stand at 36, 40, 132 and 140, which are the rows 0, 1, 46 and 47 behind the header.
abbrev pub with_links : FadtLinks → List Row → List Row
with_links links rows =
    slice_set (slice_set (slice_set (slice_set rows 0 (link_row 4 links.firmware_ctrl)) 1 (link_row 4 links.dsdt)) 46
    (link_row 8 links.x_firmware_ctrl)) 47 (link_row 8 links.x_dsdt)

-- the link of the row at a place
abbrev pub link_at : ℕ → List Row → Link
link_at place rows = link_of (get_or rows place (Reserved 0))

-- the pointers that stand in these rows
abbrev pub links_in : List Row → FadtLinks
links_in rows =
    record { firmware_ctrl = link_at 0 rows; dsdt = link_at 1 rows; x_firmware_ctrl = link_at 46 rows; x_dsdt = link_at 47 rows }

abbrev pub linked_links : (List ℕ → ℕ) → FadtLinks → FadtLinks
linked_links place_of links = record {
  firmware_ctrl = linked_link place_of links.firmware_ctrl;
  dsdt = linked_link place_of links.dsdt;
  x_firmware_ctrl = linked_link place_of links.x_firmware_ctrl;
  x_dsdt = linked_link place_of links.x_dsdt;
}

-- pointers that lead nowhere
abbrev pub no_links : FadtLinks
no_links = record { firmware_ctrl = Address 0; dsdt = Address 0; x_firmware_ctrl = Address 0; x_dsdt = Address 0 }

abbrev pub fadt_body : Fadt → FadtLinks → List Row
fadt_body t links = with_links links (body_rows (fadt_fields t))

-- the shape of all its rows behind the header, and how many of them each field has: one, and five where it is a register's address
abbrev pub fadt_shape : List Row
fadt_shape = shape (body_rows (fadt_fields (fadt_made [])))

abbrev pub fadt_counts : List ℕ
fadt_counts = replicate 38 1 ++ 5 ∷ replicate 5 1 ++ replicate 10 5 ++ 1 ∷ []

-- how many rows an FADT of so many bytes has behind its header: those of its fields that lie wholly inside them
abbrev pub fadt_rows_in : ℕ → ℕ
fadt_rows_in total = rows_inside fadt_counts 36 total fadt_shape

-- the shape of those rows, where it has as many bytes as its form wants
abbrev pub fadt_shape_in : Form → ℕ → Option (List Row)
fadt_shape_in form total = if nat_le form.least_fadt total then Some (take (fadt_rows_in total) fadt_shape) else None

-- how many bytes an FADT has that has so many rows behind its header
abbrev pub fadt_size : ℕ → ℕ
fadt_size rows = 36 + size (take rows fadt_shape)

-- the rows of all fields of an FADT that has these: behind them those of the shape, whose values are 0
abbrev pub all_rows : List Row → List Row
all_rows body = body ++ drop (length body) fadt_shape

-- An FADT of which there are so many bytes, with what lies behind them filled in: the minor version is 5, as of revision 6, and the
-- registers' addresses are made from the ports, as a machine's are. All else that isn't there is 0. One that isn't whole is given as one
-- of revision 6.
abbrev pub filled_in : ℕ → Fadt → Fadt
filled_in total t = record t {
  head = record t.head { revision = if nat_le 276 total then t.head.revision else 6 };
  minor = if nat_le 132 total then t.minor else 5;
  x_pm1a_evt = if nat_le 160 total then t.x_pm1a_evt else register_at 32 2 t.pm1a_evt;
  x_pm1a_cnt = if nat_le 184 total then t.x_pm1a_cnt else register_at 16 2 t.pm1a_cnt;
  x_pm_tmr = if nat_le 220 total then t.x_pm_tmr else register_at 32 3 t.pm_tmr;
  x_gpe0 = if nat_le 232 total then t.x_gpe0 else register_at (min 255 (8 * t.gpe0_len)) 1 t.gpe0;
}

-- the FADT that a header and rows of all fields behind it make
abbrev pub fadt_from : Head → List Row → Fadt
fadt_from head body = fadt_made (values_of (header_rows (codes "FACP") 0 head ++ with_links no_links body) [])

abbrev pub fadt_kind_by : Form → Kind
fadt_kind_by form = record {
  signature = codes "FACP";
  shape = λ view address total. fadt_shape_in form total;
  types = None;
  table = λ head body entries. FadtVariant (filled_in (fadt_size (length body)) (fadt_from head (all_rows body))) (links_in (all_rows body));
}

abbrev pub fadt_kind : Kind
fadt_kind = fadt_kind_by xsdt_form

abbrev pub fadt_layout : Fadt → FadtLinks → TableLayout
fadt_layout t links = record { kind = fadt_kind; head = t.head; body = fadt_body t links; entries = [] }

-- a table as one of this kind, and its pointers
abbrev pub as_fadt : Table → Option Fadt
as_fadt (FadtVariant t links) = Some t
as_fadt table = None

abbrev pub links_of : Table → Option FadtLinks
links_of (FadtVariant t links) = Some links
links_of table = None
