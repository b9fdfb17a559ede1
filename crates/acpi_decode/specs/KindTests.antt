-- The tests of the table at an address, by the kind of its signature, and of what an FADT leads to (ACPI 6.5, 5.2).
use Rattle.std.specs.Prelude.{ℕ, ◌+◌, ◌==◌, Bool, false, nat_le, if◌then◌else◌, List, [], ◌∷◌, ◌++◌, codes, Option, Some, None}
use Rattle.std.specs.Option.{option_map_or}
use Rattle.std.specs.Str.{bytes_eq}
use Rattle.vt_bytes.specs.View.{View}
use Rattle.vt_layout.specs.declared.row.Row.{Row}
use Rattle.vt_layout.specs.Rows.{size}
use Rattle.acpi_model.specs.declared.form.Form.{Form}
use Rattle.acpi_model.specs.declared.acpi.Table.{Table}
use Rattle.acpi_model.specs.declared.link.FadtLinks.{FadtLinks}
use Rattle.acpi_model.specs.declared.link.Link.TheVariants.{Address}
use Rattle.acpi_model.specs.Kinds.{Kind}
use Rattle.acpi_model.specs.Found.{facs_address, dsdt_address}
use Rattle.acpi_model.specs.Acpi.{kind_by, is_first}
use Rattle.acpi_decode.specs.declared.fault.AcpiFault.TheVariants.{BadLength, TwiceGiven}
use Rattle.acpi_decode.specs.Seen.{number_at, signature_at, total_at}
use Rattle.acpi_decode.specs.Tests.{Test}
use Rattle.acpi_decode.specs.TableTests.{header_tests, whole_tests, facs_tests}
use Rattle.acpi_decode.specs.IdTests.{read_dsdt_tests}

-- the number of so many bytes at an offset in the table at an address, or 0 where it doesn't lie wholly inside it
abbrev pub number_inside : View → ℕ → ℕ → ℕ → ℕ
number_inside view address offset width =
    if nat_le (offset + width) (total_at view address) then number_at view (address + offset) width else 0

-- the pointers of the FADT at an address (5.2.9)
abbrev pub links_at : View → ℕ → FadtLinks
links_at view address = record {
  firmware_ctrl = Address (number_inside view address 36 4);
  dsdt = Address (number_inside view address 40 4);
  x_firmware_ctrl = Address (number_inside view address 132 8);
  x_dsdt = Address (number_inside view address 140 8);
}

-- the tests of what an address leads to, which is nothing where it is 0
abbrev pub tests_at : (ℕ → List Test) → ℕ → List Test
tests_at tests address = if address == 0 then [] else tests address

-- the tests of what pointers lead to: of the FACS, and then of the DSDT and the id to which it leads
abbrev pub target_tests : View → FadtLinks → List Test
target_tests view links = tests_at (facs_tests view) (facs_address links) ++ tests_at (read_dsdt_tests view) (dsdt_address links)

-- the tests of what the table at an address leads to, which has this signature: only an FADT has pointers
abbrev pub tests_behind : List ℕ → View → ℕ → List Test
tests_behind signature view address = if bytes_eq signature (codes "FACP") then target_tests view (links_at view address) else []

-- the shape of the rows behind the header of the table at an address, where it has the form of a kind
abbrev pub shape_at : Kind → View → ℕ → Option (List Row)
shape_at kind view address = kind.shape view address (total_at view address)

-- how many bytes it has in front of its entries: its header and those rows
abbrev pub front_of : Kind → View → ℕ → ℕ
front_of kind view address = option_map_or (λ rows. 36 + size rows) (shape_at kind view address) 36

-- whether it has that form, and tells as many bytes
abbrev pub has_room : Kind → View → ℕ → Bool
has_room kind view address = option_map_or (λ rows. nat_le (36 + size rows) (total_at view address)) (shape_at kind view address) false

-- The tests behind those of its header: of a table of another signature, and of one of a known kind, of which there may be one.
abbrev pub body_tests : Option Kind → View → ℕ → List Table → List Test
body_tests None view address before = (nat_le 36 (total_at view address), BadLength address) ∷ whole_tests view address
body_tests (Some kind) view address before =
    (has_room kind view address, BadLength address)
    ∷ whole_tests view address ++ (is_first kind.signature before, TwiceGiven address) ∷ tests_behind kind.signature view address

-- the tests of the table at an address, behind those that were found before
abbrev pub table_tests : Form → View → ℕ → List Table → List Test
table_tests form view address before = header_tests view address ++ body_tests (kind_by form (signature_at view address)) view address before
