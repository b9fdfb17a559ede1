-- An RSDP that a view holds with its holes filled.
use Rattle.std.proofs.Common.{◌≡◌, ℕ, ◌+◌, ◌%◌, ◌^◌, ◌<◌, ◌≤◌, inr, refl, List, length, arith}
use Rattle.std.specs.List.{AllByRecursion}
use Rattle.vt_bytes.specs.View.{View}
use Rattle.vt_layout.specs.Rows.{IsRow}
use Rattle.vt_layout.specs.Shown.{LayoutHeld}
use Rattle.vt_layout.proofs.Shows.{shown_rows}
use Rattle.acpi_model.specs.Rsdp.{rsdp_rows, IsRsdp}
use Rattle.acpi_model.specs.Kinds.{tables_name}
use Rattle.acpi_append.specs.Tables.{table_pointer}

-- the rows of an RSDP fit
pub rsdp_fits : (oem_id : List ℕ) (xsdt : ℕ) → length oem_id ≡ 6 → xsdt < 2 ^ 32 → AllByRecursion IsRow (rsdp_rows oem_id (table_pointer xsdt))
rsdp_fits oem_id xsdt six few = (
  refl,
  (tt, (six, ((omega arith, omega arith), ((omega arith, omega arith), ((omega arith, omega arith), ((inr (inr (inr refl)), omega arith), (tt, (tt, tt)))))))),
)

-- an RSDP that is held in the F segment, at a multiple of 16, is valid and leads to the XSDT
pub rsdp_shown : (view : View) (place_of : List ℕ → ℕ) (address : ℕ) (oem_id : List ℕ) (xsdt : ℕ) → length oem_id ≡ 6 → xsdt < 2 ^ 32
    → 0xF0000 ≤ address → address % 16 ≡ 0 → address + 36 ≤ 0x100000
    → LayoutHeld view place_of address (rsdp_rows oem_id (table_pointer xsdt)) → IsRsdp view address oem_id (xsdt + place_of tables_name)
rsdp_shown view place_of address oem_id xsdt six few from aligned within held = record {
  from = omega arith;
  aligned = aligned;
  within = within;
  revision = 2;
  revised = refl;
  shown = shown_rows view place_of address address (rsdp_rows oem_id (table_pointer xsdt)) (rsdp_fits oem_id xsdt six few) held;
}
