-- The RSDP (ACPI 6.5, 5.2.5.3), which leads to the root: the XSDT or the RSDT.
use Rattle.std.specs.Prelude.{◌≡◌, ℕ, ◌+◌, ◌%◌, ◌≤◌, true, List, [], ◌∷◌, codes, if◌then◌else◌}
use Rattle.vt_bytes.specs.View.{View}
use Rattle.vt_layout.specs.declared.row.Row.{Row}
use Rattle.vt_layout.specs.declared.row.Row.TheVariants.{Number, Bytes, Ignored, Reserved, Sum}
use Rattle.vt_layout.specs.Shown.{LayoutShown}
use Rattle.acpi_model.specs.declared.form.Form.{Form}
use Rattle.acpi_model.specs.Form.{has_revision, rsdp_size, address_size, xsdt_form}

-- Behind the revision: the row of the root's address. In an extended RSDP no RSDT and its length stand before it, and behind it the sum of
-- all its bytes, and what is reserved.
abbrev pub root_row : Form → Row → List Row
root_row form root = if form.extended then Ignored 4 0 ∷ Ignored 4 36 ∷ root ∷ Sum 36 ∷ Reserved 3 ∷ [] else root ∷ []

-- Its signature, the sum of its first 20 bytes, the maker's id, the revision, and the row of the root's address.
abbrev pub rsdp_rows_by : Form → List ℕ → ℕ → Row → List Row
rsdp_rows_by form oem_id revision root =
    Bytes 8 (codes "RSD PTR ") ∷ Sum 20 ∷ Bytes 6 oem_id ∷ Number 1 revision ∷ root_row form root

-- A valid RSDP of a form, with this maker's id and this address of the root, stands at the address: on a multiple of 16 from 0xE0000, its
-- last byte below 0x100000.
pub record IsRsdpBy (form : Form) (view : View) (address : ℕ) (oem_id : List ℕ) (root : ℕ) : Type 0 where
  pub from : 0xE0000 ≤ address
  pub aligned : address % 16 ≡ 0
  pub within : address + rsdp_size form ≤ 0x100000
  pub revision : ℕ
  pub revised : has_revision form revision ≡ true
  pub shown : LayoutShown view address (rsdp_rows_by form oem_id revision (Number (address_size form) root))

-- some valid RSDP of a form stands at the address
abbrev pub HasRsdpBy : Form → View → ℕ → Type 0
HasRsdpBy form view address = (oem_id : List ℕ) × (root : ℕ) × IsRsdpBy form view address oem_id root

-- the rows of an extended one of revision 2, with the row of the XSDT's address
abbrev pub rsdp_rows : List ℕ → Row → List Row
rsdp_rows oem_id xsdt = rsdp_rows_by xsdt_form oem_id 2 xsdt

abbrev pub IsRsdp : View → ℕ → List ℕ → ℕ → Type 0
IsRsdp view address oem_id xsdt = IsRsdpBy xsdt_form view address oem_id xsdt

abbrev pub HasRsdp : View → ℕ → Type 0
HasRsdp view address = HasRsdpBy xsdt_form view address
