-- The form of the tables of a memory: all else of it follows from its two parts (ACPI 6.5, 5.2.5.3, 5.2.7 and 5.2.8).
use Rattle.std.specs.Prelude.{ℕ, Bool, true, false, nat_le, nat_lt, List, codes, if◌then◌else◌}
use Rattle.acpi_model.specs.declared.form.Form.{Form}

-- which revisions its RSDP may have
abbrev pub has_revision : Form → ℕ → Bool
has_revision form revision = if form.extended then nat_le 2 revision else nat_lt revision 2

-- how many bytes its RSDP has
abbrev pub rsdp_size : Form → ℕ
rsdp_size form = if form.extended then 36 else 20

-- how many bytes the address of a table has, in its RSDP and in each entry of its root
abbrev pub address_size : Form → ℕ
address_size form = if form.extended then 8 else 4

-- where the address of the root stands in its RSDP
abbrev pub root_place : Form → ℕ
root_place form = if form.extended then 24 else 16

-- the signature of its root, which names the tables
abbrev pub root_signature : Form → List ℕ
root_signature form = if form.extended then codes "XSDT" else codes "RSDT"

-- the form of ACPI 6.5
abbrev pub xsdt_form : Form
xsdt_form = record { extended = true; least_fadt = 276 }

-- the form of ACPI 1.0, whose FADT has 116 bytes or more
abbrev pub legacy_form : Form
legacy_form = record { extended = false; least_fadt = 116 }

-- the form of tables that are legacy ones, or aren't
abbrev pub form_of : Bool → Form
form_of legacy = if legacy then legacy_form else xsdt_form
