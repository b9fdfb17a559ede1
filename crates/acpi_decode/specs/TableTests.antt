-- The tests of a table that don't depend on its kind, each list in the order in which they are made (ACPI 6.5, 5.2.6).
use Rattle.std.specs.Prelude.{ℕ, ◌+◌, ◌-◌, ◌*◌, ◌%◌, ◌&&◌, ◌==◌, Bool, nat_le, List, [], ◌∷◌, ◌++◌, codes}
use Rattle.std.specs.Str.{bytes_eq}
use Rattle.vt_bytes.specs.View.{View}
use Rattle.acpi_model.specs.declared.form.Form.{Form}
use Rattle.acpi_model.specs.Form.{address_size, root_signature}
use Rattle.acpi_model.specs.Xsdt.{most_entries}
use Rattle.acpi_decode.specs.declared.fault.AcpiFault.TheVariants.{OutsideRam, WrongSignature, BadLength, BadSum}
use Rattle.acpi_decode.specs.Seen.{is_ram, sum_at, signature_at, total_at}
use Rattle.acpi_decode.specs.Tests.{Test}

-- its header is RAM
abbrev pub header_tests : View → ℕ → List Test
header_tests view address = (is_ram view address 36, OutsideRam address) ∷ []

-- all bytes that it tells are, and they sum to zero
abbrev pub whole_tests : View → ℕ → List Test
whole_tests view address =
    (is_ram view address (total_at view address), OutsideRam address)
    ∷ (sum_at view address (total_at view address) == 0, BadSum address) ∷ []

-- A table with this signature is due, and it tells a length that such a table may have.
abbrev pub due_tests : List ℕ → (ℕ → Bool) → View → ℕ → List Test
due_tests signature has_length view address =
    header_tests view address
    ++ (bytes_eq (signature_at view address) signature, WrongSignature address)
    ∷ (has_length (total_at view address), BadLength address) ∷ whole_tests view address

-- A root may have so many bytes: its header, and entries of the size of an address, at most as many as are read (5.2.7, 5.2.8).
abbrev pub is_root_length : Form → ℕ → Bool
is_root_length form total =
    nat_le 36 total && (((total - 36) % address_size form == 0) && nat_le total (36 + address_size form * most_entries))

abbrev pub root_tests : Form → View → ℕ → List Test
root_tests form view address = due_tests (root_signature form) (is_root_length form) view address

-- a DSDT has a header, and behind it its definition block, of which nothing more is tested (5.2.11.1)
abbrev pub dsdt_tests : View → ℕ → List Test
dsdt_tests view address = due_tests (codes "DSDT") (nat_le 36) view address

-- a FACS has 64 bytes, with a signature and a length, but no header and no sum (5.2.10)
abbrev pub facs_tests : View → ℕ → List Test
facs_tests view address =
    (is_ram view address 64, OutsideRam address)
    ∷ (bytes_eq (signature_at view address) (codes "FACS"), WrongSignature address)
    ∷ (total_at view address == 64, BadLength address) ∷ []
