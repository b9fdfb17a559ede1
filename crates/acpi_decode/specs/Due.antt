-- The tables that are due at an address to which another leads: their signatures, and the lengths that they may have.
use Rattle.std.specs.Prelude.{ℕ, Bool, nat_le, List, codes}
use Rattle.acpi_model.specs.Form.{root_signature}
use Rattle.acpi_decode.specs.declared.due.Due.{Due}
use Rattle.acpi_decode.specs.declared.due.Due.TheVariants.{Root, Dsdt}
use Rattle.acpi_decode.specs.TableTests.{is_root_length}

abbrev pub due_signature : Due → List ℕ
due_signature (Root form) = root_signature form
due_signature Dsdt = codes "DSDT"

abbrev pub has_due_length : Due → ℕ → Bool
has_due_length (Root form) = is_root_length form
has_due_length Dsdt = nat_le 36
