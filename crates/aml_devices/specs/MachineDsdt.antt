-- A file of tables with a machine's DSDT at its end (ACPI 6.5, 5.2.11.1).
use Rattle.std.specs.Prelude.{ℕ, ◌<◌, ◌^◌, List, IsSome}
use Rattle.vt_bytes.specs.View.{View}
use Rattle.machine_desc.specs.declared.machine.Machine.{Machine}
use Rattle.machine_desc.specs.declared.machine.Acpi.{Acpi}
use Rattle.dsdt_terms.specs.Dsdt.{dsdt_body, id_address}
use Rattle.acpi_model.specs.Header.{head_of}
use Rattle.acpi_model.specs.Found.{IsDsdt, IsSpelledIn, dsdt_rows}
use Rattle.acpi_model.specs.Acpi.{dsdt_at}
use Rattle.blob_holes.specs.Blob.{BlobState}
use Rattle.acpi_append.specs.Tables.{IsPut}

-- A machine's DSDT stands at the address, where each file stands at its place: the first number of `ADDR` in its last device is the one in
-- the pointer's hole, the address of the id of the machine's generation. It is said where that is below 4 GiB and the view shows bytes
-- alone, and where the machine has no id.
abbrev pub ShowsMachineDsdt : Acpi → Machine → View → ℕ → (List ℕ → ℕ) → Type 0
ShowsMachineDsdt acpi m view address place_of =
    IsSpelledIn view (dsdt_body m) → (IsSome m.generation → id_address place_of < 2 ^ 32)
    → IsDsdt view address (dsdt_at (id_address place_of) m acpi)

-- The bytes of its terms were appended behind a header of revision 2, with the pointer to that id, and it stands there as these terms.
abbrev pub IsMachineDsdtPut : BlobState → BlobState → Acpi → Machine → Type 0
IsMachineDsdtPut before after acpi m =
    IsPut before after (dsdt_rows (head_of acpi 2) (dsdt_body m)) (λ view address place_of. ShowsMachineDsdt acpi m view address place_of)
