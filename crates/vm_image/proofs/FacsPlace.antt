-- A machine's FACS stands at a multiple of 64 wherever its files may stand.
use Rattle.std.proofs.Common.{◌≡◌, ℕ, ◌+◌, ◌%◌, List, [], ◌++◌, Option, Some, None, IsSome, arith}
use Rattle.machine_desc.specs.declared.machine.Machine.{Machine}
use Rattle.machine_desc.specs.declared.machine.Acpi.{Acpi}
use Rattle.machine_desc.specs.Rules.{IsAccepted}
use Rattle.machine_desc.proofs.Accepted.{power_needs_acpi}
use Rattle.acpi_model.specs.Kinds.{tables_name}
use Rattle.acpi_model.specs.Acpi.{facs_place}
use Rattle.loader_script.specs.Run.{Placed, place_of as place_in}
use Rattle.image_files.specs.Files.{ImageFile}
use Rattle.image_files.specs.Places.{ArePlaces}
use Rattle.image_files.specs.Linked.{AreLinked}
use Rattle.vm_image.specs.Image.{acpi_part, image_files, smbios_placed, structures_file, generation_part}
use Rattle.vm_image.specs.Promised.{top_of}
use Rattle.vm_image.proofs.DistinctNames.{image_distinct}
use Rattle.vm_image.proofs.Named.{places_by, named}

-- the file of the tables is the first, and is placed at a multiple of 64
tables_aligned : (m : Machine) (maker : Option Acpi) → IsSome maker → (top : ℕ) (place_of : List ℕ → ℕ) (others : List ImageFile) (places : List ℕ)
    → ArePlaces top [] (acpi_part m maker ++ others) places → places ≡ places_by place_of (acpi_part m maker ++ others)
    → (place_of tables_name + facs_place) % 64 ≡ 0
tables_aligned m None some top place_of others places lawful are = absurd (cc)
tables_aligned m (Some acpi) some top place_of others places lawful are =
    let here : lawful.0 ≡ place_of tables_name = cc (lawful.2, are) in
    omega (arith, here, lawful.3.aligned.1)

pub facs_is_aligned : (m : Machine) → IsAccepted m → IsSome m.power → (places : List ℕ) (placed : List Placed)
    → ArePlaces (top_of m) [] (image_files m) places → AreLinked (place_in placed) (image_files m) places placed
    → (place_in placed tables_name + facs_place) % 64 ≡ 0
facs_is_aligned m accepted some places placed lawful linked =
    tables_aligned m m.acpi (power_needs_acpi m accepted some) (top_of m) (place_in placed)
    (smbios_placed (structures_file m) ++ generation_part m.generation) places
    lawful
    (named (place_in placed) (image_files m) places placed (image_distinct m) linked)
