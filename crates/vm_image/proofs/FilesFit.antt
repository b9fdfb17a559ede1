-- The commands that place and link a machine's files fit their entries.
use Rattle.std.proofs.Common.{ℕ, List, ◌++◌, Option, Some, None, refl, arith, rules}
use Rattle.std.specs.List.{AllByRecursion}
use Rattle.vt_outside.specs.Name.{name_of}
use Rattle.vt_bytes.proofs.Each.{each_append}
use Rattle.loader_script.specs.Spelling.{Fits}
use Rattle.machine_desc.specs.declared.machine.Machine.{Machine}
use Rattle.machine_desc.specs.declared.machine.Acpi.{Acpi}
use Rattle.image_files.specs.Linkable.{HasFittingPlace, AreLinkable}
use Rattle.image_files.proofs.ScriptFits.{script_fits}
use Rattle.vm_image.specs.Image.{acpi_part, smbios_placed, structures_file, generation_part, telling, image_files, image_script}

-- the names of files of ACPI tables are names
acpi_places : (m : Machine) (maker : Option Acpi) → AllByRecursion HasFittingPlace (acpi_part m maker)
unfolding name_of
acpi_places m None = tt
acpi_places m (Some acpi) = (record { name = refl; align = omega arith }, (record { name = refl; align = omega arith }, tt))

-- so are those of files of structures
smbios_places : (structures : List ℕ) → AllByRecursion HasFittingPlace (smbios_placed structures)
unfolding name_of
smbios_places structures = (record { name = refl; align = omega arith }, (record { name = refl; align = omega arith }, tt))

-- and those of the id of a generation
generation_places : (generation : Option ℕ) → AllByRecursion HasFittingPlace (generation_part generation)
unfolding name_of
generation_places None = tt
generation_places (Some id) = (record { name = refl; align = omega arith }, (record { name = refl; align = tt }, tt))

-- the command that tells where the id is fits its entry
telling_fits : (generation : Option ℕ) → AllByRecursion Fits (telling generation)
unfolding name_of
telling_fits None = tt
telling_fits (Some id) = (search rules, tt)

-- each command of a machine's script fits
pub image_fits : (m : Machine) → AreLinkable (image_files m) → AllByRecursion Fits (image_script m)
image_fits m linkable =
    script_fits (image_files m) (telling m.generation) linkable
    (each_append HasFittingPlace (acpi_part m m.acpi) (smbios_placed (structures_file m) ++ generation_part m.generation) (acpi_places m m.acpi)
    (each_append HasFittingPlace (smbios_placed (structures_file m)) (generation_part m.generation) (smbios_places (structures_file m))
    (generation_places m.generation)))
    (telling_fits m.generation)
