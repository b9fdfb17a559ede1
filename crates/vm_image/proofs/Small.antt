-- The files of a machine are few and small.
use Rattle.std.proofs.Common.{◌≡◌, ℕ, ◌+◌, ◌≤◌, List, ◌++◌, length, replicate, Option, Some, None, arith, refl, ap, ◌∙◌, length-append}
use Rattle.std.specs.List.{AllByRecursion}
use Rattle.std.proofs.lemmas.List.{length-replicate}
use Rattle.vt_bytes.proofs.Each.{each_append}
use Rattle.machine_desc.specs.declared.machine.Machine.{Machine}
use Rattle.machine_desc.specs.declared.machine.Acpi.{Acpi}
use Rattle.machine_desc.specs.Uuids.{uuid_bytes}
use Rattle.machine_desc.specs.Rules.{IsAccepted}
use Rattle.acpi_model.proofs.AcceptedAcpi.{accepted_fits}
use Rattle.dsdt_terms.specs.Dsdt.{id_offset}
use Rattle.image_files.specs.Room.{IsSmall, AreSmall}
use Rattle.vm_image.specs.Image.{acpi_part, smbios_placed, structures_file, id_bytes, generation_part, image_files}
use Rattle.vm_image.specs.AcpiHeld.{AreAcpiKnown}
use Rattle.vm_image.proofs.Few.{tables_few}
use Rattle.vm_image.proofs.DistinctNames.{image_few}
use Rattle.vm_image.proofs.StructuresSize.{structures_size}

-- the files of an accepted machine's ACPI tables, where there are some, are small
acpi_small : (m : Machine) (maker : Option Acpi) → m.acpi ≡ maker → IsAccepted m → AreAcpiKnown m maker → AllByRecursion IsSmall (acpi_part m maker)
acpi_small m None is accepted known = tt
acpi_small m (Some acpi) is accepted known = (
  (omega arith, omega (arith, known.tables_file.few, (tables_few m acpi accepted (accepted_fits m acpi accepted is)).bytes)),
  ((omega arith, omega (arith, known.rsdp_size)), tt),
)

-- so are those of few structures and of their anchor
smbios_small : (structures : List ℕ) → length structures ≤ 262144 → AllByRecursion IsSmall (smbios_placed structures)
smbios_small structures few = ((omega arith, omega arith), ((omega arith, omega arith), tt))

-- so are those of the id of a generation: one has a page, and the other isn't placed
pub id_size : (id : ℕ) → length (id_bytes id) ≡ 4096
id_size id =
    length-append (replicate id_offset 0 ++ uuid_bytes id) (replicate 4040 0) ∙ ap (λ n. id_offset + 16 + n) (length-replicate {A = ℕ} 4040 0)

generation_small : (generation : Option ℕ) → AllByRecursion IsSmall (generation_part generation)
generation_small None = tt
generation_small (Some id) = ((omega arith, omega (arith, id_size id)), (tt, tt))

-- the files of an accepted machine are few and small
pub image_small : (m : Machine) → IsAccepted m → AreAcpiKnown m m.acpi → AreSmall (image_files m)
image_small m accepted known = record {
  few = image_few m;
  each = each_append IsSmall (acpi_part m m.acpi) (smbios_placed (structures_file m) ++ generation_part m.generation)
      (acpi_small m m.acpi refl accepted known)
      (each_append IsSmall (smbios_placed (structures_file m)) (generation_part m.generation) (smbios_small (structures_file m) (structures_size m accepted).1)
      (generation_small m.generation));
}
