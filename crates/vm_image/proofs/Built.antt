-- The image that is linked of a machine's files is the machine's.
use Rattle.std.proofs.Common.{◌≡◌, List, [], ◌++◌, length, append_assoc, Result, Ok, Err, IfOk, ap, subst, sym, ◌∙◌, arith, refl}
use Rattle.std.specs.List.{flat_map, AllByRecursion}
use Rattle.loader_script.specs.Spelling.{Fits}
use Rattle.loader_script.specs.declared.entry.Entry.{Entry}
use Rattle.cfg_directory.specs.declared.item.Item.{Item}
use Rattle.machine_desc.specs.declared.machine.Machine.{Machine}
use Rattle.machine_desc.specs.Rules.{IsAccepted}
use Rattle.machine_desc.specs.Fields.{HasFittingFields}
use Rattle.smbios_model.specs.MachineStructures.{structures_of}
use Rattle.smbios_model.specs.Smbios.{AreStructures}
use Rattle.image_files.specs.declared.image.Image.{Image}
use Rattle.image_files.specs.declared.image.ImageBuildFault.{ImageBuildFault}
use Rattle.image_files.specs.Files.{ImageFile}
use Rattle.image_files.specs.Script.{allocation, linking, script_of}
use Rattle.cfg_directory.specs.Files.{files_of}
use Rattle.image_files.specs.Items.{items_of}
use Rattle.image_files.proofs.ByName.{begins_with, script_found}
use Rattle.image_files.proofs.InTurn.{links}
use Rattle.image_files.proofs.LinkedFiles.{files_linked}
use Rattle.image_files.proofs.Room.{have_room}
use Rattle.vm_image.specs.Image.{acpi_part, smbios_placed, structures_file, generation_part, telling, image_files, image_script, image_items}
use Rattle.vm_image.specs.AcpiHeld.{AreAcpiKnown}
use Rattle.vm_image.specs.Promised.{top_of, IsLoadedAnywhere}
use Rattle.vm_image.specs.Built.{IsBuilt}
use Rattle.vm_image.proofs.Accepted.{Lawful, lawful}
use Rattle.vm_image.proofs.DistinctNames.{image_distinct, image_has_no_loader}
use Rattle.vm_image.proofs.ImageShows.{image_shows}
use Rattle.vm_image.proofs.Linkable.{image_linkable}
use Rattle.vm_image.proofs.Small.{image_small}
use Rattle.vm_image.proofs.FilesFit.{image_fits}
use Rattle.vm_image.proofs.Told.{host_told}

-- the script is done, whatever lawful places the files are given
loaded_anywhere : (m : Machine) → IsAccepted m → AreAcpiKnown m m.acpi → IsLoadedAnywhere m
loaded_anywhere m accepted known places are =
    let bounds : Lawful m = lawful m accepted in
    let linkable = image_linkable m accepted known in
    let begins = begins_with (image_files m) (telling m.generation) (image_distinct m) (image_has_no_loader m) in
    let linked = files_linked (top_of m) (image_files m) (files_of (image_items m)) (linking (image_files m)) (telling m.generation) places
    (omega arith) linkable
    (links (image_files m) linkable) begins are in (
      linked.0,
      linked.1,
      linked.2 ∙ host_told m linked.0 places begins (omega arith) (omega arith) are linked.1
          (length (flat_map allocation (image_files m) ++ linking (image_files m))),
    )

-- what is promised of the image holds
pub built : (m : Machine) (items : List Item) (script : List Entry) → IsAccepted m → HasFittingFields m → AreStructures (structures_file m) (structures_of m)
    → AreAcpiKnown m m.acpi → items ≡ image_items m → script ≡ image_script m → IsBuilt m items script
built m items script accepted fit read known items_are script_is =
    let bounds : Lawful m = lawful m accepted in
    let linkable = image_linkable m accepted known in
    record {
      items_are = items_are;
      script_is = script_is;
      fits = subst (AllByRecursion Fits) (sym script_is) (image_fits m linkable);
      spelled = rw (items_are, script_is) (script_found (image_files m) (telling m.generation) (image_distinct m) (image_has_no_loader m));
      there = rw items_are (begins_with (image_files m) (telling m.generation) (image_distinct m) (image_has_no_loader m));
      linkable = linkable;
      room = have_room (top_of m) (image_files m) (omega arith) (image_small m accepted known);
      loaded = loaded_anywhere m accepted known;
      shown = image_shows m accepted fit read known;
    }

-- it is the image that was linked of its files, where one was
pub image_built : (m : Machine) (files : List ImageFile) (r : Result Image ImageBuildFault) → IsAccepted m → HasFittingFields m
    → AreStructures (structures_file m) (structures_of m) → AreAcpiKnown m m.acpi → files ≡ image_files m
    → IfOk r (λ image. image.items ≡ items_of files (telling m.generation)) → IfOk r (λ image. image.script ≡ script_of files (telling m.generation))
    → IfOk r (λ image. IsBuilt m image.items image.script)
image_built m files (Err fault) accepted fit read known files_are items_are script_is = tt
image_built m files (Ok image) accepted fit read known files_are items_are script_is =
    built m image.items image.script accepted fit read known (items_are ∙ ap (λ those. items_of those (telling m.generation)) files_are)
    (script_is ∙ ap (λ those. script_of those (telling m.generation)) files_are)

-- the files are those of a machine, once its ACPI tables, its structures and the files of its id were added
pub files_pushed : (m : Machine) (none acpi smbios all : List ImageFile) → none ≡ [] → acpi ≡ none ++ acpi_part m m.acpi
    → smbios ≡ acpi ++ smbios_placed (structures_file m) → all ≡ smbios ++ generation_part m.generation → all ≡ image_files m
files_pushed m none acpi smbios all none_is acpi_is smbios_is all_is =
    all_is
    ∙ ap (λ files. files ++ generation_part m.generation)
    (smbios_is ∙ ap (λ files. files ++ smbios_placed (structures_file m)) (acpi_is ∙ ap (λ files. files ++ acpi_part m m.acpi) none_is))
    ∙ append_assoc (acpi_part m m.acpi) (smbios_placed (structures_file m)) (generation_part m.generation)
