-- A memory that holds a machine's files shows the machine, wherever they stand and whatever its fill byte is. No other valid
-- anchor or RSDP stands before the machine's own, for every fill byte and every place: a mark of two bytes lies in one of the files of
-- the F segment, and these have none but at their own beginnings.
use Rattle.std.proofs.Common.{◌≡◌, ◌+◌, ◌≤◌, List, [], ◌++◌, length, refl, sym, subst, arith, ◌∙◌}
use Rattle.std.specs.List.{AllByRecursion}
use Rattle.vt_bytes.specs.Memory.{seen}
use Rattle.vt_bytes.proofs.Each.{each_append, each_front, each_back}
use Rattle.machine_desc.specs.declared.machine.Machine.{Machine}
use Rattle.machine_desc.specs.Rules.{IsAccepted}
use Rattle.machine_desc.specs.Fields.{HasFittingFields}
use Rattle.smbios_model.specs.MachineStructures.{structures_of}
use Rattle.smbios_model.specs.Smbios.{AreStructures}
use Rattle.loader_script.specs.Run.{place_of as place_in}
use Rattle.image_files.specs.Files.{ImageFile}
use Rattle.image_files.specs.Places.{ArePlaces}
use Rattle.vm_image.specs.Image.{acpi_part, smbios_placed, structures_file, generation_part, image_files}
use Rattle.cfg_directory.specs.SmbiosNames.{anchor_name}
use Rattle.vm_image.specs.AcpiHeld.{AreAcpiKnown}
use Rattle.vm_image.specs.Promised.{IsShownAnywhere, AreShownAlike}
use Rattle.vm_image.proofs.Accepted.{Lawful, lawful}
use Rattle.vm_image.proofs.StructuresSize.{structures_size}
use Rattle.vm_image.proofs.DistinctNames.{image_distinct}
use Rattle.vm_image.proofs.IdStands.{generation_clear}
use Rattle.vm_image.proofs.Named.{named}
use Rattle.vm_image.proofs.Standing.{Stands, all_stand}
use Rattle.vm_image.proofs.HeldFiles.{held_alike}
use Rattle.vm_image.proofs.Marks.{Mark, IsClearFile, no_mark}
use Rattle.vm_image.proofs.Clear.{rsdp_mark, anchor_mark, rsdp_marked, anchor_marked}
use Rattle.vm_image.proofs.SmbiosStands.{smbios_clear_of_rsdps, smbios_clear_of_anchors, smbios_shown}
use Rattle.vm_image.proofs.AcpiStands.{acpi_clear_of_anchors, acpi_shown}

-- a memory that holds a machine's files shows the machine
pub image_shows : (m : Machine) → IsAccepted m → HasFittingFields m → AreStructures (structures_file m) (structures_of m) → AreAcpiKnown m m.acpi
    → IsShownAnywhere m
image_shows m accepted fit read known places placed memory lawful_places linked top held =
    let bounds : Lawful m = lawful m accepted in
    let few : length (structures_file m) ≤ 262144 = (structures_size m accepted).1 in
    let high : 0x4000000 ≤ memory.top = omega (arith, top) in
    let names = named (place_in placed) (image_files m) places placed (image_distinct m) linked in
    let stand = all_stand memory (place_in placed) [] (image_files m) places placed
    (subst (λ t. ArePlaces t [] (image_files m) places) (sym top) lawful_places) linked held.files names in
    let low : memory.top ≤ 0xC0000000 = omega (arith, top) in
    let smbios : List ImageFile = smbios_placed (structures_file m) in
    let ids : List ImageFile = generation_part m.generation in
    let acpi_stand = each_front (Stands memory (place_in placed)) (acpi_part m m.acpi) (smbios ++ ids) stand in
    let others_stand = each_back (Stands memory (place_in placed)) (acpi_part m m.acpi) (smbios ++ ids) stand in
    let smbios_stand = each_front (Stands memory (place_in placed)) smbios ids others_stand in
    let ids_stand = each_back (Stands memory (place_in placed)) smbios ids others_stand in
    let none = λ (mark : Mark) (differ : mark.first ≡ mark.second → ⊥) (within : mark.limit ≤ 0x100000)
    (acpi_clear : AllByRecursion (IsClearFile memory mark (place_in placed)) (acpi_part m m.acpi))
    (smbios_clear : AllByRecursion (IsClearFile memory mark (place_in placed)) (smbios_placed (structures_file m))).
    no_mark memory mark (place_in placed) (image_files m) places placed linked names held differ within
    (each_append (IsClearFile memory mark (place_in placed)) (acpi_part m m.acpi) (smbios ++ ids) acpi_clear
    (each_append (IsClearFile memory mark (place_in placed)) smbios ids smbios_clear
    (generation_clear memory (place_in placed) mark m.generation high within ids_stand))) in
    let anchor_within : place_in placed anchor_name + 24 ≤ 0x100000 = smbios_stand.1.0.within in
    record {
      its_top = sym top;
      smbios = smbios_shown memory (place_in placed) high (structures_file m) (structures_of m) (omega arith) read smbios_stand
          (λ other below has. let from = has.2.from in
          none (anchor_mark (place_in placed anchor_name)) (λ same. absurd (omega (arith, same))) (omega arith)
          (acpi_clear_of_anchors memory (place_in placed) high low m m.acpi (place_in placed anchor_name) (omega arith) known acpi_stand)
          (smbios_clear_of_anchors memory (place_in placed) high (structures_file m) smbios_stand) other (omega arith)
          (anchor_marked memory (place_in placed anchor_name) other below has));
      acpi = acpi_shown memory (place_in placed) high low m m.acpi refl accepted fit known acpi_stand
          (λ limit within clear other below has. none (rsdp_mark limit) (λ same. absurd (omega (arith, same))) within clear
          (smbios_clear_of_rsdps memory (place_in placed) high (structures_file m) limit (omega arith) within smbios_stand) other has.2.from
          (rsdp_marked memory limit other below has)) held.alone ids_stand;
    }

-- so does one that agrees with it on the files: what is seen of a memory has nothing of its fill byte
pub shown_alike : (m : Machine) → IsShownAnywhere m → AreShownAlike m
unfolding seen
shown_alike m shown places placed memory other lawful_places linked top held agree = (
  shown places placed memory lawful_places linked top held,
  shown places placed (record other { fill = memory.fill }) lawful_places linked (agree.top ∙ top) (held_alike memory other placed held agree),
)
