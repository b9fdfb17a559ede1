-- An accepted machine is got back from its structures, part by part.
use Rattle.std.proofs.Common.{◌≡◌, ℕ, true, List, [], ◌∷◌, ◌++◌, map, Option, Some, None, slice_get, get_or, refl, ap, ◌∙◌}
use Rattle.std.proofs.Common.{append-nil}
use Rattle.std.specs.List.{cons_option, filter_map, AllByRecursion}
use Rattle.std.specs.Option.{option_to_list}
use Rattle.vt_outside.proofs.Each.{each_true}
use Rattle.vt_bytes.proofs.Each.{each_weaker}
use Rattle.machine_desc.specs.declared.machine.Machine.{Machine}
use Rattle.machine_desc.specs.declared.smbios_parts.MemRange.{MemRange}
use Rattle.machine_desc.specs.Rules.{is_lawful_slot, IsAccepted, HasFittingUuids}
use Rattle.machine_desc.specs.Fields.{IsFittingRange}
use Rattle.machine_desc.proofs.Accepted.{own_uuid, fitting_ranges}
use Rattle.smbios_model.specs.declared.smbios.Body.{Body}
use Rattle.smbios_model.specs.declared.smbios.Body.TheVariants.{OemStrings}
use Rattle.smbios_model.specs.declared.smbios.Structure.{Structure}
use Rattle.smbios_model.specs.MachineStructures.{if_some, bios_body, system_body, chassis_body, processor_body, slot_body, device_body, mapped_body}
use Rattle.smbios_model.specs.MachineStructures.{parts_of, structures_of}
use Rattle.smbios_model.specs.ToldParts.{firmware_told, system_told, chassis_told, socket_told, slot_told, texts_told, dimm_told, range_told, all_told}
use Rattle.smbios_model.specs.ToldParts.{oem_strings_in, the_system_in, the_firmware_in, the_chassis_in, on_nodes}
use Rattle.smbios_model.proofs.GotBack.{system_back, slot_back, dimm_back, range_back}
use Rattle.smbios_model.proofs.LawfulParts.{always, lawful_slots}
use Rattle.smbios_model.proofs.PartsByType.{bodies_in, are_typed, of_type}
use Rattle.smbios_model.proofs.ToldByType.{IsToldBy, told_of_type, firmware_type, system_type, chassis_type, socket_type, slot_type, texts_type}
use Rattle.smbios_model.proofs.ToldByType.{dimm_type, range_type}

-- the node of a range, and a range on the first one
abbrev node_of : MemRange → ℕ
node_of r = r.node

abbrev off_node : MemRange → MemRange
off_node r = record r { node = 0 }

-- a machine with the parts that structures tell, and with its own of which they don't
abbrev pub machine_in : Machine → List Structure → Machine
machine_in m structures = record m {
  oem_strings = oem_strings_in structures;
  system = the_system_in structures;
  firmware = the_firmware_in structures;
  chassis = the_chassis_in structures;
  sockets = all_told socket_told structures;
  dimms = all_told dimm_told structures;
  ranges = on_nodes (map node_of m.ranges) (all_told range_told structures);
  slots = all_told slot_told structures;
}

-- elements of which each is got back are all got back
all_back : {Element : Type 0} (body_of : Element → Body) (back : Body → Option Element) (elements : List Element)
    → AllByRecursion (λ e. back (body_of e) ≡ Some e) elements → filter_map back (map body_of elements) ≡ elements
all_back body_of back [] each = refl
all_back body_of back (e ∷ elements) each =
    ap (λ first. cons_option first (filter_map back (map body_of elements))) each.0 ∙ ap (λ others. e ∷ others) (all_back body_of back elements each.1)

-- the elements that the structures of a type tell
got_back : {Element : Type 0} (m : Machine) → IsAccepted m → (number : ℕ) (body_of : Element → Body) (back : Body → Option Element)
    → IsToldBy number back → (elements : List Element) → bodies_in number (parts_of m) ≡ map body_of elements ++ []
    → AllByRecursion (λ e. back (body_of e) ≡ Some e) elements → all_told back (structures_of m) ≡ elements
got_back m accepted number body_of back by elements are each =
    told_of_type number back by (structures_of m)
    ∙ ap (filter_map back) (of_type number (parts_of m) (are_typed m accepted) ∙ are ∙ append-nil (map body_of elements))
    ∙ all_back body_of back elements each

-- where each element is got back, whatever it is
any_back : {Element : Type 0} (m : Machine) → IsAccepted m → (number : ℕ) (body_of : Element → Body) (back : Body → Option Element)
    → IsToldBy number back → (elements : List Element) → bodies_in number (parts_of m) ≡ map body_of elements ++ []
    → ((e : Element) → back (body_of e) ≡ Some e) → all_told back (structures_of m) ≡ elements
any_back m accepted number body_of back by elements are each =
    got_back m accepted number body_of back by elements are (always (λ e. back (body_of e) ≡ Some e) each elements)

first_given : {Given : Type 0} (given : Option Given) → slice_get (option_to_list given) 0 ≡ given
first_given None = refl
first_given (Some x) = refl

first_if_some : {Element : Type 0} (all : List Element) → get_or (if_some all) 0 [] ≡ all
first_if_some [] = refl
first_if_some (x ∷ xs) = refl

-- the ranges that bodies tell
ranges_told : (ranges : List MemRange) → AllByRecursion IsFittingRange ranges
    → filter_map range_told (map mapped_body ranges) ≡ map off_node ranges
ranges_told [] fit = refl
ranges_told (r ∷ ranges) fit =
    ap (λ first. first ∷ filter_map range_told (map mapped_body ranges)) (range_back r fit.0)
    ∙ ap (λ others. off_node r ∷ others) (ranges_told ranges fit.1)

-- on their own nodes they are got back
on_own_nodes : (ranges : List MemRange) → on_nodes (map node_of ranges) (map off_node ranges) ≡ ranges
on_own_nodes [] = refl
on_own_nodes (r ∷ ranges) = ap (λ others. r ∷ others) (on_own_nodes ranges)

-- structures tell all of a machine's ranges but their nodes
pub ranges_but_nodes : (m : Machine) → IsAccepted m → all_told range_told (structures_of m) ≡ map (λ (r : MemRange). record r { node = 0 }) m.ranges
ranges_but_nodes m accepted =
    told_of_type 19 range_told range_type (structures_of m)
    ∙ ap (filter_map range_told) (of_type 19 (parts_of m) (are_typed m accepted) ∙ append-nil (map mapped_body m.ranges))
    ∙ ranges_told m.ranges (fitting_ranges m accepted)

ranges_back : (m : Machine) → IsAccepted m → on_nodes (map node_of m.ranges) (all_told range_told (structures_of m)) ≡ m.ranges
ranges_back m accepted = ap (on_nodes (map node_of m.ranges)) (ranges_but_nodes m accepted) ∙ on_own_nodes m.ranges

pub machine_back : (m : Machine) → IsAccepted m → HasFittingUuids m → machine_in m (structures_of m) ≡ m
machine_back m accepted fits =
    let firmware = any_back m accepted 0 bios_body firmware_told firmware_type (option_to_list m.firmware) refl (λ f. refl) in
    let system = got_back m accepted 1 system_body system_told system_type (m.system ∷ []) refl
    (ap Some (system_back m.system fits.system (own_uuid m accepted)), tt) in
    let chassis = any_back m accepted 3 chassis_body chassis_told chassis_type (option_to_list m.chassis) refl (λ c. refl) in
    let sockets = any_back m accepted 4 processor_body socket_told socket_type m.sockets refl (λ s. refl) in
    let slots = got_back m accepted 9 slot_body slot_told slot_type m.slots refl
    (each_weaker (λ s. is_lawful_slot s ≡ true) (λ s. slot_told (slot_body s) ≡ Some s) (λ s lawful. ap Some (slot_back s lawful)) m.slots
    (each_true is_lawful_slot m.slots (lawful_slots m accepted))) in
    let texts = any_back m accepted 11 OemStrings texts_told texts_type (if_some m.oem_strings) refl (λ texts. refl) in
    let dimms = any_back m accepted 17 device_body dimm_told dimm_type m.dimms refl (λ d. ap Some (dimm_back d)) in
    let ranges = ranges_back m accepted in
    rw (texts, first_if_some m.oem_strings, system, firmware, first_given m.firmware, chassis, first_given m.chassis, sockets, dimms, ranges, slots) refl
