-- A part of a machine is told by structures of one type.
use Rattle.std.proofs.Common.{◌≡◌, ℕ, Bool, true, false, cond, ◌==◌, List, [], ◌∷◌, map, filter, Option, None, refl, ap, ◌∙◌}
use Rattle.std.specs.List.{cons_option, filter_map}
use Rattle.smbios_model.specs.declared.smbios.Body.{Body}
use Rattle.smbios_model.specs.declared.smbios.Body.TheVariants.{Bios, System, Chassis, Processor, Slot, OemStrings}
use Rattle.smbios_model.specs.declared.smbios.Body.TheVariants.{Array, Device, Mapped, Boot, End, Raw}
use Rattle.smbios_model.specs.declared.smbios.Structure.{Structure}
use Rattle.smbios_model.specs.Structures.{number_of}
use Rattle.smbios_model.specs.ToldParts.{firmware_told, system_told, chassis_told, socket_told, slot_told, texts_told, dimm_told, range_told, all_told}
use Rattle.smbios_model.proofs.PartsByType.{is_of, bodies_of}

-- a body of another type tells no such part
abbrev pub IsToldBy : {Part : Type 0} → ℕ → (Body → Option Part) → Type 0
IsToldBy number told = (body : Body) → (number_of body == number) ≡ false → told body ≡ None

-- so the structures of the type tell all that there are
pub told_of_type : {Part : Type 0} (number : ℕ) (told : Body → Option Part) → IsToldBy number told → (structures : List Structure)
    → all_told told structures ≡ filter_map told (bodies_of number structures)
unfolding is_of bodies_of
told_of_type number told by [] = refl
told_of_type number told by (s ∷ structures) = by_test (number_of s.body == number) refl (told_of_type number told by structures)
  where
    by_test : (test : Bool) → (number_of s.body == number) ≡ test → all_told told structures ≡ filter_map told (bodies_of number structures)
        → cons_option (told s.body) (all_told told structures)
        ≡ filter_map told (map (λ (s : Structure). s.body) (cond test (s ∷ filter (is_of number) structures) (filter (is_of number) structures)))
    by_test true is others = ap (cons_option (told s.body)) others
    by_test false is others = ap (λ first. cons_option first (all_told told structures)) (by s.body is) ∙ others

pub firmware_type : IsToldBy 0 firmware_told
firmware_type (Bios info) other = absurd (cc)
firmware_type (System info) other = refl
firmware_type (Chassis info) other = refl
firmware_type (Processor info) other = refl
firmware_type (Slot info) other = refl
firmware_type (OemStrings texts) other = refl
firmware_type (Array info) other = refl
firmware_type (Device info) other = refl
firmware_type (Mapped info) other = refl
firmware_type (Boot info) other = refl
firmware_type End other = refl
firmware_type (Raw number area strings) other = refl

pub system_type : IsToldBy 1 system_told
system_type (Bios info) other = refl
system_type (System info) other = absurd (cc)
system_type (Chassis info) other = refl
system_type (Processor info) other = refl
system_type (Slot info) other = refl
system_type (OemStrings texts) other = refl
system_type (Array info) other = refl
system_type (Device info) other = refl
system_type (Mapped info) other = refl
system_type (Boot info) other = refl
system_type End other = refl
system_type (Raw number area strings) other = refl

pub chassis_type : IsToldBy 3 chassis_told
chassis_type (Bios info) other = refl
chassis_type (System info) other = refl
chassis_type (Chassis info) other = absurd (cc)
chassis_type (Processor info) other = refl
chassis_type (Slot info) other = refl
chassis_type (OemStrings texts) other = refl
chassis_type (Array info) other = refl
chassis_type (Device info) other = refl
chassis_type (Mapped info) other = refl
chassis_type (Boot info) other = refl
chassis_type End other = refl
chassis_type (Raw number area strings) other = refl

pub socket_type : IsToldBy 4 socket_told
socket_type (Bios info) other = refl
socket_type (System info) other = refl
socket_type (Chassis info) other = refl
socket_type (Processor info) other = absurd (cc)
socket_type (Slot info) other = refl
socket_type (OemStrings texts) other = refl
socket_type (Array info) other = refl
socket_type (Device info) other = refl
socket_type (Mapped info) other = refl
socket_type (Boot info) other = refl
socket_type End other = refl
socket_type (Raw number area strings) other = refl

pub slot_type : IsToldBy 9 slot_told
slot_type (Bios info) other = refl
slot_type (System info) other = refl
slot_type (Chassis info) other = refl
slot_type (Processor info) other = refl
slot_type (Slot info) other = absurd (cc)
slot_type (OemStrings texts) other = refl
slot_type (Array info) other = refl
slot_type (Device info) other = refl
slot_type (Mapped info) other = refl
slot_type (Boot info) other = refl
slot_type End other = refl
slot_type (Raw number area strings) other = refl

pub texts_type : IsToldBy 11 texts_told
texts_type (Bios info) other = refl
texts_type (System info) other = refl
texts_type (Chassis info) other = refl
texts_type (Processor info) other = refl
texts_type (Slot info) other = refl
texts_type (OemStrings texts) other = absurd (cc)
texts_type (Array info) other = refl
texts_type (Device info) other = refl
texts_type (Mapped info) other = refl
texts_type (Boot info) other = refl
texts_type End other = refl
texts_type (Raw number area strings) other = refl

pub dimm_type : IsToldBy 17 dimm_told
dimm_type (Bios info) other = refl
dimm_type (System info) other = refl
dimm_type (Chassis info) other = refl
dimm_type (Processor info) other = refl
dimm_type (Slot info) other = refl
dimm_type (OemStrings texts) other = refl
dimm_type (Array info) other = refl
dimm_type (Device info) other = absurd (cc)
dimm_type (Mapped info) other = refl
dimm_type (Boot info) other = refl
dimm_type End other = refl
dimm_type (Raw number area strings) other = refl

pub range_type : IsToldBy 19 range_told
range_type (Bios info) other = refl
range_type (System info) other = refl
range_type (Chassis info) other = refl
range_type (Processor info) other = refl
range_type (Slot info) other = refl
range_type (OemStrings texts) other = refl
range_type (Array info) other = refl
range_type (Device info) other = refl
range_type (Mapped info) other = absurd (cc)
range_type (Boot info) other = refl
range_type End other = refl
range_type (Raw number area strings) other = refl
