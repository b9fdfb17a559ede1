-- What SMBIOS structures say, and how that stands in their areas and strings (DMTF DSP0134, version 3.0.0, 6.1.2 and chapter 7).
use Rattle.std.specs.Prelude.{◌≡◌, ℕ, ◌&&◌, List, [], ◌∷◌, length, Option, Some, None, ◌==◌}
use Rattle.std.specs.List.{find}
use Rattle.vt_bytes.specs.View.{view_of}
use Rattle.vt_layout.specs.declared.row.Row.{Row}
use Rattle.vt_layout.specs.declared.row.Row.TheVariants.{Bytes}
use Rattle.vt_layout.specs.Rows.{size, spelled, shape, string_numbers, text}
use Rattle.vt_layout.specs.Shown.{LayoutShown}
use Rattle.smbios_model.specs.declared.smbios.Body.{Body}
use Rattle.smbios_model.specs.declared.smbios.Body.TheVariants.{Bios, System, Chassis, Processor, Slot, OemStrings}
use Rattle.smbios_model.specs.declared.smbios.Body.TheVariants.{Array, Device, Mapped, Boot, End, Raw}
use Rattle.vt_layout.specs.Strings.{AreNamed, numbers_from, strings_of}
use Rattle.vt_layout.specs.Numbered.{numbered}
use Rattle.smbios_model.specs.StructureKinds.{StructureKind, StructureLayout}
use Rattle.smbios_model.specs.BiosInformation.{bios_kind, bios_layout}
use Rattle.smbios_model.specs.SystemInformation.{system_kind, system_layout}
use Rattle.smbios_model.specs.ChassisInformation.{chassis_kind, chassis_layout}
use Rattle.smbios_model.specs.ProcessorInformation.{processor_kind, processor_layout}
use Rattle.smbios_model.specs.SlotInformation.{slot_kind, slot_layout}
use Rattle.smbios_model.specs.OemStrings.{oem_strings_kind, oem_strings_layout}
use Rattle.smbios_model.specs.MemoryArray.{array_kind, array_layout}
use Rattle.smbios_model.specs.MemoryDevice.{device_kind, device_layout}
use Rattle.smbios_model.specs.MappedAddress.{mapped_kind, mapped_layout}
use Rattle.smbios_model.specs.BootInformation.{boot_kind, boot_layout}

-- the end of the structures, type 127, which has no area (7.45)
abbrev pub end_kind : StructureKind
end_kind = record { number = 127; shape = []; named = string_numbers; body = λ rows texts. End }

-- the kinds that are known, each of another type
abbrev pub kinds : List StructureKind
kinds =
    bios_kind ∷ system_kind ∷ chassis_kind ∷ processor_kind ∷ slot_kind ∷ oem_strings_kind ∷ array_kind ∷ device_kind ∷ mapped_kind ∷ boot_kind
    ∷ end_kind ∷ []

-- the kind of a type and of the length of an area, where it is known
abbrev pub kind_for : ℕ → ℕ → Option StructureKind
kind_for number size_of_area = find (λ (kind : StructureKind). number == kind.number && size kind.shape == size_of_area) kinds

-- any other structure of a type, with an area of so many bytes
abbrev pub raw_kind : ℕ → ℕ → StructureKind
raw_kind number size_of_area = record {
  number = number;
  shape = Bytes size_of_area [] ∷ [];
  named = string_numbers;
  body = λ rows texts. Raw number (text 0 rows) texts;
}

abbrev pub layout_of : Body → StructureLayout
layout_of (Bios info) = bios_layout info
layout_of (System info) = system_layout info
layout_of (Chassis info) = chassis_layout info
layout_of (Processor info) = processor_layout info
layout_of (Slot info) = slot_layout info
layout_of (OemStrings texts) = oem_strings_layout texts
layout_of (Array info) = array_layout info
layout_of (Device info) = device_layout info
layout_of (Mapped info) = mapped_layout info
layout_of (Boot info) = boot_layout info
layout_of End = record { kind = end_kind; rows = []; texts = [] }
layout_of (Raw number area strings) =
    record { kind = raw_kind number (length area); rows = Bytes (length area) area ∷ []; texts = strings }

-- what a structure is written as: its type, its area behind its header, where its texts are numbered in their order, and its strings,
-- the texts that aren't empty

abbrev pub number_of : Body → ℕ
number_of body = (layout_of body).kind.number

abbrev pub area_of : Body → List ℕ
area_of body = spelled (numbered (numbers_from 1 (layout_of body).texts) (layout_of body).rows)

abbrev pub strings_in : Body → List (List ℕ)
strings_in body = strings_of (layout_of body).texts

-- The area shows the rows, which fill it, and the strings of these numbers are these texts.
pub record IsArea (area : List ℕ) (strings : List (List ℕ)) (rows : List Row) (numbers : List ℕ) (texts : List (List ℕ)) : Type 0 where
  pub filled : length area ≡ size rows
  pub shown : LayoutShown (view_of area) 0 rows
  pub named : AreNamed strings numbers texts

-- An area and strings say what rows of the kind and texts say, which are theirs.
pub record IsTyped (kind : StructureKind) (area : List ℕ) (strings : List (List ℕ)) (body : Body) : Type 0 where
  pub rows : List Row
  pub texts : List (List ℕ)
  pub shaped : shape rows ≡ kind.shape
  pub says : body ≡ kind.body rows texts
  pub stands : IsArea area strings rows (kind.named rows) texts

-- those of a kind, where it is known, or any others, as they stand
abbrev pub IsBodyOf : Option StructureKind → ℕ → List ℕ → List (List ℕ) → Body → Type 0
IsBodyOf None number area strings body = body ≡ Raw number area strings
IsBodyOf (Some kind) number area strings body = IsTyped kind area strings body

-- What an area and strings say, by the structure's type and the length of its area.
abbrev pub IsBody : ℕ → List ℕ → List (List ℕ) → Body → Type 0
IsBody number area strings body = IsBodyOf (kind_for number (length area)) number area strings body
