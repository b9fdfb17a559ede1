-- What holds of the structure that each part of a machine is written as: its kind, how many bytes it has at most, its texts, and that its
-- numbers fit their fields, where the part keeps its rules and its own numbers fit.
use Rattle.std.proofs.Common.{◌≡◌, ℕ, ◌+◌, ◌*◌, ◌-◌, ◌^◌, ◌<◌, ◌≤◌, Bool, true, false, ◌&&◌, max, List, [], ◌∷◌, length, Option, Some, None}
use Rattle.std.proofs.Common.{nat_le, nat_lt, ◌==◌, if◌then◌else◌, arith, rules, refl}
use Rattle.std.specs.List.{list_all, AllByRecursion}
use Rattle.std.proofs.lemmas.Bool.{and_parts, leb-true, ltb-true}
use Rattle.std.proofs.lemmas.Bool.Decides.{nat_tests}
use Rattle.std.proofs.lemmas.List.Sums.{sum_by-cons}
use Rattle.vt_layout.specs.declared.row.Row.{Row}
use Rattle.vt_layout.specs.declared.row.Row.TheVariants.{Bytes, Named}
use Rattle.vt_layout.specs.Rows.{IsRow, size, string_numbers}
use Rattle.machine_desc.specs.declared.machine.System.{System}
use Rattle.machine_desc.specs.declared.smbios_parts.Socket.{Socket}
use Rattle.machine_desc.specs.declared.smbios_parts.Slot.{Slot}
use Rattle.machine_desc.specs.declared.smbios_parts.Dimm.{Dimm}
use Rattle.machine_desc.specs.declared.smbios_parts.MemRange.{MemRange}
use Rattle.machine_desc.specs.declared.smbios_parts.Firmware.{Firmware}
use Rattle.machine_desc.specs.declared.smbios_parts.Chassis.{Chassis}
use Rattle.machine_desc.specs.Rules.{is_text, system_texts, firmware_texts, chassis_texts, socket_texts, dimm_texts, slot_texts, end_of}
use Rattle.machine_desc.specs.Rules.{is_some_text, is_lawful_chassis, is_lawful_socket, is_lawful_dimm, is_lawful_slot}
use Rattle.machine_desc.specs.Fields.{IsFittingFirmware, IsFittingSocket, IsFittingSlot}
use Rattle.smbios_model.specs.declared.smbios.Body.{Body}
use Rattle.smbios_model.specs.declared.smbios.Body.TheVariants.{OemStrings, Mapped, Raw}
use Rattle.smbios_model.specs.StructureKinds.{StructureKind}
use Rattle.smbios_model.specs.BiosInformation.{bios_kind}
use Rattle.smbios_model.specs.SystemInformation.{system_kind, uuid_field}
use Rattle.smbios_model.specs.ChassisInformation.{chassis_kind}
use Rattle.smbios_model.specs.ProcessorInformation.{processor_kind, count_byte}
use Rattle.smbios_model.specs.SlotInformation.{slot_kind}
use Rattle.smbios_model.specs.OemStrings.{oem_strings_kind}
use Rattle.smbios_model.specs.MemoryArray.{array_kind, total_mib, capacity_of, extended_of}
use Rattle.smbios_model.specs.MemoryDevice.{device_kind, size_field, extended_field}
use Rattle.smbios_model.specs.MappedAddress.{mapped_kind, in_kib, in_bytes}
use Rattle.smbios_model.specs.BootInformation.{boot_kind}
use Rattle.smbios_model.specs.Structures.{layout_of}
use Rattle.smbios_model.specs.MachineStructures.{bios_body, system_body, chassis_body, processor_body, slot_body, array_body, device_body}
use Rattle.smbios_model.specs.MachineStructures.{mapped_body, boot_body}

-- the test of rows that their bytes fill; none holds a name
unfoldable pub is_filled : Row → Bool
is_filled (Bytes width bytes) = length bytes == width
is_filled (Named name) = false
is_filled row = true

-- How many texts a structure of a kind has at most: as many as its rows name. OEM Strings are as many as the rule on lists lets them be.
abbrev pub most_texts : StructureKind → ℕ
most_texts kind = if kind.number == 11 then 32 else length (string_numbers kind.shape)

-- the most bytes that a structure has with such an area and so many texts: its header, its area, and strings of 64 bytes, each with its NUL, and
-- one NUL more, or two NULs alone
abbrev pub room : ℕ → ℕ → ℕ
room size_of_area texts = 4 + size_of_area + max 2 (65 * texts + 1)

abbrev pub most_bytes : StructureKind → ℕ
most_bytes kind = room (size kind.shape) (most_texts kind)

-- texts of a machine's maker aren't empty, and no structure is raw
abbrev pub HasStrings : Body → Type 0
HasStrings (OemStrings texts) = list_all is_some_text texts ≡ true
HasStrings (Raw number area strings) = ⊥
HasStrings body = Unit {0}

-- A structure of a kind that can be written, in few bytes: its rows are filled, and its texts are lawful.
pub record IsLawfulBody (kind : StructureKind) (body : Body) : Type 0 where
  pub typed : (layout_of body).kind ≡ kind
  pub small : room (size (layout_of body).rows) (length (layout_of body).texts) ≤ most_bytes kind
  pub filled : list_all is_filled (layout_of body).rows ≡ true
  pub texts : list_all is_text (layout_of body).texts ≡ true
  pub strings : HasStrings body

-- what a structure says fits its rows
abbrev pub HasFittingRows : Body → Type 0
HasFittingRows body = AllByRecursion IsRow (layout_of body).rows

-- Elements of a machine are written as structures of a kind. A lawful element's structure has few bytes and its texts, and its numbers fit
-- where those of the element do.
pub record AreWritten {Element : Type 0} (kind : StructureKind) (body_of : Element → Body) (texts_of : Element → List (List ℕ))
    (Lawful Fits : Element → Type 0) : Type 0 where
  pub typed : (e : Element) → (layout_of (body_of e)).kind ≡ kind
  pub small : (e : Element) → Lawful e → room (size (layout_of (body_of e)).rows) (length (layout_of (body_of e)).texts) ≤ most_bytes kind
  pub filled : (e : Element) → list_all is_filled (layout_of (body_of e)).rows ≡ true
  pub texts : (e : Element) → (layout_of (body_of e)).texts ≡ texts_of e
  pub strings : (e : Element) → Lawful e → HasStrings (body_of e)
  pub fits : (e : Element) → Lawful e → Fits e → HasFittingRows (body_of e)

-- where no rule speaks of elements or their numbers all fit, and where they have no texts

abbrev pub Anything : {X : Type 0} → X → Type 0
Anything x = Unit {0}

abbrev pub nothing : {X : Type 0} → X → List (List ℕ)
nothing x = []

-- the parts of a machine, each with the structures that it is written as

firmware_fits : (f : Firmware) → IsFittingFirmware f → HasFittingRows (bios_body f)
firmware_fits f fits =
    let major : f.major < 256 = fits.major in
    let minor : f.minor < 256 = fits.minor in
    search (rules, major, minor)

pub firmware_written : AreWritten bios_kind bios_body firmware_texts Anything IsFittingFirmware
unfolding is_filled
firmware_written = record {
  typed = λ e. refl;
  small = λ e lawful. omega arith;
  filled = λ e. refl;
  texts = λ e. refl;
  strings = λ e lawful. tt;
  fits = λ f lawful fits. firmware_fits f fits;
}

-- a UUID has sixteen bytes, which fill their row
length-uuid : (uuid : Option ℕ) → length (uuid_field uuid) ≡ 16
length-uuid None = refl
length-uuid (Some number) = refl

system_filled : (s : System) → list_all is_filled (layout_of (system_body s)).rows ≡ true
unfolding is_filled
system_filled s = rw (length-uuid s.uuid) refl

system_fits : (s : System) → HasFittingRows (system_body s)
system_fits s = search (rules, length-uuid)

pub system_written : AreWritten system_kind system_body system_texts Anything Anything
unfolding is_filled
system_written = record {
  typed = λ e. refl;
  small = λ e lawful. omega arith;
  filled = system_filled;
  texts = λ e. refl;
  strings = λ e lawful. tt;
  fits = λ s lawful fits. system_fits s;
}

chassis_fits : (c : Chassis) → is_lawful_chassis c ≡ true → HasFittingRows (chassis_body c)
chassis_fits c lawful =
    let kind = leb-true c.kind 127 (and_parts (nat_le 1 c.kind) (nat_le c.kind 127) lawful).1 in
    let few : c.kind < 256 = omega arith in
    search (rules, few)

pub chassis_written : AreWritten chassis_kind chassis_body chassis_texts (λ c. is_lawful_chassis c ≡ true) Anything
unfolding is_filled
chassis_written = record {
  typed = λ e. refl;
  small = λ e lawful. omega arith;
  filled = λ e. refl;
  texts = λ e. refl;
  strings = λ e lawful. tt;
  fits = λ c lawful fits. chassis_fits c lawful;
}

-- the byte of a count
count_fits : (count : ℕ) → count_byte count < 256
count_fits count = omega arith

socket_fits : (s : Socket) → is_lawful_socket s ≡ true → IsFittingSocket s → HasFittingRows (processor_body s)
socket_fits s lawful fits =
    let first = and_parts (nat_le 1 s.cores && nat_le s.cores s.threads) (nat_le s.threads 65534) lawful in
    let threads = leb-true s.threads 65534 first.1 in
    let cores = leb-true s.cores s.threads (and_parts (nat_le 1 s.cores) (nat_le s.cores s.threads) first.0).1 in
    let few_threads : s.threads < 65536 = omega arith in
    let few_cores : s.cores < 65536 = omega arith in
    let speed : s.mhz < 65536 = fits in
    search (rules, few_threads, few_cores, speed, count_fits)

pub sockets_written : AreWritten processor_kind processor_body socket_texts (λ s. is_lawful_socket s ≡ true) IsFittingSocket
unfolding is_filled
sockets_written = record {
  typed = λ e. refl;
  small = λ e lawful. omega arith;
  filled = λ e. refl;
  texts = λ e. refl;
  strings = λ e lawful. tt;
  fits = socket_fits;
}

-- what is used is 4 or 3
usage_fits : (used : Bool) → (if used then 4 else 3) < 256
usage_fits true = omega arith
usage_fits false = omega arith

slot_fits : (s : Slot) → is_lawful_slot s ≡ true → IsFittingSlot s → HasFittingRows (slot_body s)
slot_fits s lawful fits =
    let first = and_parts (nat_le 1 s.kind && nat_le 1 s.width && nat_le s.device 31) (nat_le s.function 7) lawful in
    let function = leb-true s.function 7 first.1 in
    let device = leb-true s.device 31 (and_parts (nat_le 1 s.kind && nat_le 1 s.width) (nat_le s.device 31) first.0).1 in
    let both : s.device * 8 + s.function < 256 = omega arith in
    let kind : s.kind < 256 = fits.kind in
    let width : s.width < 256 = fits.width in
    let id : s.id < 65536 = fits.id in
    let bus : s.bus < 256 = fits.bus in
    search (rules, both, kind, width, id, bus, usage_fits)

pub slots_written : AreWritten slot_kind slot_body slot_texts (λ s. is_lawful_slot s ≡ true) IsFittingSlot
unfolding is_filled
slots_written = record {
  typed = λ e. refl;
  small = λ e lawful. omega arith;
  filled = λ e. refl;
  texts = λ e. refl;
  strings = λ e lawful. tt;
  fits = slot_fits;
}

-- texts of the machine's maker, which aren't empty
pub record AreLawfulTexts (texts : List (List ℕ)) : Type 0 where
  pub few : length texts ≤ 32
  pub some : list_all is_some_text texts ≡ true

oem_strings_fit : (texts : List (List ℕ)) → length texts ≤ 32 → HasFittingRows (OemStrings texts)
oem_strings_fit texts few = let count : length texts < 256 = omega arith in search (rules, count)

pub oem_strings_written : AreWritten oem_strings_kind OemStrings (λ texts. texts) AreLawfulTexts Anything
unfolding is_filled
oem_strings_written = record {
  typed = λ e. refl;
  small = λ texts lawful. omega (arith, lawful.few);
  filled = λ e. refl;
  texts = λ e. refl;
  strings = λ texts lawful. lawful.some;
  fits = λ texts lawful fits. oem_strings_fit texts lawful.few;
}

-- a size below 2 TiB in KiB, and one of at most 2^32 MiB in bytes
capacity_fits : (mib : ℕ) → capacity_of mib < 256 ^ 4
capacity_fits mib = grind (arith, nat_tests)

extended_fits : (mib : ℕ) → mib ≤ 2 ^ 32 → extended_of mib < 256 ^ 8
extended_fits mib few = grind (arith, nat_tests, few)

-- each module has at most 2^24 MiB
total_fits : (dimms : List Dimm) → list_all is_lawful_dimm dimms ≡ true → total_mib dimms ≤ 16777216 * length dimms
total_fits [] lawful = omega arith
total_fits (d ∷ dimms) lawful =
    let parts = and_parts (is_lawful_dimm d) (list_all is_lawful_dimm dimms) lawful in
    let size = leb-true d.size_mib 16777216 (and_parts (nat_le 1 d.size_mib) (nat_le d.size_mib 16777216)
    (and_parts (nat_le 1 d.size_mib && nat_le d.size_mib 16777216) (nat_le d.speed 65534) parts.0).0).1 in
    omega (arith, sum_by-cons (λ (one : Dimm). one.size_mib) d dimms, size, total_fits dimms parts.1)

-- modules together
pub record AreLawfulDimms (dimms : List Dimm) : Type 0 where
  pub few : length dimms ≤ 256
  pub lawful : list_all is_lawful_dimm dimms ≡ true

array_fits : (dimms : List Dimm) → AreLawfulDimms dimms → HasFittingRows (array_body dimms)
array_fits dimms are =
    let total : total_mib dimms ≤ 2 ^ 32 = omega (arith, are.few, total_fits dimms are.lawful) in
    let capacity = capacity_fits (total_mib dimms) in
    let extended = extended_fits (total_mib dimms) total in
    let count : length dimms < 65536 = omega (arith, are.few) in
    search (rules, capacity, extended, count)

pub array_written : AreWritten array_kind array_body nothing AreLawfulDimms Anything
unfolding is_filled
array_written = record {
  typed = λ e. refl;
  small = λ e lawful. omega arith;
  filled = λ e. refl;
  texts = λ e. refl;
  strings = λ e lawful. tt;
  fits = λ dimms lawful fits. array_fits dimms lawful;
}

-- the fields of a module's size
size_fits : (mib : ℕ) → size_field mib < 65536
size_fits mib = grind (arith, nat_tests)

extended_size_fits : (mib : ℕ) → mib ≤ 16777216 → extended_field mib < 256 ^ 4
extended_size_fits mib few = grind (arith, nat_tests, few)

device_fits : (d : Dimm) → is_lawful_dimm d ≡ true → HasFittingRows (device_body d)
device_fits d lawful =
    let first = and_parts (nat_le 1 d.size_mib && nat_le d.size_mib 16777216) (nat_le d.speed 65534) lawful in
    let size = leb-true d.size_mib 16777216 (and_parts (nat_le 1 d.size_mib) (nat_le d.size_mib 16777216) first.0).1 in
    let slow = leb-true d.speed 65534 first.1 in
    let speed : d.speed < 65536 = omega arith in
    let mib = size_fits d.size_mib in
    let extended = extended_size_fits d.size_mib size in
    search (rules, speed, mib, extended)

pub dimms_written : AreWritten device_kind device_body dimm_texts (λ d. is_lawful_dimm d ≡ true) Anything
unfolding is_filled
dimms_written = record {
  typed = λ e. refl;
  small = λ e lawful. omega arith;
  filled = λ e. refl;
  texts = λ e. refl;
  strings = λ e lawful. tt;
  fits = λ d lawful fits. device_fits d lawful;
}

-- a range that ends within 2^32 MiB
kib_fits : (base end : ℕ) → base ≤ end → end * 1024 - 1 < 0xFFFFFFFF → HasFittingRows (Mapped (in_kib base end))
kib_fits base end order low =
    let last : end * 1024 - 1 < 256 ^ 4 = omega arith in
    let start : base * 1024 < 256 ^ 4 = omega arith in
    search (rules, last, start)

bytes_fit : (base end : ℕ) → base ≤ end → end ≤ 2 ^ 32 → HasFittingRows (Mapped (in_bytes base end))
bytes_fit base end order few =
    let last : end * 0x100000 - 1 < 256 ^ 8 = omega arith in
    let start : base * 0x100000 < 256 ^ 8 = omega arith in
    search (rules, last, start)

range_fits : (r : MemRange) → end_of r ≤ 2 ^ 32 → HasFittingRows (mapped_body r)
range_fits r few = by_test (nat_lt (end_of r * 1024 - 1) 0xFFFFFFFF) refl
  where
    by_test : (test : Bool) → nat_lt (end_of r * 1024 - 1) 0xFFFFFFFF ≡ test
        → HasFittingRows (Mapped (if test then in_kib r.base_mib (end_of r) else in_bytes r.base_mib (end_of r)))
    by_test true low = kib_fits r.base_mib (end_of r) (omega arith) (ltb-true (end_of r * 1024 - 1) 0xFFFFFFFF low)
    by_test false high = bytes_fit r.base_mib (end_of r) (omega arith) few

pub ranges_written : AreWritten mapped_kind mapped_body nothing (λ (r : MemRange). end_of r ≤ 2 ^ 32) Anything
unfolding is_filled
ranges_written = record {
  typed = λ e. refl;
  small = λ e lawful. omega arith;
  filled = λ e. refl;
  texts = λ e. refl;
  strings = λ e lawful. tt;
  fits = λ r lawful fits. range_fits r lawful;
}

boot_fits : (f : Firmware) → HasFittingRows (boot_body f)
boot_fits f = search rules

pub boot_written : AreWritten boot_kind boot_body nothing Anything Anything
unfolding is_filled
boot_written = record {
  typed = λ e. refl;
  small = λ e lawful. omega arith;
  filled = λ e. refl;
  texts = λ e. refl;
  strings = λ e lawful. tt;
  fits = λ f lawful fits. boot_fits f;
}
