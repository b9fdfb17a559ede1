-- A part of a machine is got back from the record that it is written as.
use Rattle.std.proofs.Common.{◌≡◌, ℕ, ◌+◌, ◌-◌, ◌*◌, ◌/◌, ◌%◌, ◌^◌, ◌<◌, ◌≤◌, Bool, true, false, not, cond, ◌&&◌, reverse, Option, Some, None, IfSome}
use Rattle.std.proofs.Common.{nat_lt, nat_le, ◌==◌, arith, refl, ap, ◌∙◌}
use Rattle.std.specs.Int.{w128, to_be_bytes}
use Rattle.std.specs.Option.{option_map_or}
use Rattle.std.proofs.lemmas.Bool.{and_parts, cond-false, leb-true}
use Rattle.std.proofs.lemmas.Bool.Decides.{nat_tests}
use Rattle.std.proofs.lemmas.List.{reverse-reverse}
use Rattle.uuid.specs.Parts.{swap_fields}
use Rattle.vt_bytes.specs.Numbers.{le, be, le_bytes}
use Rattle.vt_bytes.proofs.Numbers.{le-le_bytes, le_bytes-whole, bytes_high_first-reverse}
use Rattle.machine_desc.specs.declared.machine.System.{System}
use Rattle.machine_desc.specs.declared.smbios_parts.Slot.{Slot}
use Rattle.machine_desc.specs.declared.smbios_parts.Dimm.{Dimm}
use Rattle.machine_desc.specs.declared.smbios_parts.MemRange.{MemRange}
use Rattle.machine_desc.specs.Rules.{end_of, is_own_uuid, is_lawful_slot}
use Rattle.machine_desc.specs.Fields.{IsFittingRange, fitted}
use Rattle.smbios_model.specs.declared.mapped_address.MappedInfo.{MappedInfo}
use Rattle.smbios_model.specs.SystemInformation.{uuid_field, system_of, uuid_in, system_part_in}
use Rattle.smbios_model.specs.SlotInformation.{slot_of, slot_part_in}
use Rattle.smbios_model.specs.MemoryDevice.{size_field, extended_field, device_of, mib_in, dimm_in}
use Rattle.smbios_model.specs.MappedAddress.{in_kib, in_bytes, mapped_of, told_in, range_in}

-- the number of a UUID's field
pub uuid_number : (uuid : ℕ) → uuid < 2 ^ 128 → be (swap_fields (uuid_field (Some uuid))) ≡ uuid
uuid_number uuid fits =
    let turned : swap_fields (swap_fields (to_be_bytes w128 uuid)) ≡ to_be_bytes w128 uuid = refl in
    let bytes : to_be_bytes w128 uuid ≡ reverse (le_bytes 16 uuid) = bytes_high_first-reverse 16 uuid ∙ ap reverse (le_bytes-whole 16 uuid) in
    ap be bytes ∙ ap le (reverse-reverse (le_bytes 16 uuid)) ∙ le-le_bytes 16 uuid fits

-- a UUID of its own isn't zero
not_zero : (uuid : ℕ) → is_own_uuid uuid ≡ true → (uuid == 0) ≡ false
not_zero uuid own = is_not uuid (and_parts (not (uuid == 0)) (not (uuid == 2 ^ 128 - 1)) own).0
  where
    is_not : (uuid : ℕ) → not (uuid == 0) ≡ true → (uuid == 0) ≡ false
    is_not uuid other = grind (arith, nat_tests)

pub uuid_back : (uuid : Option ℕ) → IfSome uuid (λ number. number < 2 ^ 128) → option_map_or is_own_uuid uuid true ≡ true → uuid_in (uuid_field uuid) ≡ uuid
uuid_back None fits own = refl
uuid_back (Some uuid) fits own =
    ap (λ number. cond (number == 0) None (Some number)) (uuid_number uuid fits) ∙ cond-false (uuid == 0) None (Some uuid) (not_zero uuid own)

pub system_back : (s : System) → IfSome s.uuid (λ number. number < 2 ^ 128) → option_map_or is_own_uuid s.uuid true ≡ true
    → system_part_in (system_of s) ≡ s
system_back s fits own = ap (λ uuid. record s { uuid = uuid }) (uuid_back s.uuid fits own)

used_back : (used : Bool) → (cond used 4 3 == 4) ≡ used
used_back true = refl
used_back false = refl

pub slot_back : (s : Slot) → is_lawful_slot s ≡ true → slot_part_in (slot_of s) ≡ s
slot_back s lawful =
    let parts = and_parts (nat_le 1 s.kind && nat_le 1 s.width && nat_le s.device 31) (nat_le s.function 7) lawful in
    let few = leb-true s.function 7 parts.1 in
    let device : (s.device * 8 + s.function) / 8 ≡ s.device = omega arith in
    let function : (s.device * 8 + s.function) % 8 ≡ s.function = omega arith in
    ap (λ used. record s { used = used; device = (s.device * 8 + s.function) / 8; function = (s.device * 8 + s.function) % 8 }) (used_back s.used)
    ∙ ap (λ n. record s { device = n; function = (s.device * 8 + s.function) % 8 }) device ∙ ap (λ n. record s { function = n }) function

-- the size of a module, from both fields
mib_back : (mib : ℕ) → mib_in (size_field mib) (extended_field mib) ≡ mib
mib_back mib = by_field (nat_lt mib 0x7FFF) mib refl
  where
    by_field : (low : Bool) (mib : ℕ) → nat_lt mib 0x7FFF ≡ low → mib_in (cond low mib 0x7FFF) (cond low 0 mib) ≡ mib
    by_field true mib low =
        let small : (mib == 0x7FFF) ≡ false = grind (arith, nat_tests) in
        cond-false (mib == 0x7FFF) 0 mib small
    by_field false mib high = refl

pub dimm_back : (d : Dimm) → dimm_in (device_of d) ≡ d
dimm_back d = ap (λ n. record d { size_mib = n }) (mib_back d.size_mib)

-- a number that fits is told as it is
fitting : (number : ℕ) → number < 2 ^ 32 → fitted 32 number ≡ number
fitting number fits = grind (arith, nat_tests)

-- a range's first number and its last one, in a unit of which a MiB has some
told_back : (unit base size : ℕ) → base * unit / unit ≡ base → ((base + size) * unit - 1 - base * unit + 1) / unit ≡ size → base < 2 ^ 32
    → size < 2 ^ 32 → told_in unit (base * unit) ((base + size) * unit - 1) ≡ record { base_mib = base; size_mib = size; node = 0 }
told_back unit base size first whole base_fits size_fits =
    let range : ℕ → ℕ → MemRange = λ b s. record { base_mib = b; size_mib = s; node = 0 } in
    ap (λ n. range (fitted 32 n) (fitted 32 (((base + size) * unit - 1 - base * unit + 1) / unit))) first
    ∙ ap (λ n. range (fitted 32 base) (fitted 32 n)) whole
    ∙ ap (λ n. range n (fitted 32 size)) (fitting base base_fits) ∙ ap (range base) (fitting size size_fits)

kib_back : (base size : ℕ) → base < 2 ^ 32 → size < 2 ^ 32
    → range_in (in_kib base (base + size)) ≡ record { base_mib = base; size_mib = size; node = 0 }
kib_back base size base_fits size_fits =
    let low : (base * 1024 == 0xFFFFFFFF) ≡ false = grind (arith, nat_tests) in
    cond-false (base * 1024 == 0xFFFFFFFF) (told_in 0x100000 0 0) (told_in 1024 (base * 1024) ((base + size) * 1024 - 1)) low
    ∙ told_back 1024 base size (omega arith) (omega arith) base_fits size_fits

bytes_back : (base size : ℕ) → base < 2 ^ 32 → size < 2 ^ 32
    → range_in (in_bytes base (base + size)) ≡ record { base_mib = base; size_mib = size; node = 0 }
bytes_back base size base_fits size_fits = told_back 0x100000 base size (omega arith) (omega arith) base_fits size_fits

-- all of a range but its node
pub range_back : (r : MemRange) → IsFittingRange r → range_in (mapped_of r) ≡ record r { node = 0 }
range_back r fits = by_fields (nat_lt (end_of r * 1024 - 1) 0xFFFFFFFF)
  where
    by_fields : (low : Bool) → range_in (cond low (in_kib r.base_mib (end_of r)) (in_bytes r.base_mib (end_of r))) ≡ record r { node = 0 }
    by_fields true = kib_back r.base_mib r.size_mib fits.base_mib fits.size_mib
    by_fields false = bytes_back r.base_mib r.size_mib fits.base_mib fits.size_mib

-- no more memory is got back than was told

fitted_down : (number : ℕ) → fitted 32 number ≤ number
fitted_down number = grind (arith, nat_tests)

pub kib_down : (i : MappedInfo) → (i.start ≡ 0xFFFFFFFF → ⊥) → (range_in i).size_mib * 1024 ≤ i.end - i.start + 1
kib_down i low =
    let other : (i.start == 0xFFFFFFFF) ≡ false = grind (arith, nat_tests) in
    let is = ap (λ (r : MemRange). r.size_mib) (cond-false (i.start == 0xFFFFFFFF) (told_in 0x100000 i.ext_start i.ext_end)
    (told_in 1024 i.start i.end) other) in
    omega (arith, is, fitted_down ((i.end - i.start + 1) / 1024))

pub bytes_down : (i : MappedInfo) → i.start ≡ 0xFFFFFFFF → (range_in i).size_mib * 0x100000 ≤ i.ext_end - i.ext_start + 1
bytes_down i high =
    let is = ap (λ start. (cond (start == 0xFFFFFFFF) (told_in 0x100000 i.ext_start i.ext_end) (told_in 1024 i.start i.end)).size_mib) high in
    omega (arith, is, fitted_down ((i.ext_end - i.ext_start + 1) / 0x100000))
