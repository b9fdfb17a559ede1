-- No anchor stands in the file of an RSDP, and no RSDP in that of an anchor.
use Rattle.std.proofs.Common.{◌≡◌, ℕ, ◌+◌, ◌*◌, ◌%◌, ◌<◌, ◌≤◌, ◌⊎◌, inl, inr, List, arith, ap}
use Rattle.std.proofs.lemmas.Bool.{cases_lt}
use Rattle.vt_bytes.specs.Memory.{Memory, at, seen}
use Rattle.vt_bytes.proofs.Views.{bytes_in-part}
use Rattle.vt_bytes.proofs.FirstByte.{first-byte, low-byte}
use Rattle.vt_bytes.proofs.Seen.{at-seen}
use Rattle.vt_layout.specs.declared.row.Row.TheVariants.{Number}
use Rattle.vt_layout.specs.Shown.{LayoutHeld, LayoutShown}
use Rattle.acpi_model.specs.Rsdp.{rsdp_rows, HasRsdp}
use Rattle.smbios_model.specs.Anchor.{anchor_rows, anchor_of, HasAnchor}
use Rattle.acpi_append.specs.Tables.{table_pointer}
use Rattle.vm_image.proofs.Marks.{Mark, HasMark, IsClear}

-- an RSDP begins with an R and an S
abbrev pub rsdp_mark : ℕ → Mark
rsdp_mark limit = record { first = 0x52; second = 0x53; limit = limit }

-- an anchor begins with an underscore and an S
abbrev pub anchor_mark : ℕ → Mark
anchor_mark limit = record { first = 0x5F; second = 0x53; limit = limit }

-- a valid RSDP below a limit has its mark
pub rsdp_marked : (m : Memory) (limit address : ℕ) → address < limit → HasRsdp (seen m) address → HasMark m (rsdp_mark limit) address
rsdp_marked m limit address below is = record {
  aligned = is.2.aligned;
  below = below;
  first = at-seen m address 0x52 (first-byte (seen m) address 7 0x52 _ is.2.shown.0);
  second = at-seen m (address + 1) 0x53 (first-byte (seen m) (address + 1) 6 0x53 _
      (bytes_in-part (seen m) address 8 _ 1 7 is.2.shown.0 (omega arith)));
}

-- so has a valid anchor
pub anchor_marked : (m : Memory) (limit address : ℕ) → address < limit → HasAnchor (seen m) address → HasMark m (anchor_mark limit) address
anchor_marked m limit address below is = record {
  aligned = is.2.aligned;
  below = below;
  first = at-seen m address 0x5F (first-byte (seen m) address 4 0x5F _ is.2.shown.0);
  second = at-seen m (address + 1) 0x53 (first-byte (seen m) (address + 1) 3 0x53 _
      (bytes_in-part (seen m) address 5 _ 1 4 is.2.shown.0 (omega arith)));
}

-- a file at or behind the limit of a mark is clear of it
pub clear_behind : (m : Memory) (mark : Mark) (place size : ℕ) → place % 16 ≡ 0 → mark.limit ≤ place → IsClear m mark place size
clear_behind m mark place size aligned behind = record {
  aligned = aligned;
  none = λ address from within has. let below = has.below in absurd (omega arith);
}

-- a multiple of 16 in so many bytes from another one on is that one, or one that is 16 or 32 further
three_places : (base address : ℕ) → base % 16 ≡ 0 → address % 16 ≡ 0 → base ≤ address → address < base + 36
    → (address ≡ base) ⊎ ((address ≡ base + 16) ⊎ (address ≡ base + 32))
three_places base address base_aligned aligned from below =
    elim (cases_lt address (base + 16)) as (λ _. (address ≡ base) ⊎ ((address ≡ base + 16) ⊎ (address ≡ base + 32))) [
      | inl first ↦ inl (omega arith)
      | inr behind ↦
          elim (cases_lt address (base + 32)) as (λ _. (address ≡ base) ⊎ ((address ≡ base + 16) ⊎ (address ≡ base + 32))) [
            | inl second ↦ inr (inl (omega arith))
            | inr third ↦ inr (inr (omega arith))
          ]
    ]

-- No anchor stands in the file of an RSDP, whose multiples of 16 hold an R, the low byte of the RSDT's address, which is 0, and a
-- sum with what is reserved behind it, which is 0.
pub rsdp_clear : (m : Memory) (place_of : List ℕ → ℕ) (limit place : ℕ) (oem_id : List ℕ) (xsdt : ℕ) → place % 16 ≡ 0
    → LayoutHeld (seen m) place_of place (rsdp_rows oem_id (table_pointer xsdt)) → IsClear m (anchor_mark limit) place 36
rsdp_clear m place_of limit place oem_id xsdt aligned held = record {
  aligned = aligned;
  none = λ address from below has.
      elim (three_places place address aligned has.aligned from below) as (λ _. ⊥) [
        | inl front ↦
            let signed : at m place ≡ 0x52 = at-seen m place 0x52 (first-byte (seen m) place 7 0x52 _ held.0) in
            let same : at m address ≡ at m place = ap (at m) front in
            let first = has.first in
            omega arith
        | inr behind ↦ elim behind as (λ _. ⊥) [
          | inl middle ↦
              let none : at m (place + 8 + 1 + 6 + 1) ≡ 0 = at-seen m (place + 8 + 1 + 6 + 1) 0
              (first-byte (seen m) (place + 8 + 1 + 6 + 1) 3 0 _ held.1.1.1.1.0) in
              let there : address ≡ place + 8 + 1 + 6 + 1 = omega arith in
              let same : at m address ≡ at m (place + 8 + 1 + 6 + 1) = ap (at m) there in
              let first = has.first in
              omega arith
          | inr back ↦
              let reserved : at m (place + 8 + 1 + 6 + 1 + 4 + 4 + 8 + 1) ≡ 0 = at-seen m (place + 8 + 1 + 6 + 1 + 4 + 4 + 8 + 1) 0
              (first-byte (seen m) (place + 8 + 1 + 6 + 1 + 4 + 4 + 8 + 1) 2 0 _ held.1.1.1.1.1.1.1.1.0) in
              let there : address + 1 ≡ place + 8 + 1 + 6 + 1 + 4 + 4 + 8 + 1 = omega arith in
              let same : at m (address + 1) ≡ at m (place + 8 + 1 + 6 + 1 + 4 + 4 + 8 + 1) = ap (at m) there in
              let second = has.second in
              omega arith
        ]
      ];
}

-- No RSDP stands in the file of an anchor, whose multiples of 16 hold an underscore and the low byte of the structures' address,
-- which is a multiple of 16.
pub anchor_clear : (m : Memory) (limit place size structures : ℕ) → place % 16 ≡ 0 → structures % 16 ≡ 0
    → LayoutShown (seen m) place (anchor_rows (anchor_of size) (Number 8 structures)) → IsClear m (rsdp_mark limit) place 24
anchor_clear m limit place size structures aligned structures_aligned shown = record {
  aligned = aligned;
  none = λ address from below has.
      let first = has.first in
      elim (three_places place address aligned has.aligned from (omega arith)) as (λ _. ⊥) [
        | inl front ↦
            let byte : at m place ≡ 0x5F = at-seen m place 0x5F (first-byte (seen m) place 4 0x5F _ shown.0) in
            let same : at m address ≡ at m place = ap (at m) front in
            omega arith
        | inr behind ↦ elim behind as (λ _. ⊥) [
          | inl middle ↦
              let number = low-byte (seen m) (place + 5 + 1 + 1 + 1 + 1 + 1 + 1 + 1 + 4) 7 structures shown.1.1.1.1.1.1.1.1.1.0 in
              let begins : structures ≡ number.byte + 256 * number.rest = number.number_is in
              let byte : at m (place + 5 + 1 + 1 + 1 + 1 + 1 + 1 + 1 + 4) ≡ number.byte =
              at-seen m (place + 5 + 1 + 1 + 1 + 1 + 1 + 1 + 1 + 4) number.byte number.there in
              let there : address ≡ place + 5 + 1 + 1 + 1 + 1 + 1 + 1 + 1 + 4 = omega arith in
              let same : at m address ≡ at m (place + 5 + 1 + 1 + 1 + 1 + 1 + 1 + 1 + 4) = ap (at m) there in
              omega arith
          | inr back ↦ omega arith
        ]
      ];
}
