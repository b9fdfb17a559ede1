-- Old anchors in a memory, from what is read at an address where one may stand.
use Rattle.std.proofs.Common.{◌≡◌, ℕ, ◌+◌, ◌%◌, ◌≤◌, Some, codes, refl, arith, ap, ◌∙◌}
use Rattle.std.specs.Option.{option_map}
use Rattle.vt_bytes.specs.Numbers.{byte_sum, le}
use Rattle.vt_bytes.specs.View.{View, number_in}
use Rattle.vt_bytes.specs.Memory.{Memory, at, bytes_at, seen}
use Rattle.vt_bytes.proofs.Seen.{bytes_in-seen}
use Rattle.smbios_model.specs.declared.anchor.Anchor.{Anchor}
use Rattle.smbios_model.specs.declared.anchor.AnchorForm.TheVariants.{Smbios2}
use Rattle.smbios_model.specs.Anchor.{OldAnchorShown, IsAnchorBy, HasAnchorBy}
use Rattle.anchor_scan.specs.Found.{HasMark, HasOldNumbers, HasLengthAndSums}
use Rattle.anchor_scan.proofs.ReadAndSeen.{low_ram}
use Rattle.anchor_scan.proofs.Rsdps.{byte_told, sum_told}

-- its bytes are shown where its marks, its length, its sums and its numbers are
old_shown : (view : View) (address : ℕ) (a : Anchor) (structures : ℕ) → HasMark view address (codes "_SM_")
    → HasMark view (address + 0x10) (codes "_DMI_") → HasLengthAndSums view address → HasOldNumbers view address a structures
    → OldAnchorShown view address a structures
old_shown view address a structures mark range_mark sums numbers =
    let size : number_in view (address + 4 + 1) 1 ≡ Some 31 = ap (λ place. number_in view place 1) (omega arith) ∙ sums.told in
    let major : number_in view (address + 4 + 1 + 1) 1 ≡ Some a.major = ap (λ place. number_in view place 1) (omega arith) ∙ numbers.major in
    let minor : number_in view (address + 4 + 1 + 1 + 1) 1 ≡ Some a.minor = ap (λ place. number_in view place 1) (omega arith) ∙ numbers.minor in
    let most : number_in view (address + 0x10 + 5 + 1) 2 ≡ Some a.maximum_size =
    ap (λ place. number_in view place 2) (omega arith) ∙ numbers.maximum_size in
    let leads : number_in view (address + 0x10 + 5 + 1 + 2) 4 ≡ Some structures =
    ap (λ place. number_in view place 4) (omega arith) ∙ numbers.leads in
    record {
      sized = numbers.sized;
      unrevised = numbers.unrevised;
      front = (mark, (sums.all, (size, (major, (minor, (tt, (tt, (tt, tt))))))));
      range = (range_mark, (sums.range, (most, (leads, (tt, (tt, tt))))));
    }

-- the number that is seen where its bytes are read
number_told : (m : Memory) (address width : ℕ) → 0xE0000 ≤ address → address + width ≤ 0x100000
    → number_in (seen m) address width ≡ Some (le (bytes_at m address width))
number_told m address width from within = ap (option_map le) (bytes_in-seen m address width (low_ram m.top address width from within))

-- An old anchor stands where its marks do, its length, and its sums.
pub old_stands : (m : Memory) (address : ℕ) → 0xF0000 ≤ address → address % 16 ≡ 0 → address + 31 ≤ 0x100000
    → HasMark (seen m) address (codes "_SM_") → HasMark (seen m) (address + 0x10) (codes "_DMI_") → HasLengthAndSums (seen m) address
    → HasAnchorBy Smbios2 (seen m) address
old_stands m address from aligned within mark range_mark sums =
    let a : Anchor = record {
      length = 31;
      major = le (bytes_at m (address + 6) 1);
      minor = le (bytes_at m (address + 7) 1);
      docrev = 0;
      maximum_size = le (bytes_at m (address + 0x16) 2);
    } in
    let structures : ℕ = le (bytes_at m (address + 0x18) 4) in
    let numbers : HasOldNumbers (seen m) address a structures = record {
      sized = refl;
      unrevised = refl;
      major = number_told m (address + 6) 1 (omega arith) (omega arith);
      minor = number_told m (address + 7) 1 (omega arith) (omega arith);
      maximum_size = number_told m (address + 0x16) 2 (omega arith) (omega arith);
      leads = number_told m (address + 0x18) 4 (omega arith) (omega arith);
    } in (
      a,
      structures,
      record {
        from = from;
        aligned = aligned;
        long_enough = omega arith;
        within = within;
        shown = old_shown (seen m) address a structures mark range_mark sums numbers;
      },
    )

-- one ends below 1 MiB
pub old_within : (view : View) (address : ℕ) → HasAnchorBy Smbios2 view address → address + 31 ≤ 0x100000
old_within view address has = omega (arith, has.2.within, has.2.shown.sized)

-- the length and the sums of one
pub old_sums : (view : View) (address : ℕ) → HasAnchorBy Smbios2 view address → HasLengthAndSums view address
old_sums view address has =
    let front = has.2.shown.front in
    let size : number_in view (address + 4 + 1) 1 ≡ Some 31 = front.1.1.0 in
    record {
      told = ap (λ place. number_in view place 1) (omega arith) ∙ size;
      all = front.1.0;
      range = has.2.shown.range.1.0;
    }

-- one has the numbers that are read
pub old_read : (view : View) (address : ℕ) (a : Anchor) (structures : ℕ) → HasAnchorBy Smbios2 view address
    → HasOldNumbers view address a structures → IsAnchorBy Smbios2 view address a structures
old_read view address a structures has numbers =
    let is = has.2 in
    record {
      from = is.from;
      aligned = is.aligned;
      long_enough = omega (arith, numbers.sized);
      within = omega (arith, is.within, is.shown.sized, numbers.sized);
      shown = old_shown view address a structures is.shown.front.0 is.shown.range.0 (old_sums view address has) numbers;
    }

-- what is tested of the bytes that are read is that they tell that length and such sums
pub record OldTestsPass (m : Memory) (address : ℕ) : Type 0 where
  pub length : at m (address + 5) ≡ 31
  pub all : byte_sum (bytes_at m address 31) ≡ 0
  pub range : byte_sum (bytes_at m (address + 0x10) 15) ≡ 0

pub old_tests_say : (m : Memory) (address : ℕ) → 0xF0000 ≤ address → address + 31 ≤ 0x100000 → OldTestsPass m address
    → HasLengthAndSums (seen m) address
old_tests_say m address from within pass = record {
  told = byte_told m (address + 5) (omega arith) (omega arith) ∙ ap Some pass.length;
  all = sum_told m address 31 (omega arith) within ∙ ap Some pass.all;
  range = sum_told m (address + 0x10) 15 (omega arith) (omega arith) ∙ ap Some pass.range;
}

pub old_tests_pass : (m : Memory) (address : ℕ) → 0xF0000 ≤ address → address + 31 ≤ 0x100000 → HasLengthAndSums (seen m) address
    → OldTestsPass m address
old_tests_pass m address from within has =
    let byte = byte_told m (address + 5) (omega arith) (omega arith) in
    let all = sum_told m address 31 (omega arith) within in
    let range = sum_told m (address + 0x10) 15 (omega arith) (omega arith) in
    let is_byte = has.told in
    let is_all = has.all in
    let is_range = has.range in
    record { length = cc; all = cc; range = cc }
