-- 64-bit entry points in a memory, from what is read at an address where one may stand.
use Rattle.std.proofs.Common.{◌≡◌, ℕ, ◌+◌, ◌%◌, ◌≤◌, Some, codes, arith, ap, subst, sym, ◌∙◌}
use Rattle.std.specs.Option.{option_map}
use Rattle.vt_bytes.specs.Numbers.{byte_sum}
use Rattle.vt_bytes.specs.View.{View, bytes_in}
use Rattle.vt_bytes.specs.Memory.{Memory, bytes_at, seen}
use Rattle.vt_bytes.proofs.Seen.{bytes_in-seen}
use Rattle.smbios_model.specs.declared.anchor.Anchor.{Anchor}
use Rattle.smbios_model.specs.Anchor.{IsAnchor, HasAnchor}
use Rattle.anchor_scan.specs.Found.{HasMark, HasNumbers}
use Rattle.anchor_scan.proofs.ReadAndSeen.{low_ram}

-- An anchor stands where its mark and its numbers do, its length is in range, and its bytes sum to zero.
pub anchor_stands : (m : Memory) (address : ℕ) (a : Anchor) (structures : ℕ) → 0xF0000 ≤ address → address % 16 ≡ 0 → HasMark (seen m) address (codes "_SM3_")
    → HasNumbers (seen m) address a structures → 0x18 ≤ a.length → address + a.length ≤ 0x100000 → 0 ≡ byte_sum (bytes_at m address a.length)
    → HasAnchor (seen m) address
anchor_stands m address a structures from aligned mark numbers long_enough within sum =
    let shown = bytes_in-seen m address a.length (low_ram m.top address a.length (omega arith) within) in (
      a,
      structures,
      record {
        from = from;
        aligned = aligned;
        long_enough = long_enough;
        within = within;
        shown = (mark, (ap (option_map byte_sum) shown ∙ ap Some (sym sum), numbers));
      },
    )

-- the length of an anchor is the one that is read
pub length_read : (view : View) (address : ℕ) (a b : Anchor) (structures others : ℕ) → HasNumbers view address a structures
    → IsAnchor view address b others → b.length ≡ a.length
length_read view address a b structures others numbers is = cc (numbers.0, is.shown.1.1.0)

-- the bytes of an anchor sum to zero
pub sum_of_anchor : (m : Memory) (address : ℕ) (a : Anchor) (structures : ℕ) → IsAnchor (seen m) address a structures
    → byte_sum (bytes_at m address a.length) ≡ 0
sum_of_anchor m address a structures is =
    let shown = bytes_in-seen m address a.length (low_ram m.top address a.length (omega (arith, is.from)) is.within) in
    let sum = is.shown.1.0 in
    cc

-- an anchor has the numbers that are read
pub anchor_read : (view : View) (address : ℕ) (a : Anchor) (structures : ℕ) → HasAnchor view address → HasNumbers view address a structures
    → IsAnchor view address a structures
anchor_read view address a structures has numbers =
    let is = has.2 in
    let lengths = length_read view address a has.0 structures has.1 numbers is in
    record {
      from = is.from;
      aligned = is.aligned;
      long_enough = omega (arith, is.long_enough, lengths);
      within = omega (arith, is.within, lengths);
      shown = (is.shown.0, (subst (λ count. option_map byte_sum (bytes_in view address count) ≡ Some 0) lengths is.shown.1.0, numbers));
    }
