-- What is seen of a memory.
use Rattle.std.proofs.Common.{◌≡◌, ℕ, ◌+◌, Bool, true, false, List, length, slice_index, Some, None}
use Rattle.std.proofs.Common.{cond, arith, refl, ap, subst, sym, ◌∙◌}
use Rattle.std.proofs.lemmas.Bool.Decides.{nat_tests}
use Rattle.vt_bytes.specs.View.{Holds, bytes_in}
use Rattle.vt_bytes.specs.Memory.{Memory, IsRam, IsRamRange, at, bytes_at, is_ram, seen}
use Rattle.vt_bytes.proofs.Bytes.{index-bytes_at, length-bytes_at}
use Rattle.vt_bytes.proofs.Views.{bytes_in-all}

-- an address that is RAM is tested so
pub ram_tested : (top address : ℕ) → IsRam top address → is_ram top address ≡ true
ram_tested top address ram = grind (arith, nat_tests)

-- and one that is tested so is RAM
pub ram_from_test : (top address : ℕ) → is_ram top address ≡ true → IsRam top address
ram_from_test top address passes = grind (arith, nat_tests)

-- the byte at a RAM address is seen
pub seen-ram : (m : Memory) (address : ℕ) → IsRam m.top address → seen m address ≡ Some (at m address)
unfolding seen
seen-ram m address ram = ap (λ test. cond test (Some (at m address)) None) (ram_tested m.top address ram)

seen_so : (test : Bool) (byte other : ℕ) → cond test (Some byte) None ≡ Some other → byte ≡ other
seen_so true byte other is = cc
seen_so false byte other is = absurd (cc)

-- what is seen at an address is its byte
pub at-seen : (m : Memory) (address byte : ℕ) → seen m address ≡ Some byte → at m address ≡ byte
unfolding seen
at-seen m address byte is = seen_so (is_ram m.top address) (at m address) byte is

-- bytes that stand in RAM are held
pub holds-seen : (m : Memory) (address : ℕ) (bytes : List ℕ) → IsRamRange m.top address (length bytes) → bytes_at m address (length bytes) ≡ bytes
    → Holds (seen m) address bytes
holds-seen m address bytes ram there = λ i below.
    seen-ram m (address + i) (ram i below) ∙ ap Some (sym (index-bytes_at m address (length bytes) i below) ∙ ap (λ all. slice_index all i) there)

-- the bytes of a range that is RAM are shown
pub bytes_in-seen : (m : Memory) (address count : ℕ) → IsRamRange m.top address count
    → bytes_in (seen m) address count ≡ Some (bytes_at m address count)
bytes_in-seen m address count ram =
    let bytes = bytes_at m address count in
    let size : length bytes ≡ count = length-bytes_at m address count in
    let all : IsRamRange m.top address (length bytes) = subst (IsRamRange m.top address) (sym size) ram in
    ap (bytes_in (seen m) address) (sym size)
    ∙ bytes_in-all (seen m) address bytes (holds-seen m address bytes all (ap (bytes_at m address) size))

-- nothing is seen where no RAM is
unseen_so : (test : Bool) (byte : ℕ) → (test ≡ true → ⊥) → cond test (Some byte) None ≡ None
unseen_so true byte fails = absurd (fails refl)
unseen_so false byte fails = refl

pub seen-none : (m : Memory) (address : ℕ) → (IsRam m.top address → ⊥) → seen m address ≡ None
unfolding seen
seen-none m address none = unseen_so (is_ram m.top address) (at m address) (λ passes. none (ram_from_test m.top address passes))
