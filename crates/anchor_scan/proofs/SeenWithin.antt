-- A lawful memory is seen as a whole at the addresses that are u64.
use Rattle.std.proofs.Common.{◌≡◌, ℕ, zero, suc, ◌+◌, ◌^◌, ◌<◌, ◌≤◌, ◌&&◌, Bool, true, false, cond, nat_lt, is_some, List, [], ◌∷◌, Option, Some}
use Rattle.std.proofs.Common.{None, inl, inr, arith, refl, ap, sym, ◌∙◌}
use Rattle.std.proofs.Math.Path.{fun_ext}
use Rattle.std.proofs.lemmas.Bool.{cases_lt}
use Rattle.std.proofs.lemmas.Bool.Decides.{nat_tests}
use Rattle.std.specs.Option.{option_map, option_and_then, unwrap_or}
use Rattle.vt_bytes.specs.Numbers.{byte_sum}
use Rattle.vt_bytes.specs.View.{bytes_in}
use Rattle.vt_bytes.specs.Memory.{Memory, IsMemory, IsRam, IsRamRange, is_ram as is_ram_address, at, bytes_at, seen}
use Rattle.vt_bytes.proofs.Views.{ram-shown}
use Rattle.vt_bytes.proofs.Seen.{ram_from_test, seen-none, bytes_in-seen}
use Rattle.guest_memory.specs.RamRange.{is_ram_range}
use Rattle.acpi_decode.specs.Seen.{is_ram, bytes_from, sum_at}
use Rattle.anchor_scan.specs.Within.{seen_within, none_past}

-- below 2^64 nothing is left out
pub within_below : (m : Memory) (address : ℕ) → address < 2 ^ 64 → seen_within m address ≡ seen m address
within_below m address below =
    let test : nat_lt address (2 ^ 64) ≡ true = grind (arith, nat_tests, below) in
    ap (λ is. cond is (seen m address) None) test

-- and there is no RAM from there on
no_ram_past : (m : Memory) (address : ℕ) → IsMemory m → 2 ^ 64 ≤ address → IsRam m.top address → ⊥
no_ram_past m address lawful past (inl low) = omega (arith, past, low.1)
no_ram_past m address lawful past (inr (inl bios)) = omega (arith, past, bios.1)
no_ram_past m address lawful past (inr (inr (inl high))) = omega (arith, past, high.1, lawful.top.at_most)
no_ram_past m address lawful past (inr (inr (inr none))) = none

pub all_within : (m : Memory) → IsMemory m → seen_within m ≡ seen m
all_within m lawful =
    fun_ext (λ address. elim (cases_lt address (2 ^ 64)) as (λ _. seen_within m address ≡ seen m address) [
      | inl below ↦ within_below m address below
      | inr past ↦ none_past m address past ∙ sym (seen-none m address (no_ram_past m address lawful past))
    ])

-- a range is RAM where the test of the memory says so
some_both : (byte : Option ℕ) (rest : Option (List ℕ))
    → is_some (option_and_then (λ first. option_map (λ more. first ∷ more) rest) byte) ≡ (is_some byte && is_some rest)
some_both None rest = refl
some_both (Some first) None = refl
some_both (Some first) (Some more) = refl

some_so : (test : Bool) (byte : ℕ) → is_some (cond test (Some byte) None) ≡ test
some_so true byte = refl
some_so false byte = refl

byte_tested : (m : Memory) (address : ℕ) → is_some (seen m address) ≡ is_ram_address m.top address
unfolding seen
byte_tested m address = some_so (is_ram_address m.top address) (at m address)

pub range_tested : (m : Memory) (address count : ℕ) → is_ram (seen m) address count ≡ is_ram_range m.top address count
unfolding bytes_in is_ram_range
range_tested m address zero = refl
range_tested m address (suc count) =
    some_both (seen m address) (bytes_in (seen m) (address + 1) count) ∙ ap (λ is. is && is_ram (seen m) (address + 1) count) (byte_tested m address)
    ∙ ap (λ is. is_ram_address m.top address && is) (range_tested m (address + 1) count)

-- and each of its addresses is then RAM
ram_so : (test : Bool) (byte other : ℕ) → cond test (Some byte) None ≡ Some other → test ≡ true
ram_so true byte other is = refl
ram_so false byte other is = absurd (cc is)

seen_ram : (m : Memory) (address byte : ℕ) → seen m address ≡ Some byte → IsRam m.top address
unfolding seen
seen_ram m address byte is = ram_from_test m.top address (ram_so (is_ram_address m.top address) (at m address) byte is)

some_bytes : (found : Option (List ℕ)) → is_some found ≡ true → found ≡ Some (unwrap_or found [])
some_bytes None is = absurd (cc is)
some_bytes (Some bytes) is = refl

pub range_ram : (m : Memory) (address count : ℕ) → is_ram (seen m) address count ≡ true → IsRamRange m.top address count
range_ram m address count is i below =
    seen_ram m (address + i) _ (ram-shown (seen m) address count (bytes_from (seen m) address count) i (some_bytes (bytes_in (seen m) address count) is) below)

-- its sum
pub range_summed : (m : Memory) (address count : ℕ) → IsRamRange m.top address count → byte_sum (bytes_at m address count) ≡ sum_at (seen m) address count
range_summed m address count ram = sym (ap (λ o. unwrap_or (option_map byte_sum o) 0) (bytes_in-seen m address count ram))
