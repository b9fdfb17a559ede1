-- A memory as a view of addresses that are u64, which are all that it has.
use Rattle.std.specs.Prelude.{◌^◌, ℕ, nat_lt, None, if◌then◌else◌}
use Rattle.std.proofs.Common.{◌≡◌, ◌≤◌, false, cond, arith, ap}
use Rattle.std.proofs.lemmas.Bool.Decides.{nat_tests}
use Rattle.vt_bytes.specs.View.{View}
use Rattle.vt_bytes.specs.Memory.{Memory, seen}

-- what is seen of a memory at an address below 2^64
abbrev pub seen_within : Memory → View
seen_within m address = if nat_lt address (2 ^ 64) then seen m address else None

pub none_past : (m : Memory) (address : ℕ) → 2 ^ 64 ≤ address → seen_within m address ≡ None
none_past m address past =
    let test : nat_lt address (2 ^ 64) ≡ false = grind (arith, nat_tests, past) in
    ap (λ is. cond is (seen m address) None) test
