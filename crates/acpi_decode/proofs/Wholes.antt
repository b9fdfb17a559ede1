-- A table that is RAM as a whole and sums to zero.
use Rattle.std.proofs.Common.{◌≡◌, ℕ, ◌==◌, true, is_some, List, Option, Some, None, refl, ap, eqb-true}
use Rattle.std.specs.Option.{option_map, unwrap_or}
use Rattle.vt_bytes.specs.Numbers.{byte_sum}
use Rattle.vt_bytes.specs.View.{View, bytes_in}
use Rattle.acpi_decode.specs.Seen.{sum_at, total_at}
use Rattle.acpi_decode.specs.Tests.{Pass}
use Rattle.acpi_decode.specs.TableTests.{whole_tests}

summed : (bytes : Option (List ℕ)) → is_some bytes ≡ true → unwrap_or (option_map byte_sum bytes) 0 ≡ 0 → option_map byte_sum bytes ≡ Some 0
summed None is zero = absurd (cc is)
summed (Some all) is zero = ap Some zero

pub whole_summed : (view : View) (address : ℕ) → Pass (whole_tests view address)
    → option_map byte_sum (bytes_in view address (total_at view address)) ≡ Some 0
whole_summed view address pass =
    summed (bytes_in view address (total_at view address)) pass.0 (eqb-true (sum_at view address (total_at view address)) 0 pass.1.0)

-- and what sums to zero is RAM as a whole
ram_of_sum : (bytes : Option (List ℕ)) → option_map byte_sum bytes ≡ Some 0 → is_some bytes ≡ true
ram_of_sum None is = absurd (cc is)
ram_of_sum (Some all) is = refl

pub summed_whole : (view : View) (address : ℕ) → option_map byte_sum (bytes_in view address (total_at view address)) ≡ Some 0
    → Pass (whole_tests view address)
summed_whole view address is =
    (ram_of_sum (bytes_in view address (total_at view address)) is, (ap (λ o. unwrap_or o 0 == 0) is, tt))
