-- Powers of two.
use Rattle.std.proofs.Common.{◌≡◌, true, refl}
use Rattle.std.specs.Int.{is_power_of_two}
use lib.Count.{ones}

pub one : is_power_of_two 1 ≡ true
unfolding ones
one = refl

pub sixteen : is_power_of_two 16 ≡ true
unfolding ones
sixteen = refl
