use Rattle.std.proofs.Common.{◌≡◌, true, refl}
use Rattle.std.specs.Int.{is_power_of_two}
use lib.Count.{ones}
use Rattle.test_ground.proofs.layouts.parts.put_two_pointers.Goals as goal

four : is_power_of_two 4 ≡ true
unfolding ones
four = refl

pub append_layout-requires-clause-power : goal.append_layout-requires-clause-power
append_layout-requires-clause-power c = four
