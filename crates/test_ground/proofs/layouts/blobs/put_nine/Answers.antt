use Rattle.std.proofs.Common.{◌≡◌, true, refl}
use Rattle.std.specs.Int.{is_power_of_two}
use lib.Count.{ones}
use Rattle.test_ground.proofs.layouts.blobs.put_nine.Goals as goal

eight : is_power_of_two 8 ≡ true
unfolding ones
eight = refl

pub align-requires-clause-power : goal.align-requires-clause-power
align-requires-clause-power c d = eight
