use Rattle.std.proofs.Common.{ℕ, List, Result, Ok, Err, IsOk, refl}
use Rattle.std.specs.Result.{result_ok}
use Rattle.vt_outside.specs.Placement.{Range, IsFree}
use Rattle.zone_alloc.specs.declared.alloc.NoRoom.{NoRoom}
use Rattle.zone_alloc.specs.declared.zone.Zone.TheVariants.{High}
use Rattle.zone_alloc.specs.declared.policy.Policy.{Policy}
use Rattle.zone_alloc.specs.Places.{range_in}
use Rattle.zone_alloc.specs.Policies.{IsShelfPlace}
use Rattle.test_files.proofs.zones.bounds.place_on.Goals as goal

-- what a policy chooses, or none where none is free, is some place where one is free
given_where_free : (policy : Policy) (zone : Range) (handed : List Range) (size align place : ℕ) (result : Result ℕ NoRoom)
    → IsShelfPlace policy zone handed size align (result_ok result) → IsFree zone handed size align place → IsOk result
given_where_free policy zone handed size align place (Ok given) least free = refl
given_where_free policy zone handed size align place (Err refused) none free = absurd (none place free)

pub returns : goal.returns
returns c =
    λ place. given_where_free c.args.shelf.now.begun.policy (range_in c.args.shelf.now.begun.zones High) c.args.shelf.now.handed 16 16 place
    c.place_by.result c.place_by.ensures
