use Rattle.zone_alloc.proofs.OnePlace.{chosen_is_free, one_place}
use Rattle.zone_alloc.proofs.laws.one_place_is_chosen.Goals as goal

pub returns : goal.returns
returns c = record { free = chosen_is_free; one = one_place }
