use Rattle.vm_image.proofs.FacsPlace.{facs_is_aligned}
use Rattle.vm_image.proofs.laws.facs_stands_at_a_multiple_of_64.Goals as goal

pub returns : goal.returns
returns c = facs_is_aligned
