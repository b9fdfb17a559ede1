use Rattle.vm_image.proofs.OneImage.{has_image, only_image}
use Rattle.vm_image.proofs.laws.a_machine_has_one_image.Goals as goal

pub returns : goal.returns
returns c = record { built = has_image; only = only_image }
