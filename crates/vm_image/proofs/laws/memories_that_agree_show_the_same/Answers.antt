use Rattle.vm_image.proofs.ImageShows.{shown_alike}
use Rattle.vm_image.proofs.laws.memories_that_agree_show_the_same.Goals as goal

pub returns : goal.returns
returns c = λ m items script is. shown_alike m is.shown
