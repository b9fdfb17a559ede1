use Rattle.image_files.proofs.Room.{have_room}
use Rattle.image_files.proofs.laws.small_files_have_room.Goals as goal

pub returns : goal.returns
returns c = λ top files high low small. have_room top files high small
