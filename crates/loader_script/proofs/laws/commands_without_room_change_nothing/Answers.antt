use Rattle.loader_script.specs.Run.{opening}
use Rattle.loader_script.proofs.Runs.{without_room, without_from}
use Rattle.loader_script.proofs.laws.commands_without_room_change_nothing.Goals as goal

pub returns : goal.returns
returns c = λ files script places index ends.
    without_from index script (opening files places) (without_room 0 index script (opening files places) ends)
