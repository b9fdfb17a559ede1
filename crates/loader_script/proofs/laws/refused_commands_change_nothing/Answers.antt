use Rattle.loader_script.specs.Run.{opening}
use Rattle.loader_script.proofs.Runs.{refused_at, refused_from}
use Rattle.loader_script.proofs.laws.refused_commands_change_nothing.Goals as goal

pub returns : goal.returns
returns c = λ files script places index cause ends.
    refused_from index script (opening files places) cause (refused_at 0 index script (opening files places) cause ends)
