use Rattle.loader_script.specs.Run.{opening}
use Rattle.loader_script.proofs.Runs.{done_at}
use Rattle.loader_script.proofs.laws.done_runs_carry_out_each_command.Goals as goal

pub returns : goal.returns
returns c = λ files script places end index entry ends there.
    done_at 0 index script (opening files places) end entry ends there
