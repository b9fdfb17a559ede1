use Rattle.loader_script.proofs.Scripts.{script-again, length-script}
use Rattle.loader_script.proofs.laws.written_script_is_read.Goals as goal

pub returns-clause-read : goal.returns-clause-read
returns-clause-read c = script-again

pub returns-clause-size : goal.returns-clause-size
returns-clause-size c = length-script
