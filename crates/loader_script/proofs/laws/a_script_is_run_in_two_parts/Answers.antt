use Rattle.loader_script.proofs.Runs.{joined}
use Rattle.loader_script.proofs.laws.a_script_is_run_in_two_parts.Goals as goal

pub returns : goal.returns
returns c = joined
