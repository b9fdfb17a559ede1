use Rattle.image_files.proofs.ScriptFits.{script_fits}
use Rattle.image_files.proofs.laws.scripts_fit_their_entries.Goals as goal

pub returns : goal.returns
returns c = script_fits
