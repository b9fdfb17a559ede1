use Rattle.cfg_directory.proofs.Restored.{kept_fits, kept_restores, write_fits_and_goes}
use Rattle.cfg_directory.proofs.laws.writes_are_taken_back.Goals as goal

pub returns-clause-kept : goal.returns-clause-kept
returns-clause-kept c = λ items. (kept_fits items, kept_restores items)

pub returns-clause-write : goal.returns-clause-write
returns-clause-write c = write_fits_and_goes
