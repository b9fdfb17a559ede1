use Rattle.desc_schema.proofs.WalkedAgain.{written_walked}
use Rattle.desc_schema.proofs.laws.written_values_are_walked.Goals as goal

pub returns : goal.returns
returns c = written_walked
