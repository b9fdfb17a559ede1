use Rattle.vt_layout.proofs.ReadRecords.{same_laid}
use Rattle.vt_layout.proofs.record_laws.one_record_stands_at_a_place.Goals as goal

pub returns : goal.returns
returns g c = same_laid g.T.Laid.fields g.T.Laid.made
