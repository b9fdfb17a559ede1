use Rattle.std.proofs.Common.{[]}
use Rattle.vt_layout.proofs.WrittenRecords.{held_laid}
use Rattle.vt_layout.proofs.record_laws.written_record_stands.Goals as goal

pub returns : goal.returns
returns g c = λ t. held_laid g.T.Laid.ROWS g.T.Laid.fields g.T.Laid.made t (g.met.T.Laid.lawful t (g.T.Laid.made []))
