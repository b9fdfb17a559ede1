use Rattle.std.proofs.Common.{[]}
use Rattle.vt_layout.proofs.WrittenRecords.{written_read}
use Rattle.vt_layout.proofs.record_laws.written_record_is_read.Goals as goal

pub returns : goal.returns
returns g c =
    let made = g.T.Laid.made in
    let readable = (g.met.T.Laid.lawful (made []) (made [])).readable in
    λ t. written_read g.T.Laid.ROWS g.T.Laid.fields made t (g.met.T.Laid.lawful t (made [])) readable
