use Rattle.std.proofs.Common.{[]}
use Rattle.vt_layout.proofs.ReadRecords.{read_stands, standing_read}
use Rattle.vt_layout.proofs.record_laws.record_is_read_where_it_stands.Goals as goal

pub returns : goal.returns
returns g c =
    let made = g.T.Laid.made in
    let readable = (g.met.T.Laid.lawful (made []) (made [])).readable in
    record {
      stands = λ area strings t. read_stands g.T.Laid.fields made area strings t readable;
      read = λ area strings t. standing_read g.T.Laid.fields made area strings t readable;
    }
