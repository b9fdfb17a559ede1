use Rattle.std.proofs.Common.{[]}
use Rattle.vt_layout.proofs.ReadRecords.{read_without_texts}
use Rattle.vt_layout.proofs.record_laws.record_without_texts_is_of_its_rows.Goals as goal

pub returns : goal.returns
returns g c =
    let made = g.T.Laid.made in
    let readable = (g.met.T.Laid.lawful (made []) (made [])).readable in
    λ area strings t. read_without_texts g.T.Laid.fields made area strings t readable
