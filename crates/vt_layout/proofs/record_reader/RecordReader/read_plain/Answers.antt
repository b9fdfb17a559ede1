use Rattle.std.proofs.Common.{[], ⊎_elim}
use Rattle.vt_layout.proofs.ReadRecords.{plain_read}
use Rattle.vt_layout.proofs.record_reader.RecordReader.read_plain.Goals as goal

pub unreachable-requires : goal.unreachable-requires
unreachable-requires g c =
    let made = g.T.Laid.made in
    let readable = (g.met.T.Laid.lawful (made []) (made [])).readable in
    let read = plain_read g.T.Laid.fields made c.args.area.now [] readable c.requires.textless c.requires.whole in
    ⊎_elim (λ memory. absurd (cc (memory))) (λ fault. absurd (cc (read, fault))) c.in-Err-TooShort.ensures.err

pub unreachable-requires-in-Err-NoSuchString : goal.unreachable-requires-in-Err-NoSuchString
unreachable-requires-in-Err-NoSuchString g c =
    let made = g.T.Laid.made in
    let readable = (g.met.T.Laid.lawful (made []) (made [])).readable in
    let read = plain_read g.T.Laid.fields made c.args.area.now [] readable c.requires.textless c.requires.whole in
    ⊎_elim (λ memory. absurd (cc (memory))) (λ fault. absurd (cc (read, fault))) c.in-Err-NoSuchString.ensures.err

pub returns-in-Ok : goal.returns-in-Ok
returns-in-Ok g c =
    let made = g.T.Laid.made in
    let readable = (g.met.T.Laid.lawful (made []) (made [])).readable in
    let read = plain_read g.T.Laid.fields made c.args.area.now [] readable c.requires.textless c.requires.whole in
    cc (read, c.in-Ok.ensures.ok)
