use Rattle.std.proofs.Common.{Ok, Err, ⊎_elim}
use Rattle.smbios_decode.proofs.OneReading.{as_meant}
use Rattle.smbios_decode.proofs.table.decode_table.Goals as goal

pub returns-clause-reads : goal.returns-clause-reads
returns-clause-reads c =
    λ structures means. as_meant c.args.bytes.now c.decode.result (Ok structures) c.decode.ensures.read c.decode.ensures.refused means

pub returns-clause-refuses : goal.returns-clause-refuses
returns-clause-refuses c =
    λ fault means. as_meant c.args.bytes.now c.decode.result (Err fault) c.decode.ensures.read c.decode.ensures.refused means

pub returns-clause-at_once : goal.returns-clause-at_once
returns-clause-at_once c = λ fault means none.
    ⊎_elim (λ told. told) (λ want. absurd (none (c.decode.ensures.no_memory want)))
    (as_meant c.args.bytes.now c.decode.result (Err fault) c.decode.ensures.read c.decode.ensures.refused means)
