use Rattle.std.proofs.Common.{Ok, Err}
use Rattle.acpi_decode.proofs.Meanings.{as_meant}
use Rattle.acpi_decode.proofs.walked.walk_from.Goals as goal

pub returns-clause-shows : goal.returns-clause-shows
returns-clause-shows g c =
    let seen = g.V.MemView.seen c.args.view.now in
    λ walked means. as_meant c.args.form seen c.args.rsdp c.read_from.result (Ok walked) c.read_from.ensures.shown c.read_from.ensures.refused means

pub returns-clause-refuses : goal.returns-clause-refuses
returns-clause-refuses g c =
    let seen = g.V.MemView.seen c.args.view.now in
    λ fault means. as_meant c.args.form seen c.args.rsdp c.read_from.result (Err fault) c.read_from.ensures.shown c.read_from.ensures.refused means
