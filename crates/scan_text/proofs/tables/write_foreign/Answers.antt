use Rattle.vt_outside.proofs.Taken.{took_nothing}
use Rattle.scan_text.specs.List.{length_lines}
use Rattle.scan_text.proofs.tables.write_foreign.Goals as goal

pub returns-in-Some-Terms-clause-ok : goal.returns-in-Some-Terms-clause-ok
unfolding length_lines
returns-in-Some-Terms-clause-ok g c =
    let inside = rw c.in-Some-Terms.is at c.in-Some-Terms.field-0-is in
    rw (c.in-Some-Terms.is, inside) (took_nothing _)

pub returns-in-None-clause-ok : goal.returns-in-None-clause-ok
unfolding length_lines
returns-in-None-clause-ok g c = rw c.in-None.is (took_nothing _)
