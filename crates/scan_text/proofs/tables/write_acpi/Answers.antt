use Rattle.std.proofs.Common.{ap}
use Rattle.std.proofs.lemmas.Result.{on_ok_weaker, on_err_weaker}
use Rattle.vt_outside.proofs.Taken.{took_then, front_then, front_more}
use Rattle.vt_outside.proofs.Results.{on_err}
use Rattle.scan_text.specs.List.{acpi_lines, known_lines, known_tables, unread_lines}
use Rattle.scan_text.proofs.Written.{took_same, front_same}
use Rattle.scan_text.proofs.tables.write_acpi.Goals as goal

pub returns-in_err-write_line-in-Some-clause-front : goal.returns-in_err-write_line-in-Some-clause-front
unfolding acpi_lines
returns-in_err-write_line-in-Some-clause-front g c =
    let oem = front_same _ _ _ _ c.oem_line.ensures c.in_err-write_line-in-Some.ensures.front in
    let tables = c.in-Some.tables in
    on_err c.from_residual.result _
    (rw c.in-Some.is (front_more _ _ _ (unread_lines tables) (front_more _ _ _ (known_lines (known_tables tables)) oem)))

pub returns-in_err-write_known-in-Some-clause-front : goal.returns-in_err-write_known-in-Some-clause-front
unfolding acpi_lines
returns-in_err-write_known-in-Some-clause-front g c =
    let oem = took_same _ _ _ _ c.oem_line.ensures c.in_ok-write_line-in-Some.ensures.ok in
    let known = front_same _ _ _ _ (ap known_lines c.known_tables.ensures) c.in_err-write_known-in-Some.ensures.front in
    on_err c.from_residual-in_err-write_known-in-Some.result _
    (rw c.in-Some.is (front_more _ _ _ (unread_lines c.in-Some.tables) (front_then _ _ _ _ _ oem known)))

pub returns-in_ok-write_known-in-Some-clause-ok : goal.returns-in_ok-write_known-in-Some-clause-ok
unfolding acpi_lines
returns-in_ok-write_known-in-Some-clause-ok g c =
    let oem = took_same _ _ _ _ c.oem_line.ensures c.in_ok-write_line-in-Some.ensures.ok in
    let known = took_same _ _ _ _ (ap known_lines c.known_tables.ensures) c.in_ok-write_known-in-Some.ensures.ok in
    on_ok_weaker c.write_unread.result (λ unread. rw c.in-Some.is (took_then _ _ _ _ _ (took_then _ _ _ _ _ oem known) unread))
    c.write_unread.ensures.ok

pub returns-in_ok-write_known-in-Some-clause-front : goal.returns-in_ok-write_known-in-Some-clause-front
unfolding acpi_lines
returns-in_ok-write_known-in-Some-clause-front g c =
    let oem = took_same _ _ _ _ c.oem_line.ensures c.in_ok-write_line-in-Some.ensures.ok in
    let known = took_same _ _ _ _ (ap known_lines c.known_tables.ensures) c.in_ok-write_known-in-Some.ensures.ok in
    on_err_weaker c.write_unread.result (λ unread. rw c.in-Some.is (front_then _ _ _ _ _ (took_then _ _ _ _ _ oem known) unread))
    c.write_unread.ensures.front

pub returns-in-None-clause-ok : goal.returns-in-None-clause-ok
unfolding acpi_lines
returns-in-None-clause-ok g c = rw c.in-None.is c.write_all.ensures.ok

pub returns-in-None-clause-front : goal.returns-in-None-clause-front
unfolding acpi_lines
returns-in-None-clause-front g c = rw c.in-None.is c.write_all.ensures.front
