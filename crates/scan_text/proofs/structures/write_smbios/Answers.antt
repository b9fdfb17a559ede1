use Rattle.std.proofs.Common.{ap}
use Rattle.std.proofs.lemmas.Result.{on_ok_weaker, on_err_weaker}
use Rattle.vt_outside.proofs.Taken.{took_then, front_then, front_more}
use Rattle.vt_outside.proofs.Results.{on_err}
use Rattle.scan_text.specs.List.{smbios_lines, structure_lines}
use Rattle.scan_text.proofs.Written.{took_same, front_same}
use Rattle.scan_text.proofs.structures.write_smbios.Goals as goal

pub returns-in_err-write_line-in-Some-clause-front : goal.returns-in_err-write_line-in-Some-clause-front
unfolding smbios_lines
returns-in_err-write_line-in-Some-clause-front g c =
    let head = front_same _ _ _ _ c.table_head_line.ensures c.in_err-write_line-in-Some.ensures.front in
    on_err c.from_residual.result _ (rw c.in-Some.is (front_more _ _ _ (structure_lines c.in-Some.table.structures) head))

pub returns-in_ok-write_line-in-Some-clause-ok : goal.returns-in_ok-write_line-in-Some-clause-ok
unfolding smbios_lines
returns-in_ok-write_line-in-Some-clause-ok g c =
    let head = took_same _ _ _ _ c.table_head_line.ensures c.in_ok-write_line-in-Some.ensures.ok in
    on_ok_weaker c.write_structures.result
    (λ lines. rw c.in-Some.is (took_then _ _ _ _ _ head (took_same _ _ _ _ (ap structure_lines c.as_slice.ensures) lines)))
    c.write_structures.ensures.ok

pub returns-in_ok-write_line-in-Some-clause-front : goal.returns-in_ok-write_line-in-Some-clause-front
unfolding smbios_lines
returns-in_ok-write_line-in-Some-clause-front g c =
    let head = took_same _ _ _ _ c.table_head_line.ensures c.in_ok-write_line-in-Some.ensures.ok in
    on_err_weaker c.write_structures.result
    (λ lines. rw c.in-Some.is (front_then _ _ _ _ _ head (front_same _ _ _ _ (ap structure_lines c.as_slice.ensures) lines)))
    c.write_structures.ensures.front

pub returns-in-None-clause-ok : goal.returns-in-None-clause-ok
unfolding smbios_lines
returns-in-None-clause-ok g c = rw c.in-None.is c.write_all.ensures.ok

pub returns-in-None-clause-front : goal.returns-in-None-clause-front
unfolding smbios_lines
returns-in-None-clause-front g c = rw c.in-None.is c.write_all.ensures.front
