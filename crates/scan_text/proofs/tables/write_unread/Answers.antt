use Rattle.std.proofs.Common.{ap}
use Rattle.std.proofs.lemmas.Result.{on_ok_weaker, on_err_weaker}
use Rattle.vt_outside.proofs.Taken.{took_then, front_then, front_more}
use Rattle.vt_outside.proofs.Results.{on_err}
use Rattle.scan_text.specs.List.{unread_lines, length_lines}
use Rattle.scan_text.proofs.Written.{took_same, front_same}
use Rattle.scan_text.proofs.tables.write_unread.Goals as goal

pub returns-in_err-write_foreign-clause-front : goal.returns-in_err-write_foreign-clause-front
unfolding unread_lines
returns-in_err-write_foreign-clause-front g c =
    on_err c.from_residual.result _ (front_more _ _ _ (length_lines c.args.tables.now.others) c.in_err-write_foreign.ensures.front)

pub returns-clause-ok : goal.returns-clause-ok
unfolding unread_lines
returns-clause-ok g c =
    on_ok_weaker c.write_lengths.result
    (λ lines. took_then _ _ _ _ _ c.in_ok-write_foreign.ensures.ok (took_same _ _ _ _ (ap length_lines c.as_slice.ensures) lines))
    c.write_lengths.ensures.ok

pub returns-clause-front : goal.returns-clause-front
unfolding unread_lines
returns-clause-front g c =
    on_err_weaker c.write_lengths.result
    (λ lines. front_then _ _ _ _ _ c.in_ok-write_foreign.ensures.ok (front_same _ _ _ _ (ap length_lines c.as_slice.ensures) lines))
    c.write_lengths.ensures.front
