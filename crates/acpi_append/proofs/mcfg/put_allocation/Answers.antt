use Rattle.std.proofs.Common.{◌++◌, ap, subst, ◌∙◌}
use Rattle.std.proofs.lemmas.Result.{on_ok_weaker}
use Rattle.std.specs.List.{AllByRecursion}
use Rattle.vt_layout.specs.Rows.{IsRow, spelled}
use Rattle.acpi_append.proofs.EntryPut.{rows_put}
use Rattle.acpi_append.proofs.mcfg.put_allocation.Goals as goal

pub returns : goal.returns
returns c =
    let are = c.rows-2.ensures.rows ∙ c.in_ok-rows.ensures.rows in
    on_ok_weaker c.put_rows.result (λ put.
    rows_put _ c.args.bytes.now c.put_rows.new.bytes (tt, (tt, (tt, (tt, (tt, tt)))))
    (subst (AllByRecursion IsRow) c.in_ok-rows.ensures.rows c.rows-2.ensures.fit)
    (put ∙ ap (λ rows. c.args.bytes.now ++ spelled rows) are)) c.put_rows.ensures
