use Rattle.std.proofs.Common.{ap, ◌∙◌}
use Rattle.vt_layout.specs.Fields.{Gathered, added, all_added, qword}
use Rattle.acpi_records.specs.Header.{head_fields}
use Rattle.acpi_append.proofs.slit.slit_rows.Goals as goal

pub returns : goal.returns
unfolding added
returns c =
    let t = c.args.slit.now in
    ap (λ (all : Gathered). all.rows) (c.qword.ensures
    ∙ ap (added (qword t.count)) (c.put.ensures ∙ ap (all_added (head_fields t.head)) c.in_ok-rows.ensures))
