use Rattle.std.proofs.Common.{ap, ◌∙◌}
use Rattle.vt_layout.specs.Fields.{Gathered, added, all_added, dword}
use Rattle.acpi_records.specs.Header.{head_fields}
use Rattle.acpi_append.proofs.madt.madt_rows.Goals as goal

pub returns : goal.returns
unfolding added
returns c =
    let t = c.args.madt.now in
    ap (λ (all : Gathered). all.rows) (c.dword-2.ensures
    ∙ ap (added (dword t.flags)) (c.dword.ensures
    ∙ ap (added (dword t.address)) (c.put.ensures ∙ ap (all_added (head_fields t.head)) c.in_ok-rows.ensures)))
