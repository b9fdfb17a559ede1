use Rattle.std.proofs.Common.{ap, ◌∙◌}
use Rattle.vt_layout.specs.Fields.{Gathered, added, all_added, reserved}
use Rattle.acpi_records.specs.Header.{head_fields}
use Rattle.acpi_append.proofs.mcfg.mcfg_rows.Goals as goal

pub returns : goal.returns
unfolding added
returns c =
    ap (λ (all : Gathered). all.rows) (c.reserved.ensures
    ∙ ap (added (reserved 8)) (c.put.ensures ∙ ap (all_added (head_fields c.args.mcfg.now.head)) c.in_ok-rows.ensures))
