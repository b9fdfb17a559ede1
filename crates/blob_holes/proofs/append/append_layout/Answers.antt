use Rattle.std.proofs.Common.{◌++◌, ap, ◌∙◌}
use Rattle.blob_holes.specs.Rows.{with_rows}
use Rattle.blob_holes.specs.Parts.{part_rows}
use Rattle.blob_holes.proofs.PartRows.{appended_with}
use Rattle.blob_holes.proofs.append.append_layout.Goals as goal

pub returns-clause-appended : goal.returns-clause-appended
returns-clause-appended c =
    let rows = c.args.header.now ++ c.args.body.now in
    let is = c.in_ok-append_all.ensures.file ∙ ap (λ b. with_rows b (rows ++ part_rows c.args.parts.now)) c.in_ok-align.ensures.ok in
    appended_with c.args.align c.args.blob.now c.append_all.new.blob rows c.args.parts.now c.len.ensures.blob c.requires.rows c.requires.short is
