use Rattle.std.proofs.Common.{◌+◌, ℕ, min, ap, sym, ◌∙◌}
use Rattle.vt_layout.specs.declared.record_size.RecordSize.{RecordSize}
use Rattle.vt_layout.specs.Fields.{most_counted}
use Rattle.vt_layout.proofs.Sizes.{length-bytes_of}
use Rattle.vt_layout.proofs.record_size.RecordSize.with_row.Goals as goal

pub returns : goal.returns
returns c =
    let before = c.args.self in
    let with_area : ℕ → RecordSize = λ area. record { area = area; strings = before.strings } in
    ap with_area c.saturating_add.ensures
    ∙ ap (λ width. with_area (min (before.area + width) most_counted)) (c.width.ensures ∙ sym (length-bytes_of c.args.row.now c.requires))
