use Rattle.std.proofs.Common.{ap, ap₂, ◌∙◌}
use Rattle.std.specs.Cmp.Lexicographic.{slice_cmp}
use Rattle.std.specs.Ordering.{nat_cmp, is_le}
use Rattle.image_files.proofs.Sorted.{fields_order}
use Rattle.image_files.proofs.by_name.is_not_behind.Goals as goal

pub returns : goal.returns
returns c =
    c.is_le.ensures ∙ ap is_le (c.cmp.ensures ∙ ap₂ (slice_cmp nat_cmp) c.bytes.ensures.field c.bytes-2.ensures.field
    ∙ fields_order c.args.name.now c.args.other.now c.bytes.ensures.name c.bytes-2.ensures.name)
